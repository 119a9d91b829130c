use Rattle.drill.proofs.Terms.{inr, ◌∙◌}
use Rattle.drill.proofs.DrillLemmas.{front_written, lines_written}
use Rattle.drill.proofs.drilling.run_drill.Goals as goal

pub returns-in-Ok-write_all-clause-ends : goal.returns-in-Ok-write_all-clause-ends
returns-in-Ok-write_all-clause-ends g c =
    lines_written c.args.seed c.args.count _ _ _ c.in-Some.summary _ (record { image = c.in-Ok.image; program = c.in-Ok.ensures.image; sums_up = c.in-Some.ensures.sums_up })
    (c.as_slice.ensures ∙ c.in-Ok-summary_text.ensures) c.in-Ok-write_all.ensures.bytes

pub returns-in-Err-Failed-clause-ends : goal.returns-in-Err-Failed-clause-ends
returns-in-Err-Failed-clause-ends g c =
    front_written c.args.seed c.args.count _ _ _ c.in-Some.summary _ (record { image = c.in-Ok.image; program = c.in-Ok.ensures.image; sums_up = c.in-Some.ensures.sums_up })
    (c.as_slice.ensures ∙ c.in-Ok-summary_text.ensures) c.in-Err-Failed.ensures.bytes

pub returns-clause-ends : goal.returns-clause-ends
returns-clause-ends g c =
    inr (front_written c.args.seed c.args.count _ _ _ c.in-Some.summary _ (record { image = c.in-Ok.image; program = c.in-Ok.ensures.image; sums_up = c.in-Some.ensures.sums_up })
    (c.as_slice.ensures ∙ c.in-Ok-summary_text.ensures) c.in-Err-Memory-write_all.ensures.bytes)
