use Rattle.report_reading.proofs.Terms.{[], ap, false, sym, true, ◌∙◌, failure_text, episode_with}
use Rattle.report_reading.proofs.Coded.{failure_by}
use Rattle.report_reading.proofs.lines.failure_of.Goals as goal

pub returns-then-is_same : goal.returns-then-is_same
returns-then-is_same c =
    let told = c.failure_told-failure.result in
    failure_by c.args.number c.args.line.now c.as_slice.result.now (episode_with told []) true c.failure_told-failure.ensures
    (c.as_slice.ensures ∙ c.in_ok-text.ensures ∙ ap (failure_text c.args.number) (c.with-e.ensures ∙ ap (episode_with told) c.new.ensures.items))
    (sym c.is_same.ensures ∙ c.if-is_same.true)

pub returns : goal.returns
returns c =
    let told = c.failure_told-failure.result in
    failure_by c.args.number c.args.line.now c.as_slice.result.now (episode_with told []) false c.failure_told-failure.ensures
    (c.as_slice.ensures ∙ c.in_ok-text.ensures ∙ ap (failure_text c.args.number) (c.with-e.ensures ∙ ap (episode_with told) c.new.ensures.items))
    (sym c.is_same.ensures ∙ c.if-is_same.false)
