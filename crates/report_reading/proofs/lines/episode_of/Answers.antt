use Rattle.report_reading.proofs.Terms.{false, sym, true, ◌∙◌}
use Rattle.report_reading.proofs.Coded.{episode_by}
use Rattle.report_reading.proofs.lines.episode_of.Goals as goal

pub returns-then-is_same : goal.returns-then-is_same
returns-then-is_same c =
    episode_by c.args.number c.args.line.now c.as_slice.result.now c.in_ok-e.e true c.in_ok-e.ensures.few c.in_ok-e.ensures.told (c.as_slice.ensures ∙ c.in_ok-text.ensures) (sym c.is_same.ensures ∙ c.if-is_same.true)

pub returns-else-is_same : goal.returns-else-is_same
returns-else-is_same c =
    episode_by c.args.number c.args.line.now c.as_slice.result.now c.in_ok-e.e false c.in_ok-e.ensures.few c.in_ok-e.ensures.told (c.as_slice.ensures ∙ c.in_ok-text.ensures) (sym c.is_same.ensures ∙ c.if-is_same.false)
