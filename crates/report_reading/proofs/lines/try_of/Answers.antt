use Rattle.report_reading.proofs.Terms.{false, rules, sym, true, ◌∙◌}
use Rattle.report_reading.proofs.Coded.{try_by}
use Rattle.report_reading.proofs.lines.try_of.Goals as goal

pub returns-then-is_same : goal.returns-then-is_same
returns-then-is_same c =
    try_by c.args.number c.args.line.now c.as_slice.result.now c.try_told-t.result true (search rules) c.try_told-t.ensures (c.as_slice.ensures ∙ c.in_ok-text.ensures) (sym c.is_same.ensures ∙ c.if-is_same.true)

pub returns : goal.returns
returns c =
    try_by c.args.number c.args.line.now c.as_slice.result.now c.try_told-t.result false (search rules) c.try_told-t.ensures (c.as_slice.ensures ∙ c.in_ok-text.ensures) (sym c.is_same.ensures ∙ c.if-is_same.false)
