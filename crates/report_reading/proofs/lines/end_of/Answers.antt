use Rattle.report_reading.proofs.Terms.{false, sym, true, ◌∙◌}
use Rattle.report_reading.proofs.Coded.{end_by}
use Rattle.report_reading.proofs.lines.end_of.Goals as goal

pub returns-then-is_same : goal.returns-then-is_same
returns-then-is_same c =
    end_by c.args.form c.args.line.now c.as_slice.result.now c.end_told-end.result true c.end_told-end.ensures (c.as_slice.ensures ∙ c.in_ok-text.ensures) (sym c.is_same.ensures ∙ c.if-is_same.true)

pub returns : goal.returns
returns c =
    end_by c.args.form c.args.line.now c.as_slice.result.now c.end_told-end.result false c.end_told-end.ensures (c.as_slice.ensures ∙ c.in_ok-text.ensures) (sym c.is_same.ensures ∙ c.if-is_same.false)
