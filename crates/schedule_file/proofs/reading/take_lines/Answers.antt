use Rattle.schedule_file.proofs.Whole.{takes_answer, takes_some}
use Rattle.schedule_file.proofs.reading.take_lines.Goals as goal

pub lines-smaller : goal.lines-smaller
lines-smaller c = takes_some c.args.version c.lines.rest.now c.split_line.result.0.now c.split_line.result.1.now c.in-Some.answer c.split_line.ensures.line c.split_line.ensures.rest c.in-Some.ensures

pub lines-preserved : goal.lines-preserved
lines-preserved c = let h = c.in_ok-push in rw c.in_ok-push.ensures.items (takes_answer c.args.version c.args.text.now c.lines.rest.now c.split_line.result.0.now c.split_line.result.1.now c.lines.lines.items c.in-Some.answer c.lines.invariant c.split_line.ensures.line c.split_line.ensures.rest c.in-Some.ensures)
