use Rattle.counts_file.proofs.Terms.{arith, sym, ◌<◌, ◌∙◌, CONNECTIONS}
use Rattle.counts_file.proofs.Refusing.{found_small, takes_line, takes_some}
use Rattle.counts_file.proofs.reading.take_lines.Goals as goal

pub overflow_add-least : goal.overflow_add-least
overflow_add-least c =
    let small : c.in-Some.count.0 < CONNECTIONS = found_small c.split_line.result.0.now c.lines.least c.in-Some.count (sym c.in-Some.is ∙ c.in_ok-count.ensures) in
    omega arith

pub lines-smaller : goal.lines-smaller
lines-smaller c = takes_some c.lines.rest.now c.split_line.result.0.now c.split_line.result.1.now c.lines.least c.in-Some.count c.split_line.ensures.line c.split_line.ensures.rest (sym c.in-Some.is ∙ c.in_ok-count.ensures)

pub lines-preserved : goal.lines-preserved
lines-preserved c =
    let h = c.in_ok-push in
    rw c.in_ok-push.ensures.items
    (takes_line c.args.text.now c.lines.rest.now c.split_line.result.0.now c.split_line.result.1.now c.lines.counts.items c.lines.least c.in-Some.count c.lines.invariant
    c.split_line.ensures.line c.split_line.ensures.rest (sym c.in-Some.is ∙ c.in_ok-count.ensures))
