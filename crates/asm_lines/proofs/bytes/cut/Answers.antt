use Rattle.asm_lines.proofs.Cutting.{cut_here}
use Rattle.asm_lines.proofs.bytes.cut.Goals as goal

pub returns-then-byte-mark : goal.returns-then-byte-mark
returns-then-byte-mark c = rw (c.split_at.ensures.front, c.split_at-then-byte-mark.ensures.back) (cut_here c.args.mark c.args.bytes.now c.loop-i.i c.loop-i-test.true c.if-byte-mark.true c.loop-i.invariant)
