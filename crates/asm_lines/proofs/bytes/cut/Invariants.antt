use Rattle.asm_lines.proofs.Terms.{drop, take, ◌≡◌, cut}
use Rattle.asm_lines.proofs.Cutting.{behind_front}
use Rattle.asm_lines.proofs.bytes.cut.Given as goal

abbrev pub invariant-loop-i : goal.invariant-loop-i
invariant-loop-i l = behind_front (take l.i l.bytes) (cut l.mark (drop l.i l.bytes)) ≡ cut l.mark l.bytes
