use Rattle.asm_lines.proofs.Terms.{drop, false, take, ◌++◌, ◌≡◌, uncommented}
use Rattle.asm_lines.proofs.lines.uncommented.Given as goal

abbrev pub invariant-loop-i : goal.invariant-loop-i
invariant-loop-i l = take l.i l.line ++ uncommented l.quoted (drop l.i l.line) ≡ uncommented false l.line
