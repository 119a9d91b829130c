use Rattle.text_lines.proofs.Terms.{drop, ◌≡◌, is_line}
use Rattle.text_lines.proofs.cutting.is_line.Given as goal

abbrev pub invariant-loop-i : goal.invariant-loop-i
invariant-loop-i l = is_line (drop l.i l.bytes) ≡ is_line l.bytes
