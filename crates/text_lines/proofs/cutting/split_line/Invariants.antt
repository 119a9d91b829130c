use Rattle.text_lines.proofs.Terms.{drop, take, ◌++◌, ◌≡◌, behind_line, first_line}
use Rattle.text_lines.proofs.cutting.split_line.Given as goal

abbrev pub invariant-loop-i : goal.invariant-loop-i
invariant-loop-i l = record {
  line : take l.i l.text ++ first_line (drop l.i l.text) ≡ first_line l.text;
  rest : behind_line (drop l.i l.text) ≡ behind_line l.text;
}
