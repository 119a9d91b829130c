use Rattle.report_reading.proofs.Terms.{drop, take, ◌++◌, ◌≡◌, behind_line, first_line, is_torn}
use Rattle.report_reading.proofs.parts.split_line.Given as goal

abbrev pub invariant-loop-i : goal.invariant-loop-i
invariant-loop-i l = record {
  line : take l.i l.text ++ first_line (drop l.i l.text) ≡ first_line l.text;
  rest : behind_line (drop l.i l.text) ≡ behind_line l.text;
  torn : is_torn (drop l.i l.text) ≡ is_torn l.text;
}
