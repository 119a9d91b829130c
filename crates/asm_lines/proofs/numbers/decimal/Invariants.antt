use Rattle.asm_lines.proofs.Terms.{drop}
use Rattle.asm_lines.proofs.Clipping.{IsDecimalSoFar}
use Rattle.asm_lines.proofs.numbers.decimal.Given as goal

abbrev pub invariant-digits : goal.invariant-digits
invariant-digits l = IsDecimalSoFar l.digits (drop l.digit-index l.digits) l.number
