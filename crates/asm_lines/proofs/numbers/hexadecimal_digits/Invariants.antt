use Rattle.asm_lines.proofs.Terms.{drop}
use Rattle.asm_lines.proofs.Clipping.{IsHexSoFar}
use Rattle.asm_lines.proofs.numbers.hexadecimal_digits.Given as goal

abbrev pub invariant-digits : goal.invariant-digits
invariant-digits l = IsHexSoFar l.digits (drop l.digit-index l.digits) l.number
