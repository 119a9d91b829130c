use Rattle.text_lines.proofs.Terms.{length}
use Rattle.text_lines.proofs.Digits.{IsNumberSoFar}
use Rattle.text_lines.proofs.numbers.number_in_front.Given as goal

abbrev pub invariant-digits : goal.invariant-digits
invariant-digits l = IsNumberSoFar l.bytes l.rest l.number

abbrev pub decreases-digits : goal.decreases-digits
decreases-digits l = length l.rest
