use Rattle.asm_lines.proofs.Terms.{length, ◌≡◌, strip_blanks}
use Rattle.asm_lines.proofs.bytes.strip_blanks.Given as goal

abbrev pub invariant-blanks : goal.invariant-blanks
invariant-blanks l = strip_blanks l.rest ≡ strip_blanks l.bytes

abbrev pub decreases-blanks : goal.decreases-blanks
decreases-blanks l = length l.rest
