use Rattle.asm_lines.proofs.Terms.{length, ◌≡◌, skip_blanks}
use Rattle.asm_lines.proofs.bytes.skip_blanks.Given as goal

abbrev pub invariant-blanks : goal.invariant-blanks
invariant-blanks l = skip_blanks l.rest ≡ skip_blanks l.bytes

abbrev pub decreases-blanks : goal.decreases-blanks
decreases-blanks l = length l.rest
