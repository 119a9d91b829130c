use Rattle.asm_lines.proofs.Terms.{length, ◌≡◌, is_written}
use Rattle.asm_lines.proofs.operands.is_written.Given as goal

abbrev pub invariant-bytes : goal.invariant-bytes
invariant-bytes l = is_written l.rest ≡ is_written l.bytes

abbrev pub decreases-bytes : goal.decreases-bytes
decreases-bytes l = length l.rest
