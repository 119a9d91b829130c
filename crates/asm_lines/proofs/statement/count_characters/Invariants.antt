use Rattle.asm_lines.proofs.Terms.{length, ◌+◌, ◌≡◌, ◌≤◌, characters}
use Rattle.asm_lines.proofs.statement.count_characters.Given as goal

abbrev pub invariant-bytes : goal.invariant-bytes
invariant-bytes l = record {
  value : l.count + length (characters l.rest) ≡ length (characters l.text);
  bound : l.count + length l.rest ≤ length l.text;
}

abbrev pub decreases-bytes : goal.decreases-bytes
decreases-bytes l = length l.rest
