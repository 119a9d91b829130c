use Rattle.rv_asm.proofs.Terms.{length, ◌++◌, ◌≡◌, characters}
use Rattle.rv_asm.proofs.writing.push_characters.Given as goal

abbrev pub invariant-bytes : goal.invariant-bytes
invariant-bytes l = l.out.items ++ characters l.rest ≡ l.initial.out.items ++ characters l.text

abbrev pub decreases-bytes : goal.decreases-bytes
decreases-bytes l = length l.rest
