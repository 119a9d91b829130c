use Rattle.trunk_text.proofs.Terms.{length, ◌++◌, ◌≡◌, piece_text}
use Rattle.trunk_text.proofs.escapes.push_piece.Given as goal

abbrev pub invariant-bytes : goal.invariant-bytes
invariant-bytes l = l.text.items ++ piece_text l.rest ≡ l.fn.text.items ++ piece_text l.bytes

abbrev pub decreases-bytes : goal.decreases-bytes
decreases-bytes l = length l.rest
