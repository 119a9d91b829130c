use Rattle.std.proofs.Common.{◌≡◌, ℕ, ◌<◌, None}
use Rattle.block_book.specs.Heap.{starting_at}
use Rattle.telling.specs.Places.{down_from}
use Rattle.telling.proofs.place.nearest.Given as goal

abbrev pub invariant-down : goal.invariant-down
invariant-down l = (k : ℕ) → k < l.back → starting_at l.book (down_from l.at k) ≡ None
