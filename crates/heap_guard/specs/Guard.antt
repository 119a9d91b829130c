-- What a guard of the heap permits.
use Rattle.std.specs.Prelude.{ℕ, ◌+◌, Bool, not, ◌||◌, max, min, nat_lt}
use Rattle.heap_guard.specs.Terms.{Heap, is_held, is_reserved}
use Rattle.heap_guard.specs.declared.guard.GuardMode.{GuardMode}
use Rattle.heap_guard.specs.declared.guard.GuardMode.TheVariants.{Extent, Block}

-- one of so many bytes from an address on is among those from `start` up to `end`
abbrev pub has_byte_of : ℕ → ℕ → ℕ → ℕ → Bool
has_byte_of start end at count = nat_lt (max at start) (min (at + count) end)

-- So many bytes from an address on lie in one block: for the mode Extent in the extent of one that stands, for the mode Block in the
-- bytes that a live one reserves.
abbrev pub is_in_block : GuardMode → Heap → ℕ → ℕ → Bool
is_in_block Extent heap at count = is_held heap at count
is_in_block Block heap at count = is_reserved heap at count

-- a guard permits an access that has no byte of the heap, or lies in one block
unfoldable pub permits : GuardMode → Heap → ℕ → ℕ → Bool
permits mode heap at count = not (has_byte_of heap.start heap.end at count) || is_in_block mode heap at count
