-- The first bytes of a new block.
use Rattle.std.specs.Prelude.{◌≡◌, ℕ, ◌^◌, ◌<◌, true, Contains}
use Rattle.guest_cpu.specs.Terms.{Ask, Choice, bytes_asked, is_allowed, kept_count, live_blocks, replaced, Heap, IsHeap, GuestPages, blank_span}

-- C allows this answer to an ask, by the blocks of a heap of this memory, and the new block gets so many bytes of the one that it replaces
pub record IsAnswered (space : GuestPages) (choice : Choice) (kept : ℕ) : Type 0 where
  pub heap : Heap
  pub sound : IsHeap heap
  pub near : heap.end < 2 ^ 32
  pub has_heap : Contains space.spans (blank_span heap.start heap.end)
  pub ask : Ask
  pub allowed : is_allowed heap.start heap.end (live_blocks heap.blocks) ask choice ≡ true
  pub kept_is : kept ≡ kept_count (live_blocks heap.blocks) (bytes_asked ask) (replaced ask)
