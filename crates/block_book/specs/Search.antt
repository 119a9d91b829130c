-- Where a search among the blocks stops, and what a block needs to stand with others.
use Rattle.std.specs.Prelude.{◌≡◌, ℕ, ◌-◌, ◌<◌, ◌≤◌, true, false, List, length, slice_get, Option, None, Some, nat_le}
use Rattle.std.specs.List.{prefix_len, list_all}
use Rattle.block_book.specs.declared.block.Block.{Block}
use Rattle.block_book.specs.Block.{extent_start, extent_end, is_apart, IsAligned}
use Rattle.block_book.specs.Heap.{Heap, most_blocks, is_live_at}

-- how many blocks, from the first on, have extents that end at an address or below
abbrev pub passed : List Block → ℕ → ℕ
passed blocks at = prefix_len (λ block. nat_le (extent_end block) at) blocks

-- the place of the live block at an address, or there is none
abbrev pub FindsLive : Heap → ℕ → Option ℕ → Type 0
FindsLive heap at None = is_live_at heap at ≡ false
FindsLive heap at (Some place) =
    (is_live_at heap at ≡ true) × (place < length heap.blocks) × (place ≡ passed heap.blocks at)
    × ((block : Block) × (slice_get heap.blocks (passed heap.blocks at) ≡ Some block) × (block.at ≡ at))

-- a block may stand with those of the heap
pub record HasRoom (heap : Heap) (block : Block) : Type 0 where
  pub few : length heap.blocks < most_blocks
  pub aligned : IsAligned block
  pub starts : heap.start ≤ extent_start block
  pub ends : extent_end block ≤ heap.end
  pub apart : list_all (λ other. is_apart (extent_start block) (extent_end block - extent_start block) (extent_start other) (extent_end other)) heap.blocks ≡ true
