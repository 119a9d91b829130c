-- A heap: the addresses of its ends, the blocks that stand in it, and those that were freed.
use Rattle.std.specs.Prelude.{◌≡◌, ℕ, ◌+◌, ◌%◌, ◌<◌, ◌≤◌, Bool, true, not, ◌&&◌, List, [], ◌∷◌, length, map, take, filter, Option, None, Some, option_map, find, nat_lt, ◌==◌, if◌then◌else◌}
use Rattle.std.specs.List.{list_any, list_all}
use Rattle.block_book.specs.declared.block.Block.{Block}
use Rattle.block_book.specs.declared.site.Freed.{Freed}
use Rattle.block_book.specs.declared.site.Site.{Site}
use Rattle.block_book.specs.declared.standing.Standing.{Standing}
use Rattle.block_book.specs.declared.standing.Standing.TheVariants.{Nothing, Live, Delayed}
use Rattle.block_book.specs.Block.{extent_start, extent_end, reach, reserved_size, lies_in, IsAligned}

-- The heap's bytes are from `start` up to `end`, which isn't one of them. The blocks are in order of address. Those that were freed
-- last are remembered, the latest first; no answer of the allocator looks at them.
pub record Heap : Type 0 where
  pub start : ℕ
  pub end : ℕ
  pub blocks : List Block
  pub freed : List Freed

-- at most so many blocks stand
abbrev pub most_blocks : ℕ
most_blocks = 4096

-- so many of those that were freed are remembered
abbrev pub most_freed : ℕ
most_freed = 256

-- from one address up to another the blocks' extents stand in rising order, and no byte is in two
abbrev pub StandWithin : ℕ → List Block → ℕ → Type 0
StandWithin from [] to = from ≤ to
StandWithin from (block ∷ blocks) to = IsAligned block × (from ≤ extent_start block) × StandWithin (extent_end block) blocks to

-- what is so of every heap
pub record IsHeap (heap : Heap) : Type 0 where
  pub start_multiple : heap.start % 16 ≡ 0
  pub end_multiple : heap.end % 16 ≡ 0
  pub above_null : 0 < heap.start
  pub ordered : heap.start ≤ heap.end
  pub standing : StandWithin heap.start heap.blocks heap.end
  pub few : length heap.blocks ≤ most_blocks

-- the heap of an area, with these blocks in it, and these that were freed
abbrev pub heap_of : ℕ → ℕ → List Block → List Freed → Heap
heap_of start end blocks freed = record { start = start; end = end; blocks = blocks; freed = freed }

-- the heap's ends stay
abbrev pub SameEnds : Heap → Heap → Type 0
SameEnds old new = (new.start ≡ old.start) × (new.end ≡ old.end)

-- a heap in which no block ever stood
abbrev pub empty_heap : ℕ → ℕ → Heap
empty_heap start end = heap_of start end [] []

-- a block among others, in its place by address
abbrev pub insert_block : Block → List Block → List Block
insert_block new [] = new ∷ []
insert_block new (block ∷ blocks) = if nat_lt new.at block.at then new ∷ (block ∷ blocks) else block ∷ insert_block new blocks

-- the heap with a block more
abbrev pub with_block : Heap → Block → Heap
with_block heap new = record heap { blocks = insert_block new heap.blocks }

-- the live block that begins at an address, if one does
abbrev pub live_at : Heap → ℕ → Option Block
live_at heap at = find (λ block. (block.at == at) && not block.delayed) heap.blocks

-- what is remembered once a block was freed at a site, if there was one
abbrev pub remembering : Option Block → Site → List Freed → List Freed
remembering None by freed = freed
remembering (Some block) by freed = take most_freed (record { block = block; by = by } ∷ freed)

-- the heap without the block at an address, which is freed at a site
abbrev pub without_block : Heap → ℕ → Site → Heap
without_block heap at by = record heap {
  blocks = filter (λ block. not (block.at == at)) heap.blocks;
  freed = remembering (live_at heap at) by heap.freed;
}

-- a block, delayed where it is the one at an address: freed, and kept from use
abbrev pub delayed_at : ℕ → Block → Block
delayed_at at block = if block.at == at then record block { delayed = true } else block

-- the heap with the block at an address delayed, which is freed at a site
abbrev pub with_delayed : Heap → ℕ → Site → Heap
with_delayed heap at by = record heap { blocks = map (delayed_at at) heap.blocks; freed = remembering (live_at heap at) by heap.freed }

-- the heap without its delayed blocks
abbrev pub recycled : Heap → Heap
recycled heap = record heap { blocks = filter (λ block. not block.delayed) heap.blocks }

-- what stands at an address
abbrev pub standing_of : Option Block → Standing
standing_of None = Nothing
standing_of (Some block) = if block.delayed then Delayed block.size else Live block.size

-- the block that begins at an address, live or delayed, if one does
abbrev pub starting_at : Heap → ℕ → Option Block
starting_at heap at = find (λ block. block.at == at) heap.blocks

-- what stands at an address of a heap
abbrev pub standing_at : Heap → ℕ → Standing
standing_at heap at = standing_of (starting_at heap at)

-- a live block stands at an address
abbrev pub is_live_at : Heap → ℕ → Bool
is_live_at heap at = list_any (λ block. (block.at == at) && not block.delayed) heap.blocks

-- how many bytes the extent of the live block at an address has from there on, if one stands there
abbrev pub reach_at : Heap → ℕ → Option ℕ
reach_at heap at = option_map reach (live_at heap at)

-- so many bytes from an address on lie in the extent of one block
abbrev pub is_held : Heap → ℕ → ℕ → Bool
is_held heap at len = list_any (λ block. lies_in at len (extent_start block) (extent_end block)) heap.blocks

-- so many bytes from an address on are among those that one live block reserves
abbrev pub is_reserved : Heap → ℕ → ℕ → Bool
is_reserved heap at len = list_any (λ block. not block.delayed && lies_in at len block.at (block.at + reserved_size block.size)) heap.blocks

-- each block is live and without padding
abbrev pub is_bare : Heap → Bool
is_bare heap = list_all (λ block. (block.side == 0) && not block.delayed) heap.blocks

-- of the blocks that are remembered as freed and had an address in their extent, the one that was freed last
abbrev pub freed_at : Heap → ℕ → Option Freed
freed_at heap at = find (λ freed. lies_in at 1 (extent_start freed.block) (extent_end freed.block)) heap.freed
