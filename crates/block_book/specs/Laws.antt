-- What holds of every heap.
use Rattle.std.specs.Prelude.{◌≡◌, ℕ, ◌%◌, ◌<◌, ◌≤◌, true, false, length, Some, MatchOption}
use Rattle.block_book.specs.Block.{live_block}
use Rattle.block_book.specs.declared.site.Site.{Site}
use Rattle.block_book.specs.Heap.{Heap, IsHeap, with_block, without_block, with_delayed, recycled, is_bare, most_blocks}
use Rattle.block_book.specs.Placement.{fits, fit, placement}
use Rattle.block_book.specs.Answer.{live_blocks, is_clear, insert_live, without_live}

-- what `fit` answers is the least of all addresses that fit, and None says that none does
abbrev pub FitIsLeast : Type 0
FitIsLeast =
    (heap : Heap) (count from : ℕ) →
    MatchOption (fit heap count from)
    ((at : ℕ) → fits heap count from at ≡ false)
    (λ least. (fits heap count from least ≡ true) × ((at : ℕ) → at < least → fits heap count from at ≡ false))

-- where a block is placed, its bytes meet those of no live block; and with it the heap is a heap
abbrev pub PlacementIsClear : Type 0
PlacementIsClear =
    (heap : Heap) (size side from at : ℕ) (made : Site) →
    IsHeap heap → side % 16 ≡ 0 → side ≤ 256 → placement heap size side from ≡ Some at →
    (0 < at) × (is_clear heap.start heap.end (live_blocks heap.blocks) at size ≡ true) × IsHeap (with_block heap (live_block at size side made))

-- a block that is taken away, delayed or recycled leaves a heap
abbrev pub FreeLeavesHeap : Type 0
FreeLeavesHeap = (heap : Heap) (at : ℕ) (by : Site) → IsHeap heap → IsHeap (without_block heap at by) × IsHeap (with_delayed heap at by) × IsHeap (recycled heap)

-- a block that is put where it is clear of the live ones leaves a heap, where no block is padded or delayed; and none is so afterwards,
-- nor where a block is taken away
abbrev pub PutLeavesHeap : Type 0
PutLeavesHeap =
    (heap : Heap) (at size : ℕ) (made by : Site) → IsHeap heap → is_bare heap ≡ true →
    (length heap.blocks < most_blocks → is_clear heap.start heap.end (live_blocks heap.blocks) at size ≡ true → IsHeap (with_block heap (live_block at size 0 made)))
    × (is_bare (with_block heap (live_block at size 0 made)) ≡ true)
    × (is_bare (without_block heap at by) ≡ true)

-- what a change of the heap makes of the live blocks
abbrev pub LiveBlocksFollow : Type 0
LiveBlocksFollow =
    (heap : Heap) (at size side : ℕ) (made by : Site) → IsHeap heap →
    (live_blocks (with_block heap (live_block at size side made)).blocks ≡ insert_live (at, size) (live_blocks heap.blocks))
    × (live_blocks (without_block heap at by).blocks ≡ without_live at (live_blocks heap.blocks))
    × (live_blocks (with_delayed heap at by).blocks ≡ without_live at (live_blocks heap.blocks))
    × (live_blocks (recycled heap).blocks ≡ live_blocks heap.blocks)
