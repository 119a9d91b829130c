-- What a run under a guard of the heap keeps to.
use Rattle.std.specs.Prelude.{◌≡◌, ℕ, ◌+◌, ◌<◌, Bool, true, List, Some}
use Rattle.block_book.specs.declared.choice.Choice.{Choice}
use Rattle.heap_guard.specs.Terms.{list_any, Item, lies_in, reserved_size, is_held, Image, Machine, State, start, run, Limits, Override, Path, Served, origin, Range, touched}
use Rattle.heap_guard.specs.Guard.{has_byte_of, permits}
use Rattle.heap_guard.specs.declared.guard.GuardMode.TheVariants.{Extent, Block}

-- the machine touches this range next, and one of its bytes is in the heap
pub record TouchesHeap (m : Machine) (range : Range) : Type 0 where
  pub touches : touched m ≡ Some range
  pub heap : has_byte_of m.heap_start m.heap_end range.at range.count ≡ true

-- a range is among the bytes that one of these live blocks reserves, each an address and a size
abbrev pub is_in_live : List (ℕ × ℕ) → Range → Bool
is_in_live blocks range = list_any (λ block. lies_in range.at range.count block.0 (block.0 + reserved_size block.1)) blocks

-- Whatever of the heap an instruction of a run touches is among the bytes that one block reserves which is live then.
abbrev pub KeepsToLiveBlocks : Image → List Item → List Choice → ℕ → Type 0
KeepsToLiveBlocks image items choices steps =
    (n : ℕ) (s : State) (range : Range) →
    n < steps → run items choices (start image) n ≡ Some s → TouchesHeap s.machine range →
    is_in_live s.machine.blocks range ≡ true

-- Whatever of the heap an instruction of a served run touches lies in the extent of one block that stands then, live or delayed.
abbrev pub KeepsToExtents : Limits → List Item → List Override → Image → Path → Type 0
KeepsToExtents limits items plan image now =
    (way : Path) (range : Range) →
    Served limits items plan (origin image) way → Served limits items plan way now → way.steps < now.steps →
    TouchesHeap way.state.machine range →
    is_held way.heap range.at range.count ≡ true

-- the run that was served under a guard of mode Block, with the answers of the allocator that it used, keeps to live blocks
abbrev pub BlockRunsKeep : Type 0
BlockRunsKeep =
    (limits : Limits) (items : List Item) (plan : List Override) (image : Image) (now : Path) →
    limits.permits ≡ permits Block → Served limits items plan (origin image) now →
    KeepsToLiveBlocks image items now.choices now.steps

-- a served run under a guard of mode Extent keeps to extents
abbrev pub ExtentRunsKeep : Type 0
ExtentRunsKeep =
    (limits : Limits) (items : List Item) (plan : List Override) (image : Image) (now : Path) →
    limits.permits ≡ permits Extent → Served limits items plan (origin image) now →
    KeepsToExtents limits items plan image now
