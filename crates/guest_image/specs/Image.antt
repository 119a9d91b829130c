-- The window of a program: where its segments, its heap and its stack lie.
use Rattle.std.specs.Prelude.{ℕ, ◌+◌, ◌-◌, List, [], ◌∷◌, ◌++◌, length, map, replicate}
use Rattle.guest_image.specs.declared.image.Image.{Image}
use Rattle.guest_image.specs.declared.segment.Segment.{Segment}
use Rattle.guest_image.specs.Memory.{Area}
use Rattle.guest_image.specs.Layout.{window_start, heap_floor}
pub use Rattle.guest_image.specs.Layout.{lowest, highest}
use Rattle.guest_image.specs.declared.layout.TheConstants.{STACK, STACK_AND_GUARD}

-- The window begins at the page of the lowest byte. The heap begins at the first page behind the segments and ends
-- a page below the stack, which is the window's last STACK bytes.
abbrev pub base : Image → ℕ
base image = window_start image.segments

abbrev pub heap_start : Image → ℕ
heap_start image = heap_floor image.segments

abbrev pub stack_top : Image → ℕ
stack_top image = base image + image.window

abbrev pub heap_end : Image → ℕ
heap_end image = stack_top image - STACK_AND_GUARD

-- so many bytes of value 0
unfoldable pub zeros : ℕ → List ℕ
zeros count = replicate count 0

-- the area of a segment: the file's bytes, and zeros behind them
abbrev pub segment_area : Segment → Area
segment_area segment = record {
  start = segment.vaddr;
  flags = segment.flags;
  bytes = segment.filled ++ zeros (segment.memsz - length segment.filled);
}

-- zeros that may be read and written, from one address up to another
abbrev pub blank_area : ℕ → ℕ → Area
blank_area start end = record { start = start; flags = 6; bytes = zeros (end - start) }

-- memory at the start: the segments, the heap and the stack
abbrev pub memory_of : Image → List Area
memory_of image =
    map segment_area image.segments ++ blank_area (heap_start image) (heap_end image) ∷ blank_area (stack_top image - STACK) (stack_top image) ∷ []
