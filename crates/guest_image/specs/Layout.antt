-- Segments in memory: where the window, the heap and the stack lie, and which segments give no program.
use Rattle.std.specs.Prelude.{◌≡◌, ℕ, ◌+◌, ◌-◌, ◌*◌, ◌/◌, ◌%◌, ◌^◌, ◌<◌, ◌≤◌, min, max, Bool, false, not, ◌&&◌, ◌||◌, List, [], ◌∷◌, length, Option, Some, None, nat_le, nat_lt, if◌then◌else◌, ◌==◌}
use Rattle.std.specs.List.{list_all, list_any}
use Rattle.guest_image.specs.declared.layout.TheConstants.{PAGE, STACK_AND_GUARD}
use Rattle.guest_image.specs.declared.segment.Segment.{Segment}

-- the lowest address of a segment, and the first address behind all of them
abbrev pub lowest : List Segment → ℕ
lowest [] = 0
lowest (segment ∷ []) = segment.vaddr
lowest (segment ∷ next ∷ segments) = min segment.vaddr (lowest (next ∷ segments))

abbrev pub highest : List Segment → ℕ
highest [] = 0
highest (segment ∷ segments) = max (segment.vaddr + segment.memsz) (highest segments)

-- the window begins at the page of the lowest byte, and the heap at the first page behind the segments
abbrev pub window_start : List Segment → ℕ
window_start segments = lowest segments / PAGE * PAGE

abbrev pub heap_floor : List Segment → ℕ
heap_floor segments = (highest segments + (PAGE - 1)) / PAGE * PAGE

-- a whole number of MiB, from 1 to 64
pub record IsWindow (window : ℕ) : Type 0 where
  pub whole : window % 2 ^ 20 ≡ 0
  pub least : 2 ^ 20 ≤ window
  pub most : window ≤ 2 ^ 26

-- a segment has bytes
abbrev pub HasBytes : Segment → Type 0
HasBytes segment = 0 < segment.memsz

-- it has, the file gives no more of them than there are, and none lies past 2 ^ 32
pub record IsPlaced (segment : Segment) : Type 0 where
  pub some : HasBytes segment
  pub given : length segment.filled ≤ segment.memsz
  pub below : segment.vaddr + segment.memsz ≤ 2 ^ 32

-- its flags are a word of four bytes
abbrev pub HasWordFlags : Segment → Type 0
HasWordFlags segment = segment.flags < 2 ^ 32

-- two segments share a byte of memory
abbrev pub share_byte : Segment → Segment → Bool
share_byte a b = nat_lt (max a.vaddr b.vaddr) (min (a.vaddr + a.memsz) (b.vaddr + b.memsz))

-- Overlap: two of the segments do
unfoldable pub overlap : List Segment → Bool
overlap [] = false
overlap (segment ∷ segments) = list_any (share_byte segment) segments || overlap segments

-- NoLoad: no segment has a byte
unfoldable pub no_load : List Segment → Bool
no_load = list_all (λ (segment : Segment). segment.memsz == 0)

-- the address is in a segment that may be executed (flag 1)
abbrev pub executable : List Segment → ℕ → Bool
executable segments at =
    list_any (λ (segment : Segment). (segment.flags % 2 == 1) && nat_le segment.vaddr at && nat_lt at (segment.vaddr + segment.memsz)) segments

-- Entry: the entry is no multiple of 4, or one of its four bytes isn't in such a segment
unfoldable pub bad_entry : ℕ → List Segment → Bool
bad_entry entry segments =
    not (entry % 4 == 0) || not (list_all (executable segments) (entry ∷ (entry + 1) ∷ (entry + 2) ∷ (entry + 3) ∷ []))

-- TooLarge: the window reaches 2 ^ 32, or a page doesn't fit between the segments and the stack. The heap ends a page
-- below the stack, which is the window's last STACK bytes.
unfoldable pub too_large : ℕ → List Segment → Bool
too_large window segments =
    nat_le (2 ^ 32) (window_start segments + window) || nat_lt (window_start segments + window - STACK_AND_GUARD) (heap_floor segments + PAGE)

-- the first that holds, by its number
unfoldable pub layout_refusal : ℕ → ℕ → List Segment → Option ℕ
layout_refusal entry window segments =
    if overlap segments then Some 12 else
    if no_load segments then Some 13 else
    if bad_entry entry segments then Some 14 else
    if too_large window segments then Some 15 else
    None
