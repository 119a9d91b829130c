-- The addresses of segments, without the rest of them.
use Rattle.std.specs.Prelude.{ℕ, ◌+◌, min, max, Bool, false, ◌||◌, List, [], ◌∷◌, nat_lt}
use Rattle.std.specs.List.{list_any}
use Rattle.guest_image.specs.declared.overlap.Extent.{Extent}
use Rattle.guest_image.specs.declared.segment.Segment.{Segment}

-- the addresses of a segment: its first, and the one behind its last
abbrev pub extent_of : Segment → Extent
extent_of segment = record { start = segment.vaddr; end = segment.vaddr + segment.memsz }

-- two extents share an address
abbrev pub meet : Extent → Extent → Bool
meet a b = nat_lt (max a.start b.start) (min a.end b.end)

-- two of the extents do
abbrev pub some_meet : List Extent → Bool
some_meet [] = false
some_meet (extent ∷ extents) = list_any (meet extent) extents || some_meet extents

-- an extent begins before the one in front of it ends, which for the first is this address
abbrev pub meets_from : ℕ → List Extent → Bool
meets_from end [] = false
meets_from end (extent ∷ extents) = nat_lt extent.start end || meets_from extent.end extents
