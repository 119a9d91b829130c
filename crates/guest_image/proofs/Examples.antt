-- The definitions at values that were worked out by hand from the ELF specification.
use Rattle.guest_image.proofs.Terms.{Bool, List, None, Some, [], false, length, lit<, lit≤, refl, replicate, true, ℕ, ◌++◌, ◌∷◌, ◌≡◌, All-cons, All-nil, All, Image, Segment, Area, byte_at, bytes_at, execute, permitted, put_bytes, read, write, IsPlaced, bad_entry, heap_floor, layout_refusal, no_load, overlap, too_large, base, heap_end, heap_start, memory_of, stack_top, zeros}

-- the program's bytes in a file
abbrev pub echo_bytes : List ℕ
echo_bytes =
    0x37 ∷ 0xf4 ∷ 0xff ∷ 0xff
    ∷ 0x33 ∷ 0x04 ∷ 0x81 ∷ 0x00
    ∷ 0xb7 ∷ 0x14 ∷ 0x00 ∷ 0x00
    ∷ 0x13 ∷ 0x05 ∷ 0x04 ∷ 0x00
    ∷ 0x93 ∷ 0x85 ∷ 0x04 ∷ 0x00
    ∷ 0x93 ∷ 0x08 ∷ 0x10 ∷ 0x00
    ∷ 0x73 ∷ 0x00 ∷ 0x00 ∷ 0x00
    ∷ 0x93 ∷ 0x02 ∷ 0x20 ∷ 0x00
    ∷ 0x63 ∷ 0x04 ∷ 0x56 ∷ 0x00
    ∷ 0x6f ∷ 0xf0 ∷ 0x9f ∷ 0xfe
    ∷ 0x13 ∷ 0x03 ∷ 0x05 ∷ 0x00
    ∷ 0x13 ∷ 0x85 ∷ 0x05 ∷ 0x00
    ∷ 0x93 ∷ 0x05 ∷ 0x04 ∷ 0x00
    ∷ 0x13 ∷ 0x06 ∷ 0x03 ∷ 0x00
    ∷ 0x93 ∷ 0x08 ∷ 0x20 ∷ 0x00
    ∷ 0x73 ∷ 0x00 ∷ 0x00 ∷ 0x00
    ∷ 0x6f ∷ 0xf0 ∷ 0xdf ∷ 0xfc
    ∷ []

-- the program in one segment that may be read and executed, in a window of 4 MiB
abbrev pub echo_segment : Segment
echo_segment = record { vaddr = 0x10000; flags = 5; memsz = 68; filled = echo_bytes }

abbrev pub echo_segments : List Segment
echo_segments = echo_segment ∷ []

pub echo_placed : All IsPlaced echo_segments
echo_placed = All-cons IsPlaced echo_segment [] (record { some = lit< tt; given = lit≤ tt; below = lit≤ tt }) (All-nil IsPlaced)

pub echo_accepted : layout_refusal 0x10000 4194304 echo_segments ≡ None
unfolding layout_refusal overlap no_load bad_entry too_large
echo_accepted = refl

abbrev pub echo_image : Image
echo_image = record {
  entry = 0x10000;
  window = 4194304;
  segments = echo_segments;
  in_window = record { whole = refl; least = lit≤ tt; most = lit≤ tt };
  placed = echo_placed;
  few = lit< tt;
  accepted = echo_accepted;
}

pub echo_base : base echo_image ≡ 0x10000
echo_base = refl

pub echo_heap_start : heap_start echo_image ≡ 0x11000
echo_heap_start = refl

pub echo_heap_end : heap_end echo_image ≡ 0x3ff000
echo_heap_end = refl

pub echo_stack_top : stack_top echo_image ≡ 0x410000
echo_stack_top = refl

-- two segments, the higher one first, and neither at a page's begin
abbrev pub higher : Segment
higher = record { vaddr = 0x20ff0; flags = 6; memsz = 0x20; filled = [] }

abbrev pub lower : Segment
lower = record { vaddr = 0x12344; flags = 5; memsz = 5; filled = [] }

abbrev pub higher_first : List Segment
higher_first = higher ∷ lower ∷ []

pub higher_first_placed : All IsPlaced higher_first
higher_first_placed =
    All-cons IsPlaced higher (lower ∷ []) (record { some = lit< tt; given = lit≤ tt; below = lit≤ tt })
    (All-cons IsPlaced lower [] (record { some = lit< tt; given = lit≤ tt; below = lit≤ tt }) (All-nil IsPlaced))

pub higher_first_accepted : layout_refusal 0x12344 8388608 higher_first ≡ None
unfolding layout_refusal overlap no_load bad_entry too_large
higher_first_accepted = refl

abbrev pub two_segments : Image
two_segments = record {
  entry = 0x12344;
  window = 8388608;
  segments = higher_first;
  in_window = record { whole = refl; least = lit≤ tt; most = lit≤ tt };
  placed = higher_first_placed;
  few = lit< tt;
  accepted = higher_first_accepted;
}

pub two_segments_window : base two_segments ∷ heap_start two_segments ∷ heap_end two_segments ∷ stack_top two_segments ∷ [] ≡ 0x12000 ∷ 0x22000 ∷ 0x801000 ∷ 0x812000 ∷ []
two_segments_window = refl

-- a segment of exactly one page: the heap begins at its end
pub whole_page : heap_floor (record { vaddr = 0x10000; flags = 5; memsz = 0x1000; filled = [] } ∷ []) ≡ 0x11000
whole_page = refl

-- memory at the start: the program, the heap, and a stack of 64 KiB
pub echo_memory : memory_of echo_image ≡
    record { start = 0x10000; flags = 5; bytes = echo_bytes ++ zeros 0 }
    ∷ record { start = 0x11000; flags = 6; bytes = zeros 0x3ee000 }
    ∷ record { start = 0x400000; flags = 6; bytes = zeros 0x10000 }
    ∷ []
echo_memory = refl

-- two areas that touch: 100 to 103 may be read and written, 104 to 107 may be read and executed
abbrev pub two_areas : List Area
two_areas =
    record { start = 100; flags = 6; bytes = 10 ∷ 20 ∷ 30 ∷ 40 ∷ [] } ∷ record { start = 104; flags = 5; bytes = 50 ∷ 60 ∷ 70 ∷ 80 ∷ [] } ∷ []

pub bytes_read : byte_at read two_areas 99 ∷ byte_at read two_areas 100 ∷ byte_at read two_areas 103 ∷ byte_at read two_areas 104 ∷ byte_at read two_areas 107 ∷ byte_at read two_areas 108 ∷ [] ≡ None ∷ Some 10 ∷ Some 40 ∷ Some 50 ∷ Some 80 ∷ None ∷ []
bytes_read = refl

-- an area that doesn't permit this has no byte for it
pub bytes_by_permission : byte_at write two_areas 103 ∷ byte_at write two_areas 104 ∷ byte_at execute two_areas 103 ∷ byte_at execute two_areas 104 ∷ [] ≡ Some 40 ∷ None ∷ None ∷ Some 50 ∷ []
bytes_by_permission = refl

-- a read may cross the seam, a write may not, and neither may go past the end
pub across_the_seam : permitted read two_areas 102 4 ∷ permitted write two_areas 102 4 ∷ permitted write two_areas 100 4 ∷ permitted execute two_areas 104 4 ∷ [] ≡ true ∷ false ∷ true ∷ true ∷ []
unfolding permitted
across_the_seam = refl

pub past_the_end : permitted read two_areas 104 4 ∷ permitted read two_areas 105 4 ∷ permitted read two_areas 99 1 ∷ permitted read two_areas 108 1 ∷ [] ≡ true ∷ false ∷ false ∷ false ∷ []
unfolding permitted
past_the_end = refl

-- no byte at all is permitted anywhere
pub no_bytes : permitted write two_areas 5000 0 ∷ permitted write two_areas 4294967295 0 ∷ [] ≡ true ∷ true ∷ []
unfolding permitted
no_bytes = refl

-- no access goes past 2 ^ 32, whatever an area has there
abbrev pub last_bytes : List Area
last_bytes = record { start = 4294967294; flags = 6; bytes = 1 ∷ 2 ∷ 3 ∷ 4 ∷ [] } ∷ []

pub at_the_last_address : permitted read last_bytes 4294967295 1 ∷ permitted read last_bytes 4294967294 2 ∷ permitted read last_bytes 4294967295 2 ∷ permitted read last_bytes 4294967295 4 ∷ [] ≡ true ∷ true ∷ false ∷ false ∷ []
unfolding permitted
at_the_last_address = refl

pub bytes_across_the_seam : bytes_at read two_areas 102 4 ≡ 30 ∷ 40 ∷ 50 ∷ 60 ∷ []
bytes_across_the_seam = refl

pub bytes_put : put_bytes two_areas 101 (7 ∷ 8 ∷ []) ≡ record { start = 100; flags = 6; bytes = 10 ∷ 7 ∷ 8 ∷ 40 ∷ [] } ∷ record { start = 104; flags = 5; bytes = 50 ∷ 60 ∷ 70 ∷ 80 ∷ [] } ∷ []
bytes_put = refl

-- a byte that may not be written stays
pub bytes_put_across_the_seam : put_bytes two_areas 103 (7 ∷ 8 ∷ []) ≡ record { start = 100; flags = 6; bytes = 10 ∷ 20 ∷ 30 ∷ 7 ∷ [] } ∷ record { start = 104; flags = 5; bytes = 50 ∷ 60 ∷ 70 ∷ 80 ∷ [] } ∷ []
bytes_put_across_the_seam = refl
