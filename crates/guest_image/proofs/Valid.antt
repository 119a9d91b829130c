-- What the type of an image says of it, as those who lay out its memory need it.
use Rattle.guest_image.proofs.Terms.{List, None, [], ap₂, arith, false, get_or, length, map, max, min, sym, true, ℕ, ◌%◌, ◌+◌, ◌<◌, ◌^◌, ◌∙◌, ◌∷◌, ◌≡◌, ◌≤◌, nat_tests, get_or-map, length-map, All-cons, All-nil, All-weaker, apart_from_distinct, All, AllPairs, Image, PAGE, STACK_AND_GUARD, Extent, Segment, bad_entry, executable, highest, layout_refusal, lowest, no_load, overlap, share_byte, extent_of, meet, base, heap_end, heap_start, stack_top}
use Rattle.guest_image.proofs.Overlaps.{distinct, some_meet-extents}
use Rattle.guest_image.proofs.Accepted.{top_below, page_fits}

-- the window ends below 2 ^ 32
pub stack_top_below : (image : Image) → stack_top image < 2 ^ 32
stack_top_below image = top_below image.entry image.window image.segments image.accepted

-- the heap has a page at least
pub heap_has_page : (image : Image) → heap_start image + PAGE ≤ heap_end image
heap_has_page image = page_fits image.entry image.window image.segments image.accepted

-- the heap ends a page below the stack, which has STACK bytes
pub heap_ends : (image : Image) → heap_end image + STACK_AND_GUARD ≡ stack_top image
heap_ends image = let least = image.in_window.least in omega arith

lowest_of : (segments : List Segment) → All (λ (segment : Segment). lowest segments ≤ segment.vaddr) segments
lowest_of [] = All-nil (λ (segment : Segment). 0 ≤ segment.vaddr)
lowest_of (segment ∷ []) = All-cons (λ (s : Segment). segment.vaddr ≤ s.vaddr) segment [] (omega arith) (All-nil (λ (s : Segment). segment.vaddr ≤ s.vaddr))
lowest_of (segment ∷ next ∷ segments) =
    let least : ℕ = min segment.vaddr (lowest (next ∷ segments)) in
    All-cons (λ (s : Segment). least ≤ s.vaddr) segment (next ∷ segments) (omega arith)
    (All-weaker (λ (s : Segment). lowest (next ∷ segments) ≤ s.vaddr) (λ (s : Segment). least ≤ s.vaddr) (λ s h. omega arith) (next ∷ segments) (lowest_of (next ∷ segments)))

highest_of : (segments : List Segment) → All (λ (segment : Segment). segment.vaddr + segment.memsz ≤ highest segments) segments
highest_of [] = All-nil (λ (segment : Segment). segment.vaddr + segment.memsz ≤ 0)
highest_of (segment ∷ segments) =
    let most : ℕ = max (segment.vaddr + segment.memsz) (highest segments) in
    All-cons (λ (s : Segment). s.vaddr + s.memsz ≤ most) segment segments (omega arith)
    (All-weaker (λ (s : Segment). s.vaddr + s.memsz ≤ highest segments) (λ (s : Segment). s.vaddr + s.memsz ≤ most) (λ s h. omega arith) segments (highest_of segments))

-- each segment lies between the window's begin and the heap
pub segments_above : (image : Image) → All (λ (segment : Segment). base image ≤ segment.vaddr) image.segments
segments_above image = All-weaker (λ (s : Segment). lowest image.segments ≤ s.vaddr) (λ (s : Segment). base image ≤ s.vaddr) (λ s h. omega arith) image.segments (lowest_of image.segments)

pub segments_below : (image : Image) → All (λ (segment : Segment). segment.vaddr + segment.memsz ≤ heap_start image) image.segments
segments_below image = All-weaker (λ (s : Segment). s.vaddr + s.memsz ≤ highest image.segments) (λ (s : Segment). s.vaddr + s.memsz ≤ heap_start image) (λ s h. omega arith) image.segments (highest_of image.segments)

-- the tests that don't hold of a layout that isn't refused
pub no_overlap : (entry window : ℕ) (segments : List Segment) → layout_refusal entry window segments ≡ None → overlap segments ≡ false
unfolding layout_refusal
no_overlap entry window segments h = grind (arith, nat_tests)

some_load : (entry window : ℕ) (segments : List Segment) → layout_refusal entry window segments ≡ None → no_load segments ≡ false
unfolding layout_refusal
some_load entry window segments h = grind (arith, nat_tests)

good_entry : (entry window : ℕ) (segments : List Segment) → layout_refusal entry window segments ≡ None → bad_entry entry segments ≡ false
unfolding layout_refusal
good_entry entry window segments h = grind (arith, nat_tests)

apart_at : (segments : List Segment) (i j : ℕ) (d : Segment) → i < length segments → j < length segments → meet (get_or (map extent_of segments) i (extent_of d)) (get_or (map extent_of segments) j (extent_of d)) ≡ false → share_byte (get_or segments i d) (get_or segments j d) ≡ false
apart_at segments i j d first second h =
    sym (ap₂ meet (get_or-map extent_of segments i d (extent_of d) first) (get_or-map extent_of segments j d (extent_of d) second)) ∙ h

-- no two segments share a byte
pub segments_apart : (image : Image) → AllPairs (λ (a b : Segment). share_byte a b ≡ false) image.segments
segments_apart image i j d before within =
    let none : overlap image.segments ≡ false = no_overlap image.entry image.window image.segments image.accepted in
    let extents : List Extent = map extent_of image.segments in
    let in_extents : j < length extents = omega (arith, length-map image.segments extent_of) in
    apart_at image.segments i j d (omega arith) within
    (apart_from_distinct meet extents i j (extent_of d) (distinct extents (some_meet-extents image.segments ∙ none)) before in_extents)

has_first : (segments : List Segment) → no_load segments ≡ false → 0 < length segments
unfolding no_load
has_first [] h = cc
has_first (segment ∷ segments) h = omega arith

-- there is a segment
pub some_segment : (image : Image) → 0 < length image.segments
some_segment image = has_first image.segments (some_load image.entry image.window image.segments image.accepted)

-- the entry is a multiple of 4, and its four bytes may be executed
entry_of : (entry : ℕ) (segments : List Segment) → bad_entry entry segments ≡ false → (entry % 4 ≡ 0) × (executable segments entry ≡ true) × (executable segments (entry + 1) ≡ true) × (executable segments (entry + 2) ≡ true) × (executable segments (entry + 3) ≡ true)
unfolding bad_entry
entry_of entry segments h = grind (arith, nat_tests)

pub entry_executable : (image : Image) → (image.entry % 4 ≡ 0) × (executable image.segments image.entry ≡ true) × (executable image.segments (image.entry + 1) ≡ true) × (executable image.segments (image.entry + 2) ≡ true) × (executable image.segments (image.entry + 3) ≡ true)
entry_executable image = entry_of image.entry image.segments (good_entry image.entry image.window image.segments image.accepted)
