-- Segments that share no byte have no more bytes than the window that they lie in.
use Rattle.guest_image.specs.Image.{base, heap_end, heap_start, stack_top}
use Rattle.elf_file.proofs.Terms.{List, [], add-zero, ap, arith, false, length, length-append, max, min, refl, suc, zero, ℕ, ⊎_elim, ◌+◌, ◌-◌, ◌<◌, ◌∷◌, ◌≡◌, ◌≤◌, cases_lt, ltb-false, or_parts, All-head, All-tail, All, list_any, Image, PAGE, STACK_AND_GUARD, Segment, heap_ends, heap_has_page, no_overlap, segments_above, IsPlaced, highest, overlap, share_byte, file_bytes}

-- how many of a segment's bytes lie below an address
abbrev below : ℕ → Segment → ℕ
below at segment = min at (segment.vaddr + segment.memsz) - segment.vaddr

abbrev all_below : ℕ → List Segment → ℕ
all_below at [] = 0
all_below at (segment ∷ segments) = below at segment + all_below at segments

-- where a segment has the byte at an address, those that share no byte with it haven't
others_stay : (at : ℕ) (segment : Segment) (segments : List Segment) → list_any (share_byte segment) segments ≡ false → segment.vaddr ≤ at → at < segment.vaddr + segment.memsz → all_below (at + 1) segments ≡ all_below at segments
others_stay at segment [] h from to = refl
others_stay at segment (next ∷ segments) h from to =
    let parts = or_parts _ _ h in
    let apart : min (segment.vaddr + segment.memsz) (next.vaddr + next.memsz) ≤ max segment.vaddr next.vaddr = ltb-false _ _ parts.0 in
    let same : below (at + 1) next ≡ below at next = omega arith in
    omega (arith, others_stay at segment segments parts.1 from to)

-- one more address brings one more byte at most
all_below-more : (at : ℕ) (segments : List Segment) → overlap segments ≡ false → all_below (at + 1) segments ≤ all_below at segments + 1
unfolding overlap
all_below-more at [] h = omega arith
all_below-more at (segment ∷ segments) h =
    let parts = or_parts (list_any (share_byte segment) segments) (overlap segments) h in
    let later : all_below (at + 1) segments ≤ all_below at segments + 1 = all_below-more at segments parts.1 in
    ⊎_elim
    (λ (before : at < segment.vaddr). omega arith)
    (λ (from : segment.vaddr ≤ at).
    ⊎_elim
    (λ (to : at < segment.vaddr + segment.memsz). omega (arith, others_stay at segment segments parts.0 from to))
    (λ (behind : segment.vaddr + segment.memsz ≤ at). omega arith)
    (cases_lt at (segment.vaddr + segment.memsz)))
    (cases_lt at segment.vaddr)

all_below-none : (at : ℕ) (segments : List Segment) → All (λ (segment : Segment). at ≤ segment.vaddr) segments → all_below at segments ≡ 0
all_below-none at [] all = refl
all_below-none at (segment ∷ segments) all =
    let from : at ≤ segment.vaddr = All-head (λ (s : Segment). at ≤ s.vaddr) segment segments all in
    omega (arith, all_below-none at segments (All-tail (λ (s : Segment). at ≤ s.vaddr) segment segments all))

-- so many addresses bring so many bytes at most
all_below-count : (start count : ℕ) (segments : List Segment) → All (λ (segment : Segment). start ≤ segment.vaddr) segments → overlap segments ≡ false → all_below (start + count) segments ≤ count
all_below-count start zero segments all h =
    omega (arith, ap (λ at. all_below at segments) (add-zero start), all_below-none start segments all)
all_below-count start (suc count) segments all h =
    let next : start + suc count ≡ start + count + 1 = omega arith in
    omega (arith, ap (λ at. all_below at segments) next, all_below-more (start + count) segments h, all_below-count start count segments all h)

-- the file has no more bytes than lie below an address behind all segments
file_bytes-below : (at : ℕ) (segments : List Segment) → highest segments ≤ at → All IsPlaced segments → length (file_bytes segments) ≤ all_below at segments
file_bytes-below at [] behind placed = omega arith
file_bytes-below at (segment ∷ segments) behind placed =
    let given : length segment.filled ≤ segment.memsz = (All-head IsPlaced segment segments placed).given in
    let rest : highest segments ≤ at = omega arith in
    omega (arith, length-append segment.filled (file_bytes segments), file_bytes-below at segments rest (All-tail IsPlaced segment segments placed))

-- the segments' bytes in the file are no more than the window has
pub file_bytes-window : (image : Image) → length (file_bytes image.segments) ≤ image.window
file_bytes-window image =
    let apart : overlap image.segments ≡ false = no_overlap image.entry image.window image.segments image.accepted in
    let page : heap_start image + PAGE ≤ heap_end image = heap_has_page image in
    let ends : heap_end image + STACK_AND_GUARD ≡ stack_top image = heap_ends image in
    let behind : highest image.segments ≤ base image + image.window = omega arith in
    omega (arith, file_bytes-below (base image + image.window) image.segments behind image.placed, all_below-count (base image) image.window image.segments (segments_above image) apart)
