-- What follows where no refusal holds, and which refusal is the first.
use Rattle.std.proofs.lemmas.List.Sums.{length-filter, count_by-le-length}
use Rattle.elf_file.proofs.Terms.{Bool, List, None, Option, Some, [], ap, ap₂, arith, cond, drop, false, length, length-take, map, max, min, nat_le, nat_lt, refl, sym, true, ℕ, ◌%◌, ◌&&◌, ◌*◌, ◌+◌, ◌-◌, ◌<◌, ◌==◌, ◌^◌, ◌||◌, ◌∙◌, ◌∷◌, ◌≡◌, ◌≤◌, leb-false, ltb-false, or_parts, nat_tests, length-map, All-cons, All-nil, All, filter, list_any, PAGE, STACK_AND_GUARD, Segment, HasBytes, IsPlaced, bad_entry, executable, heap_floor, highest, layout_refusal, lowest, no_load, overlap, share_byte, too_large, window_start, ProgramHeader, e_entry, e_phnum, e_phoff, is_loaded, place_of, program_headers, segment_of, segments_of, bad_segment, bad_table, header_refusal, is_bad, refusal, short, table_refusal}

-- the file has an ELF header, and its program headers lie in it
pub header_lies : (bytes : List ℕ) → header_refusal bytes ≡ None → 52 ≤ length bytes
unfolding header_refusal short
header_lies bytes h = grind (arith, nat_tests)

table_unrefused : (bytes : List ℕ) → header_refusal bytes ≡ None → bad_table bytes ≡ false
unfolding header_refusal
table_unrefused bytes h = grind (arith, nat_tests)

table_fits : (bytes : List ℕ) → bad_table bytes ≡ false → 0 < e_phnum bytes → e_phoff bytes + 32 * e_phnum bytes ≤ length bytes
unfolding bad_table
table_fits bytes h some = grind (arith, nat_tests)

pub table_lies : (bytes : List ℕ) → header_refusal bytes ≡ None → 0 < e_phnum bytes → e_phoff bytes + 32 * e_phnum bytes ≤ length bytes
table_lies bytes h = table_fits bytes (table_unrefused bytes h)

-- no segment is bad
pub segments_unrefused : (size : ℕ) (headers : List ProgramHeader) → table_refusal size headers ≡ None → bad_segment size headers ≡ false
unfolding table_refusal
segments_unrefused size headers h = grind (arith, nat_tests)

-- the first refusal
pub refused_by_header : (bytes : List ℕ) (window number : ℕ) → header_refusal bytes ≡ Some number → refusal bytes window ≡ Some number
unfolding refusal
refused_by_header bytes window number h = rw h refl

pub refused_by_table : (bytes : List ℕ) (window number : ℕ) → header_refusal bytes ≡ None → table_refusal (length bytes) (program_headers bytes) ≡ Some number → refusal bytes window ≡ Some number
unfolding refusal
refused_by_table bytes window number h t = rw (h, t) refl

pub refused_by_layout : (bytes : List ℕ) (window : ℕ) (result : Option ℕ) → header_refusal bytes ≡ None → table_refusal (length bytes) (program_headers bytes) ≡ None → layout_refusal (e_entry bytes) window (segments_of bytes) ≡ result → refusal bytes window ≡ result
unfolding refusal
refused_by_layout bytes window result h t l = rw (h, t) l

not_bad : (a b : Bool) → a ≡ true → (a && b) ≡ false → b ≡ false
not_bad a b e h = rw e at h

loaded_some : (header : ProgramHeader) → is_loaded header ≡ true → header.p_filesz ≤ header.p_memsz → 0 < header.p_memsz
loaded_some header loaded order = grind (arith, nat_tests)

-- a segment that isn't bad
is_placed : (bytes : List ℕ) (header : ProgramHeader) → (is_loaded header && is_bad (length bytes) header) ≡ false → is_loaded header ≡ true → IsPlaced (segment_of bytes header)
is_placed bytes header h loaded =
    let good : is_bad (length bytes) header ≡ false = not_bad _ _ loaded h in
    let parts = or_parts _ _ good in
    let order : header.p_filesz ≤ header.p_memsz = ltb-false _ _ (or_parts _ _ parts.0).0 in
    record {
      some = loaded_some header loaded order;
      given = omega (arith, length-take header.p_filesz (drop header.p_offset bytes));
      below = ltb-false _ _ parts.1;
    }

kept : {Y : Type 0} (P : Y → Type 0) (f : ProgramHeader → Y) (b : Bool) (header : ProgramHeader) (headers : List ProgramHeader) → (b ≡ true → P (f header)) → All P (map f headers) → All P (map f (cond b (header ∷ headers) headers))
kept P f true header headers one all = All-cons P (f header) (map f headers) (one refl) all
kept P f false header headers one all = all

pub all_placed : (bytes : List ℕ) (headers : List ProgramHeader) → bad_segment (length bytes) headers ≡ false → All IsPlaced (map (segment_of bytes) (filter is_loaded headers))
unfolding bad_segment
all_placed bytes [] h = All-nil IsPlaced
all_placed bytes (header ∷ headers) h =
    let parts = or_parts _ _ h in
    kept IsPlaced (segment_of bytes) (is_loaded header) header (filter is_loaded headers) (is_placed bytes header parts.0) (all_placed bytes headers parts.1)

pub all_full : (bytes : List ℕ) (headers : List ProgramHeader) → bad_segment (length bytes) headers ≡ false → All HasBytes (map place_of (filter is_loaded headers))
unfolding bad_segment
all_full bytes [] h = All-nil HasBytes
all_full bytes (header ∷ headers) h =
    let parts = or_parts _ _ h in
    kept HasBytes place_of (is_loaded header) header (filter is_loaded headers) (λ (loaded : is_loaded header ≡ true). (is_placed bytes header parts.0 loaded).some) (all_full bytes headers parts.1)

-- segments are no more than the program headers
pub few_segments : {Y : Type 0} (p : ProgramHeader → Bool) (f : ProgramHeader → Y) (headers : List ProgramHeader) (segments : List Y) → segments ≡ map f (filter p headers) → length headers < 2 ^ 16 → length segments < 2 ^ 16
few_segments p f headers segments e h = omega (arith, ap length e, length-map (filter p headers) f, length-filter p headers, count_by-le-length p headers)

-- where segments lie doesn't depend on their bytes in the file
lowest-places : (bytes : List ℕ) (headers : List ProgramHeader) → lowest (map place_of headers) ≡ lowest (map (segment_of bytes) headers)
lowest-places bytes [] = refl
lowest-places bytes (header ∷ []) = refl
lowest-places bytes (header ∷ next ∷ headers) = ap (min header.p_vaddr) (lowest-places bytes (next ∷ headers))

highest-places : (bytes : List ℕ) (headers : List ProgramHeader) → highest (map place_of headers) ≡ highest (map (segment_of bytes) headers)
highest-places bytes [] = refl
highest-places bytes (header ∷ headers) = ap (max (header.p_vaddr + header.p_memsz)) (highest-places bytes headers)

share_byte-places : (bytes : List ℕ) (header : ProgramHeader) (headers : List ProgramHeader) → list_any (share_byte (place_of header)) (map place_of headers) ≡ list_any (share_byte (segment_of bytes header)) (map (segment_of bytes) headers)
share_byte-places bytes header [] = refl
share_byte-places bytes header (next ∷ headers) = ap (λ (b : Bool). share_byte (place_of header) (place_of next) || b) (share_byte-places bytes header headers)

overlap-places : (bytes : List ℕ) (headers : List ProgramHeader) → overlap (map place_of headers) ≡ overlap (map (segment_of bytes) headers)
unfolding overlap
overlap-places bytes [] = refl
overlap-places bytes (header ∷ headers) = ap₂ (λ (a b : Bool). a || b) (share_byte-places bytes header headers) (overlap-places bytes headers)

no_load-places : (bytes : List ℕ) (headers : List ProgramHeader) → no_load (map place_of headers) ≡ no_load (map (segment_of bytes) headers)
unfolding no_load
no_load-places bytes [] = refl
no_load-places bytes (header ∷ headers) = ap (λ (b : Bool). (header.p_memsz == 0) && b) (no_load-places bytes headers)

executable-places : (bytes : List ℕ) (headers : List ProgramHeader) (at : ℕ) → executable (map place_of headers) at ≡ executable (map (segment_of bytes) headers) at
executable-places bytes [] at = refl
executable-places bytes (header ∷ headers) at =
    ap (λ (b : Bool). ((header.p_flags % 2 == 1) && nat_le header.p_vaddr at && nat_lt at (header.p_vaddr + header.p_memsz)) || b) (executable-places bytes headers at)

bad_entry-places : (bytes : List ℕ) (headers : List ProgramHeader) (entry : ℕ) → bad_entry entry (map place_of headers) ≡ bad_entry entry (map (segment_of bytes) headers)
unfolding bad_entry
bad_entry-places bytes headers entry =
    rw (executable-places bytes headers entry, executable-places bytes headers (entry + 1), executable-places bytes headers (entry + 2), executable-places bytes headers (entry + 3)) refl

too_large-places : (bytes : List ℕ) (headers : List ProgramHeader) (window : ℕ) → too_large window (map place_of headers) ≡ too_large window (map (segment_of bytes) headers)
unfolding too_large
too_large-places bytes headers window = rw (lowest-places bytes headers, highest-places bytes headers) refl

pub layout_refusal-places : (bytes : List ℕ) (headers : List ProgramHeader) (entry window : ℕ) → layout_refusal entry window (map place_of headers) ≡ layout_refusal entry window (map (segment_of bytes) headers)
unfolding layout_refusal
layout_refusal-places bytes headers entry window =
    rw (overlap-places bytes headers, no_load-places bytes headers, bad_entry-places bytes headers entry, too_large-places bytes headers window) refl

-- the segments of a file, by the list of its program headers
pub segments_are : (bytes : List ℕ) (headers : List ProgramHeader) (segments : List Segment) → headers ≡ program_headers bytes → segments ≡ map (segment_of bytes) (filter is_loaded headers) → segments ≡ segments_of bytes
unfolding segments_of
segments_are bytes headers segments h e = e ∙ ap (λ (hs : List ProgramHeader). map (segment_of bytes) (filter is_loaded hs)) h

-- the refusal of the layout, by the places of the segments
pub layout_is : (bytes : List ℕ) (headers : List ProgramHeader) (places : List Segment) (entry window : ℕ) (result : Option ℕ) → headers ≡ program_headers bytes → places ≡ map place_of (filter is_loaded headers) → entry ≡ e_entry bytes → result ≡ layout_refusal entry window places → layout_refusal (e_entry bytes) window (segments_of bytes) ≡ result
layout_is bytes headers places entry window result h p e r =
    let same = layout_refusal-places bytes (filter is_loaded headers) entry window in
    let all = segments_are bytes headers (map (segment_of bytes) (filter is_loaded headers)) h refl in
    ap₂ (λ (n : ℕ) (segments : List Segment). layout_refusal n window segments) (sym e) (sym all)
    ∙ sym same
    ∙ ap (layout_refusal entry window) (sym p)
    ∙ sym r
