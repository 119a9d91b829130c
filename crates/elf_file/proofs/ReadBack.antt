-- A file that is written is read back: its numbers, its program headers and its segments, over plain lists.
use Rattle.elf_file.proofs.Terms.{Bool, List, None, [], ap, append_assoc, ap₂, arith, cond, drop, false, length, length-append, map, refl, suc, sym, take, true, zero, ℕ, ◌*◌, ◌++◌, ◌+◌, ◌<◌, ◌^◌, ◌∙◌, ◌∷◌, ◌≡◌, ◌≤◌, and_right, le-ltb, or_from, nat_tests, drop-drop, drop_at, take_at, All-head, All-tail, All, filter, little_bytes, little_number, Segment, IsPlaced, ProgramHeader, file_bytes, program_header, header_at, headers_from, is_loaded, number_at, segment_of, bad_segment, dynamic, table_refusal, thread_local}
use Rattle.elf_file.specs.Written.{program_headers}

-- the number of a number's bytes
pub number_of_half : (n : ℕ) → n < 2 ^ 16 → little_number (little_bytes 2 n) ≡ n
number_of_half n fits = omega arith

pub number_of_word : (n : ℕ) → n < 2 ^ 32 → little_number (little_bytes 4 n) ≡ n
number_of_word n fits = omega arith

-- a number behind the first bytes of a file
pub number_at-front : (front bytes : List ℕ) (place k count : ℕ) → length front + k ≡ place → number_at place count (front ++ bytes) ≡ number_at k count bytes
unfolding number_at
number_at-front front bytes place k count e =
    ap (λ n. little_number (take count (drop n (front ++ bytes)))) (sym e)
    ∙ ap (λ rest. little_number (take count rest)) (sym (drop-drop k (length front) (front ++ bytes)))
    ∙ ap (λ rest. little_number (take count (drop k rest))) (drop_at front bytes (length front) refl)

-- the fields of a segment are numbers of four bytes
pub record HasWords (segment : Segment) : Type 0 where
  pub vaddr : segment.vaddr < 2 ^ 32
  pub filesz : length segment.filled < 2 ^ 32
  pub memsz : segment.memsz < 2 ^ 32
  pub flags : segment.flags < 2 ^ 32

-- the program header of a segment whose bytes stand at an offset of the file
abbrev pub header_of : ℕ → Segment → ProgramHeader
header_of offset segment = record {
  p_type = 1;
  p_offset = offset;
  p_vaddr = segment.vaddr;
  p_filesz = length segment.filled;
  p_memsz = segment.memsz;
  p_flags = segment.flags;
}

-- those of segments whose bytes stand one after another from an offset on
abbrev pub headers_of : ℕ → List Segment → List ProgramHeader
headers_of offset [] = []
headers_of offset (segment ∷ segments) = header_of offset segment ∷ headers_of (offset + length segment.filled) segments

abbrev made : ℕ → ℕ → ℕ → ℕ → ℕ → ℕ → ProgramHeader
made type offset vaddr filesz memsz flags = record { p_type = type; p_offset = offset; p_vaddr = vaddr; p_filesz = filesz; p_memsz = memsz; p_flags = flags }

same_made : (a₁ a₂ a₃ a₄ a₅ a₆ b₁ b₂ b₃ b₄ b₅ b₆ : ℕ) → a₁ ≡ b₁ → a₂ ≡ b₂ → a₃ ≡ b₃ → a₄ ≡ b₄ → a₅ ≡ b₅ → a₆ ≡ b₆ → made a₁ a₂ a₃ a₄ a₅ a₆ ≡ made b₁ b₂ b₃ b₄ b₅ b₆
same_made a₁ a₂ a₃ a₄ a₅ a₆ b₁ b₂ b₃ b₄ b₅ b₆ e₁ e₂ e₃ e₄ e₅ e₆ = rw (e₁, e₂, e₃, e₄, e₅, e₆) refl

same_header : (a b : ProgramHeader) → a.p_type ≡ b.p_type → a.p_offset ≡ b.p_offset → a.p_vaddr ≡ b.p_vaddr → a.p_filesz ≡ b.p_filesz → a.p_memsz ≡ b.p_memsz → a.p_flags ≡ b.p_flags → a ≡ b
same_header a b e₁ e₂ e₃ e₄ e₅ e₆ =
    same_made a.p_type a.p_offset a.p_vaddr a.p_filesz a.p_memsz a.p_flags b.p_type b.p_offset b.p_vaddr b.p_filesz b.p_memsz b.p_flags e₁ e₂ e₃ e₄ e₅ e₆

-- a program header at a file's begin
header_at-first : (offset : ℕ) (segment : Segment) (more : List ℕ) → offset < 2 ^ 32 → HasWords segment → header_at 0 (program_header offset segment ++ more) ≡ header_of offset segment
unfolding header_at number_at
header_at-first offset segment more fits words =
    same_header _ _ refl (number_of_word offset fits) (number_of_word segment.vaddr words.vaddr) (number_of_word (length segment.filled) words.filesz) (number_of_word segment.memsz words.memsz) (number_of_word segment.flags words.flags)

header_at-front : (front bytes : List ℕ) (at : ℕ) → length front ≡ at → header_at at (front ++ bytes) ≡ header_at 0 bytes
unfolding header_at
header_at-front front bytes at e =
    same_header _ _
    (number_at-front front bytes at 0 4 (omega arith))
    (number_at-front front bytes (at + 4) 4 4 (omega arith))
    (number_at-front front bytes (at + 8) 8 4 (omega arith))
    (number_at-front front bytes (at + 16) 16 4 (omega arith))
    (number_at-front front bytes (at + 20) 20 4 (omega arith))
    (number_at-front front bytes (at + 24) 24 4 (omega arith))

-- the first program header, and the others
headers_from-first : (at count : ℕ) (bytes : List ℕ) → headers_from at (suc count) bytes ≡ header_at at bytes ∷ headers_from (at + 32) count bytes
headers_from-first at zero bytes =
    let e : at + 32 * 0 ≡ at = omega arith in
    ap (λ n. header_at n bytes ∷ []) e
headers_from-first at (suc count) bytes =
    let e : at + 32 * suc count ≡ at + 32 + 32 * count = omega arith in
    ap₂ (λ (hs : List ProgramHeader) (n : ℕ). hs ++ header_at n bytes ∷ []) (headers_from-first at count bytes) e

-- the program headers that are written
pub headers_from-written : (front more : List ℕ) (at offset : ℕ) (segments : List Segment) → length front ≡ at → offset + length (file_bytes segments) < 2 ^ 32 → All HasWords segments → headers_from at (length segments) (front ++ (program_headers offset segments ++ more)) ≡ headers_of offset segments
headers_from-written front more at offset [] e fits all = refl
headers_from-written front more at offset (segment ∷ segments) e fits all =
    let header : List ℕ = program_header offset segment in
    let later : List ℕ = program_headers (offset + length segment.filled) segments ++ more in
    let split : front ++ ((header ++ program_headers (offset + length segment.filled) segments) ++ more) ≡ front ++ (header ++ later) = ap (λ bytes. front ++ bytes) (append_assoc header (program_headers (offset + length segment.filled) segments) more) in
    let size : length (segment.filled ++ file_bytes segments) ≡ length segment.filled + length (file_bytes segments) = length-append segment.filled (file_bytes segments) in
    let at_next : length (front ++ header) ≡ at + 32 = length-append front header ∙ ap (λ n. n + 32) e in
    let next_fits : offset + length segment.filled + length (file_bytes segments) < 2 ^ 32 = omega arith in
    let here : offset < 2 ^ 32 = omega arith in
    ap (headers_from at (suc (length segments))) split
    ∙ headers_from-first at (length segments) (front ++ (header ++ later))
    ∙ ap₂ (λ (h : ProgramHeader) (hs : List ProgramHeader). h ∷ hs)
    (header_at-front front (header ++ later) at e ∙ header_at-first offset segment later here (All-head HasWords segment segments all))
    (ap (headers_from (at + 32) (length segments)) (sym (append_assoc front header later))
    ∙ headers_from-written (front ++ header) more (at + 32) (offset + length segment.filled) segments at_next next_fits (All-tail HasWords segment segments all))

kept : {X Y : Type 0} (f : X → Y) (b : Bool) (x : X) (xs : List X) → b ≡ true → map f (cond b (x ∷ xs) xs) ≡ f x ∷ map f xs
kept f true x xs e = refl
kept f false x xs e = cc

loaded : (offset : ℕ) (segment : Segment) → 0 < segment.memsz → is_loaded (header_of offset segment) ≡ true
loaded offset segment some = grind (arith, nat_tests)

segment_back : (bytes front rest : List ℕ) (offset : ℕ) (segment : Segment) → bytes ≡ front ++ (segment.filled ++ rest) → length front ≡ offset → segment_of bytes (header_of offset segment) ≡ segment
segment_back bytes front rest offset segment is e =
    let there : drop offset bytes ≡ segment.filled ++ rest = ap (drop offset) is ∙ drop_at front (segment.filled ++ rest) offset e in
    let filled : take (length segment.filled) (drop offset bytes) ≡ segment.filled = ap (take (length segment.filled)) there ∙ take_at segment.filled rest (length segment.filled) refl in
    ap (λ bs. record segment { filled = bs }) filled

-- the segments of the program headers that are written
pub segments_back : (bytes front : List ℕ) (offset : ℕ) (segments : List Segment) → bytes ≡ front ++ file_bytes segments → length front ≡ offset → All IsPlaced segments → map (segment_of bytes) (filter is_loaded (headers_of offset segments)) ≡ segments
segments_back bytes front offset [] is e all = refl
segments_back bytes front offset (segment ∷ segments) is e all =
    let next : bytes ≡ (front ++ segment.filled) ++ file_bytes segments = is ∙ sym (append_assoc front segment.filled (file_bytes segments)) in
    let next_at : length (front ++ segment.filled) ≡ offset + length segment.filled = length-append front segment.filled ∙ ap (λ n. n + length segment.filled) e in
    kept (segment_of bytes) (is_loaded (header_of offset segment)) (header_of offset segment) (filter is_loaded (headers_of (offset + length segment.filled) segments)) (loaded offset segment (All-head IsPlaced segment segments all).some)
    ∙ ap₂ (λ (s : Segment) (ss : List Segment). s ∷ ss)
    (segment_back bytes front (file_bytes segments) offset segment is e)
    (segments_back bytes (front ++ segment.filled) (offset + length segment.filled) segments next next_at (All-tail IsPlaced segment segments all))

-- none of them is refused
not_dynamic : (offset : ℕ) (segments : List Segment) → dynamic (headers_of offset segments) ≡ false
unfolding dynamic
not_dynamic offset [] = refl
not_dynamic offset (segment ∷ segments) = not_dynamic (offset + length segment.filled) segments

not_thread_local : (offset : ℕ) (segments : List Segment) → thread_local (headers_of offset segments) ≡ false
unfolding thread_local
not_thread_local offset [] = refl
not_thread_local offset (segment ∷ segments) = not_thread_local (offset + length segment.filled) segments

not_bad : (size offset : ℕ) (segments : List Segment) → offset + length (file_bytes segments) ≤ size → All IsPlaced segments → bad_segment size (headers_of offset segments) ≡ false
unfolding bad_segment
not_bad size offset [] fits all = refl
not_bad size offset (segment ∷ segments) fits all =
    let placed : IsPlaced segment = All-head IsPlaced segment segments all in
    let long : length (segment.filled ++ file_bytes segments) ≡ length segment.filled + length (file_bytes segments) = length-append segment.filled (file_bytes segments) in
    or_from _ _
    (and_right _ _
    (or_from _ _
    (or_from _ _ (le-ltb segment.memsz (length segment.filled) placed.given) (and_right _ _ (le-ltb size (offset + length segment.filled) (omega arith))))
    (le-ltb (2 ^ 32) (segment.vaddr + segment.memsz) placed.below)))
    (not_bad size (offset + length segment.filled) segments (omega arith) (All-tail IsPlaced segment segments all))

pub table_unrefused : (size offset : ℕ) (segments : List Segment) → offset + length (file_bytes segments) ≤ size → All IsPlaced segments → table_refusal size (headers_of offset segments) ≡ None
unfolding table_refusal
table_unrefused size offset segments fits all = rw (not_dynamic offset segments, not_thread_local offset segments, not_bad size offset segments fits all) refl
