-- The file that is written of an image gives the image back.
use Rattle.elf_file.proofs.Terms.{List, None, [], ap, append_assoc, ap₂, arith, false, length, length-append, map, refl, subst, sym, true, ℕ, ⊎_elim, ◌*◌, ◌++◌, ◌+◌, ◌<◌, ◌^◌, ◌∙◌, ◌∷◌, ◌≡◌, ◌≤◌, and_right, cases_lt, le-ltb, or_from, All, filter, Image, Segment, entry_executable, heap_ends, heap_has_page, segments_below, stack_top_below, HasWordFlags, executable, highest, layout_refusal, file_bytes, file_header, written, e_entry, e_phentsize, e_phnum, e_phoff, headers_from, is_loaded, number_at, segment_of, segments_of, IsImage, bad_flags, bad_table, header_refusal, not_class_32, not_elf, not_exec, not_little, not_riscv, refusal, short, table_refusal}
use Rattle.elf_file.specs.Written.{program_headers}
use Rattle.elf_file.specs.ProgramFile.{program_headers as headers_in}
use Rattle.elf_file.proofs.Sizes.{file_bytes-window}
use Rattle.elf_file.proofs.ReadBack.{number_of_half, number_of_word, HasWords, headers_of, headers_from-written, segments_back, table_unrefused}
use Rattle.elf_file.proofs.Refusing.{refused_by_layout}

-- no address behind all segments may be executed
not_executable : (segments : List Segment) (at : ℕ) → highest segments ≤ at → executable segments at ≡ false
not_executable [] at behind = refl
not_executable (segment ∷ segments) at behind =
    let here : segment.vaddr + segment.memsz ≤ at = omega arith in
    let later : highest segments ≤ at = omega arith in
    or_from _ _ (and_right _ _ (le-ltb at (segment.vaddr + segment.memsz) here)) (not_executable segments at later)

entry_below : (segments : List Segment) (at : ℕ) → executable segments at ≡ true → at < highest segments
entry_below segments at h =
    ⊎_elim
    (λ (below : at < highest segments). below)
    (λ (behind : highest segments ≤ at). let no : executable segments at ≡ false = not_executable segments at behind in cc)
    (cases_lt at (highest segments))

-- the entry and the segments' fields are numbers of four bytes
entry_fits : (image : Image) → image.entry < 2 ^ 32
entry_fits image =
    let page = heap_has_page image in
    let ends = heap_ends image in
    let top = stack_top_below image in
    omega (arith, entry_below image.segments image.entry (entry_executable image).1)

has_words : (image : Image) → All HasWordFlags image.segments → All HasWords image.segments
has_words image flags k d below =
    let page = heap_has_page image in
    let ends = heap_ends image in
    let top = stack_top_below image in
    let placed = image.placed k d below in
    let under = segments_below image k d below in
    record {
      vaddr = omega (arith, placed.some, under);
      filesz = omega (arith, placed.given, under);
      memsz = omega (arith, under);
      flags = flags k d below;
    }

-- what stands in the ELF header that is written, whatever follows it
type_back : (image : Image) (rest : List ℕ) → not_exec (file_header image ++ rest) ≡ false
unfolding not_exec number_at
type_back image rest = refl

elf_back : (image : Image) (rest : List ℕ) → not_elf (file_header image ++ rest) ≡ false
unfolding not_elf
elf_back image rest = refl

class_back : (image : Image) (rest : List ℕ) → not_class_32 (file_header image ++ rest) ≡ false
unfolding not_class_32
class_back image rest = refl

little_back : (image : Image) (rest : List ℕ) → not_little (file_header image ++ rest) ≡ false
unfolding not_little
little_back image rest = refl

machine_back : (image : Image) (rest : List ℕ) → not_riscv (file_header image ++ rest) ≡ false
unfolding not_riscv number_at
machine_back image rest = refl

flags_back : (image : Image) (rest : List ℕ) → bad_flags (file_header image ++ rest) ≡ false
unfolding bad_flags number_at
flags_back image rest = refl

entry_back : (image : Image) (rest : List ℕ) → e_entry (file_header image ++ rest) ≡ image.entry
unfolding number_at
entry_back image rest = number_of_word image.entry (entry_fits image)

phoff_back : (image : Image) (rest : List ℕ) → e_phoff (file_header image ++ rest) ≡ 52
unfolding number_at
phoff_back image rest = refl

phentsize_back : (image : Image) (rest : List ℕ) → e_phentsize (file_header image ++ rest) ≡ 32
unfolding number_at
phentsize_back image rest = refl

phnum_back : (image : Image) (rest : List ℕ) → e_phnum (file_header image ++ rest) ≡ length image.segments
unfolding number_at
phnum_back image rest = number_of_half (length image.segments) image.few

table_back : (image : Image) (rest : List ℕ) → 32 * length image.segments ≤ length rest → bad_table (file_header image ++ rest) ≡ false
unfolding bad_table
table_back image rest lies =
    let size : length (file_header image ++ rest) ≡ 52 + length rest = length-append (file_header image) rest in
    rw (phnum_back image rest, phentsize_back image rest, phoff_back image rest)
    (and_right _ _ (le-ltb (length (file_header image ++ rest)) (52 + 32 * length image.segments) (omega arith)))

not_short : (image : Image) (rest : List ℕ) → short (file_header image ++ rest) ≡ false
unfolding short
not_short image rest = le-ltb (length (file_header image ++ rest)) 52 (omega (arith, length-append (file_header image) rest))

header_unrefused : (image : Image) (rest : List ℕ) → 32 * length image.segments ≤ length rest → header_refusal (file_header image ++ rest) ≡ None
unfolding header_refusal
header_unrefused image rest lies =
    rw (not_short image rest, elf_back image rest, class_back image rest, little_back image rest, type_back image rest, machine_back image rest, flags_back image rest, table_back image rest lies) refl

length-program_headers : (offset : ℕ) (segments : List Segment) → length (program_headers offset segments) ≡ 32 * length segments
length-program_headers offset [] = refl
length-program_headers offset (segment ∷ segments) =
    omega (arith, length-program_headers (offset + length segment.filled) segments)

-- where the segments' bytes begin, and what stands behind the ELF header
abbrev bytes_from : Image → ℕ
bytes_from image = 52 + 32 * length image.segments

abbrev behind_header : Image → List ℕ
behind_header image = program_headers (bytes_from image) image.segments ++ file_bytes image.segments

length-behind_header : (image : Image) → length (behind_header image) ≡ 32 * length image.segments + length (file_bytes image.segments)
length-behind_header image =
    omega (arith, length-append (program_headers (bytes_from image) image.segments) (file_bytes image.segments), length-program_headers (bytes_from image) image.segments)

headers_back : (image : Image) → All HasWordFlags image.segments → headers_in (file_header image ++ behind_header image) ≡ headers_of (bytes_from image) image.segments
unfolding headers_in
headers_back image flags =
    let most = image.in_window.most in
    let fits : bytes_from image + length (file_bytes image.segments) < 2 ^ 32 = omega (arith, file_bytes-window image, image.few) in
    ap₂ (λ (at count : ℕ). headers_from at count (file_header image ++ behind_header image)) (phoff_back image (behind_header image)) (phnum_back image (behind_header image))
    ∙ headers_from-written (file_header image) (file_bytes image.segments) 52 (bytes_from image) image.segments refl fits (has_words image flags)

parts : (image : Image) → file_header image ++ behind_header image ≡ written image
parts image = sym (append_assoc (file_header image) (program_headers (bytes_from image) image.segments) (file_bytes image.segments))

length-headers : (image : Image) → length (file_header image ++ program_headers (bytes_from image) image.segments) ≡ bytes_from image
length-headers image =
    omega (arith, length-append (file_header image) (program_headers (bytes_from image) image.segments), length-program_headers (bytes_from image) image.segments)

all_segments_back : (image : Image) → All HasWordFlags image.segments → segments_of (file_header image ++ behind_header image) ≡ image.segments
unfolding segments_of
all_segments_back image flags =
    let bytes : List ℕ = file_header image ++ behind_header image in
    ap (λ hs. map (segment_of bytes) (filter is_loaded hs)) (headers_back image flags)
    ∙ segments_back bytes (file_header image ++ program_headers (bytes_from image) image.segments) (bytes_from image) image.segments (parts image) (length-headers image) image.placed

unrefused : (image : Image) → All HasWordFlags image.segments → refusal (file_header image ++ behind_header image) image.window ≡ None
unrefused image flags =
    let bytes : List ℕ = file_header image ++ behind_header image in
    let size : length bytes ≡ 52 + length (behind_header image) = length-append (file_header image) (behind_header image) in
    let lies : 32 * length image.segments ≤ length (behind_header image) = omega (arith, length-behind_header image) in
    let fits : bytes_from image + length (file_bytes image.segments) ≤ length bytes = omega (arith, length-behind_header image) in
    refused_by_layout bytes image.window None
    (header_unrefused image (behind_header image) lies)
    (ap (table_refusal (length bytes)) (headers_back image flags) ∙ table_unrefused (length bytes) (bytes_from image) image.segments fits image.placed)
    (ap₂ (λ (entry : ℕ) (segments : List Segment). layout_refusal entry image.window segments) (entry_back image (behind_header image)) (all_segments_back image flags) ∙ image.accepted)

-- what is written of an image is a file of it
pub round_trip : (image : Image) → All HasWordFlags image.segments → IsImage (written image) image.window image
round_trip image flags =
    let back : IsImage (file_header image ++ behind_header image) image.window image = record {
      accepted = unrefused image flags;
      entry = sym (entry_back image (behind_header image));
      in_window = refl;
      segments = sym (all_segments_back image flags);
    } in
    subst (λ (bytes : List ℕ). IsImage bytes image.window image) (parts image) back

-- the segments' bytes fit
pub file_bytes-fit : (image : Image) → length (file_bytes image.segments) < 2 ^ 31
file_bytes-fit image =
    let most = image.in_window.most in
    omega (arith, file_bytes-window image)
