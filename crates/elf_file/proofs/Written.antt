-- The program headers and the bytes of a file that is written, segment by segment.
use Rattle.elf_file.proofs.Terms.{List, ap, append_assoc, arith, drop, get_or, length, length-append, sym, ℕ, ◌++◌, ◌+◌, ◌<◌, ◌∙◌, ◌∷◌, ◌≡◌, at_drop_more, little_bytes, Segment, file_bytes, program_header}
use Rattle.elf_file.specs.Written.{program_headers}

-- eight pieces that are added to a file one after another
eight_more : (file a b c d e f g h : List ℕ) → (((((((file ++ a) ++ b) ++ c) ++ d) ++ e) ++ f) ++ g) ++ h ≡ file ++ (((((((a ++ b) ++ c) ++ d) ++ e) ++ f) ++ g) ++ h)
eight_more file a b c d e f g h = simp append_assoc

-- the fields of a program header, written one after another
pub fields_more : (file : List ℕ) (offset : ℕ) (segment : Segment) (bytes f₁ f₂ f₃ f₄ f₅ f₆ f₇ f₈ : List ℕ) → bytes ≡ segment.filled → f₁ ≡ file ++ little_bytes 4 1 → f₂ ≡ f₁ ++ little_bytes 4 offset → f₃ ≡ f₂ ++ little_bytes 4 segment.vaddr → f₄ ≡ f₃ ++ little_bytes 4 segment.vaddr → f₅ ≡ f₄ ++ little_bytes 4 (length bytes) → f₆ ≡ f₅ ++ little_bytes 4 segment.memsz → f₇ ≡ f₆ ++ little_bytes 4 segment.flags → f₈ ≡ f₇ ++ little_bytes 4 1 → f₈ ≡ file ++ program_header offset segment
fields_more file offset segment bytes f₁ f₂ f₃ f₄ f₅ f₆ f₇ f₈ e e₁ e₂ e₃ e₄ e₅ e₆ e₇ e₈ =
    rw (e₈, e₇, e₆, e₅, e₄, e₃, e₂, e₁, e)
    (eight_more file (little_bytes 4 1) (little_bytes 4 offset) (little_bytes 4 segment.vaddr) (little_bytes 4 segment.vaddr) (little_bytes 4 (length segment.filled)) (little_bytes 4 segment.memsz) (little_bytes 4 segment.flags) (little_bytes 4 1))

-- one more program header
pub headers_more : (file new whole : List ℕ) (offset i : ℕ) (segments : List Segment) (segment : Segment) → i < length segments → segment ≡ get_or segments i segment → new ≡ file ++ program_header offset segment → file ++ program_headers offset (drop i segments) ≡ whole → new ++ program_headers (offset + length segment.filled) (drop (i + 1) segments) ≡ whole
headers_more file new whole offset i segments segment below is more rest =
    let later : List Segment = drop (i + 1) segments in
    let next : program_headers offset (drop i segments) ≡ program_headers offset (segment ∷ later) =
    at_drop_more (program_headers offset) segments i segment below ∙ ap (λ s. program_headers offset (s ∷ later)) (sym is) in
    ap (λ f. f ++ program_headers (offset + length segment.filled) later) more
    ∙ append_assoc file (program_header offset segment) (program_headers (offset + length segment.filled) later)
    ∙ ap (λ hs. file ++ hs) (sym next)
    ∙ rest

-- the next segment's bytes
pub place_more : (offset i whole : ℕ) (segments : List Segment) (segment : Segment) → i < length segments → segment ≡ get_or segments i segment → offset + length (file_bytes (drop i segments)) ≡ whole → offset + length segment.filled + length (file_bytes (drop (i + 1) segments)) ≡ whole
place_more offset i whole segments segment below is place =
    let later : List Segment = drop (i + 1) segments in
    let next : length (file_bytes (drop i segments)) ≡ length (segment.filled ++ file_bytes later) =
    at_drop_more (λ ss. length (file_bytes ss)) segments i segment below ∙ ap (λ s. length (file_bytes (s ∷ later))) (sym is) in
    omega (arith, length-append segment.filled (file_bytes later))
