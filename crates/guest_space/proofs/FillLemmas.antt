-- A window as a program begins: its segments are filled, and everything else is zero.
use Rattle.std.proofs.lemmas.Grind.{same_number_lists}
use Rattle.guest_space.proofs.Terms.{List, [], ap, ap₂, arith, drop, false, get_or, inl, inr, length, map, refl, replicate, suc, sym, take, ℕ, ◌*◌, ◌++◌, ◌+◌, ◌-◌, ◌<◌, ◌∙◌, ◌∷◌, ◌≡◌, ◌≤◌, ◌⊎◌, cases_lt, nat_tests, get_or-append_right, get_or-drop, get_or-replicate, get_or-take, get_or_append_left, length-append, length-drop, length-replicate, length-take-le, All-head, All-tail, All, AllPairs, PAGE, put_at, Segment, base, segment_area, zeros, share_byte, Area, LiesIn, Span, area_of, meet, segment_span, filled_bytes}
use Rattle.guest_space.proofs.FlatLemmas.{meet_comm}
use Rattle.cow_pages.proofs.Frames.{length-put_at, get_or-put_before, get_or-put_inside, get_or-put_behind}

-- a part of a list outside of what was put
pub area-put_out : (first n place : ℕ) (bytes xs : List ℕ) → place + length bytes ≤ length xs → first + n ≤ length xs → (first + n ≤ place) ⊎ (place + length bytes ≤ first) → take n (drop first (put_at place bytes xs)) ≡ take n (drop first xs)
area-put_out first n place bytes xs room inside out =
    let ys = put_at place bytes xs in
    let size : length ys ≡ length xs = length-put_at place bytes xs room in
    let left : length (take n (drop first ys)) ≡ n = length-take-le n (drop first ys) (omega (arith, length-drop first ys)) in
    let right : length (take n (drop first xs)) ≡ n = length-take-le n (drop first xs) (omega (arith, length-drop first xs)) in
    same_number_lists (take n (drop first ys)) (take n (drop first xs)) (left ∙ sym right)
    (λ k less.
    let below : k < n = omega arith in
    let same : get_or ys (first + k) 0 ≡ get_or xs (first + k) 0 = elim out [
      | inl before ↦ get_or-put_before place bytes xs (first + k) room (omega arith)
      | inr behind ↦ get_or-put_behind place bytes xs (first + k) room (omega arith)
    ] in
    get_or-take n (drop first ys) k 0 below ∙ get_or-drop first ys k 0 ∙ same ∙ sym (get_or-drop first xs k 0) ∙ sym (get_or-take n (drop first xs) k 0 below))

-- the part that begins with what was put, where zeros stood
area-put_in : (place n : ℕ) (bytes xs : List ℕ) → place + n ≤ length xs → length bytes ≤ n → take n (drop place xs) ≡ replicate n 0 → take n (drop place (put_at place bytes xs)) ≡ bytes ++ replicate (n - length bytes) 0
area-put_in place n bytes xs inside fits blank =
    let ys = put_at place bytes xs in
    let room : place + length bytes ≤ length xs = omega arith in
    let size : length ys ≡ length xs = length-put_at place bytes xs room in
    let left : length (take n (drop place ys)) ≡ n = length-take-le n (drop place ys) (omega (arith, length-drop place ys)) in
    let more : length (replicate {A = ℕ} (n - length bytes) 0) ≡ n - length bytes = length-replicate (n - length bytes) 0 in
    let right : length (bytes ++ replicate (n - length bytes) 0) ≡ n = omega (arith, length-append bytes (replicate (n - length bytes) 0)) in
    same_number_lists (take n (drop place ys)) (bytes ++ replicate (n - length bytes) 0) (left ∙ sym right)
    (λ k less.
    let below : k < n = omega arith in
    let e : place + k - place ≡ k = omega arith in
    get_or-take n (drop place ys) k 0 below ∙ get_or-drop place ys k 0
    ∙ elim (cases_lt k (length bytes)) [
      | inl front ↦
          get_or-put_inside place bytes xs (place + k) room (omega arith) (omega arith)
          ∙ ap (λ i. get_or bytes i 0) e
          ∙ sym (get_or_append_left bytes (replicate (n - length bytes) 0) 0 k front)
      | inr rest ↦
          get_or-put_behind place bytes xs (place + k) room (omega arith)
          ∙ sym (get_or-drop place xs k 0)
          ∙ sym (get_or-take n (drop place xs) k 0 below)
          ∙ ap (λ zs. get_or zs k 0) blank
          ∙ get_or-replicate n k 0 0 below
          ∙ sym (get_or-append_right bytes (replicate (n - length bytes) 0) (length bytes) k 0 refl rest ∙ get_or-replicate (n - length bytes) (k - length bytes) 0 0 (omega arith))
    ])

-- two spans that share no address, and have some
sides : (a b : Span) → meet a b ≡ false → a.start < a.end → b.start < b.end → (a.end ≤ b.start) ⊎ (b.end ≤ a.start)
sides a b apart one other = grind (arith, nat_tests)

-- a segment in a window
pub record IsThere (base pages : ℕ) (segment : Segment) : Type 0 where
  pub above : base ≤ segment.vaddr
  pub below : segment.vaddr + segment.memsz ≤ base + PAGE * pages
  pub some : 0 < segment.memsz
  pub given : length segment.filled ≤ segment.memsz

-- a span that is apart from a segment is the same after it was filled
keeps_one : (base pages : ℕ) (segment : Segment) (xs : List ℕ) (span : Span) → IsThere base pages segment → length xs ≡ PAGE * pages → LiesIn base pages span → span.start < span.end → meet (segment_span segment) span ≡ false → take (span.end - span.start) (drop (span.start - base) (put_at (segment.vaddr - base) segment.filled xs)) ≡ take (span.end - span.start) (drop (span.start - base) xs)
keeps_one base pages segment xs span one size lies some apart =
    let above = one.above in
    let below = one.below in
    let given = one.given in
    let full = one.some in
    let n = span.end - span.start in
    let first = span.start - base in
    let place = segment.vaddr - base in
    area-put_out first n place segment.filled xs (omega arith) (omega arith)
    (elim (sides (segment_span segment) span apart (omega arith) some) [
      | inl before ↦ inr (omega arith)
      | inr behind ↦ inl (omega arith)
    ])

pub keeps : (base pages : ℕ) (segments : List Segment) (xs : List ℕ) (span : Span) → All (IsThere base pages) segments → length xs ≡ PAGE * pages → LiesIn base pages span → span.start < span.end → All (λ (s : Segment). meet (segment_span s) span ≡ false) segments → take (span.end - span.start) (drop (span.start - base) (filled_bytes base segments xs)) ≡ take (span.end - span.start) (drop (span.start - base) xs)
keeps base pages [] xs span there size lies some apart = refl
keeps base pages (segment ∷ segments) xs span there size lies some apart =
    let one : IsThere base pages segment = All-head (IsThere base pages) segment segments there in
    let above = one.above in
    let below = one.below in
    let given = one.given in
    keeps base pages segments (put_at (segment.vaddr - base) segment.filled xs) span (All-tail (IsThere base pages) segment segments there) (length-put_at (segment.vaddr - base) segment.filled xs (omega arith) ∙ size) lies some (All-tail (λ (s : Segment). meet (segment_span s) span ≡ false) segment segments apart)
    ∙ keeps_one base pages segment xs span one size lies some (All-head (λ (s : Segment). meet (segment_span s) span ≡ false) segment segments apart)

-- zeros stand where a segment will be filled
abbrev pub IsBlank : ℕ → List ℕ → Segment → Type 0
IsBlank base xs segment = take segment.memsz (drop (segment.vaddr - base) xs) ≡ replicate segment.memsz 0

segments_head : (segment : Segment) (segments : List Segment) → AllPairs (λ (a b : Segment). share_byte a b ≡ false) (segment ∷ segments) → All (λ (s : Segment). meet (segment_span segment) (segment_span s) ≡ false) segments
segments_head segment segments apart = λ k d less. apart 0 (suc k) d (omega arith) (omega arith)

segments_tail : (segment : Segment) (segments : List Segment) → AllPairs (λ (a b : Segment). share_byte a b ≡ false) (segment ∷ segments) → AllPairs (λ (a b : Segment). share_byte a b ≡ false) segments
segments_tail segment segments apart = λ i j d before less. apart (suc i) (suc j) d (omega arith) (omega arith)

pub span_lies : (base pages : ℕ) (segment : Segment) → IsThere base pages segment → LiesIn base pages (segment_span segment)
span_lies base pages segment one = (one.above, omega arith, one.below)

still_blank : (base pages : ℕ) (segment : Segment) (xs : List ℕ) (other : Segment) → IsThere base pages segment → length xs ≡ PAGE * pages → IsThere base pages other → meet (segment_span segment) (segment_span other) ≡ false → IsBlank base xs other → IsBlank base (put_at (segment.vaddr - base) segment.filled xs) other
still_blank base pages segment xs other one size two apart blank =
    let some = two.some in
    let e : other.vaddr + other.memsz - other.vaddr ≡ other.memsz = omega arith in
    let ys = put_at (segment.vaddr - base) segment.filled xs in
    ap (λ n. take n (drop (other.vaddr - base) ys)) (sym e)
    ∙ keeps_one base pages segment xs (segment_span other) one size (span_lies base pages other two) (omega arith) apart
    ∙ ap (λ n. take n (drop (other.vaddr - base) xs)) e
    ∙ blank

all_still_blank : (base pages : ℕ) (segment : Segment) (xs : List ℕ) (segments : List Segment) → IsThere base pages segment → length xs ≡ PAGE * pages → All (IsThere base pages) segments → All (λ (s : Segment). meet (segment_span segment) (segment_span s) ≡ false) segments → All (IsBlank base xs) segments → All (IsBlank base (put_at (segment.vaddr - base) segment.filled xs)) segments
all_still_blank base pages segment xs segments one size there apart blank = λ k d less.
    still_blank base pages segment xs (get_or segments k d) one size (there k d less) (apart k d less) (blank k d less)

-- the areas of the segments, once all are filled
pub segments_flat : (base pages : ℕ) (segments : List Segment) (xs : List ℕ) → All (IsThere base pages) segments → AllPairs (λ (a b : Segment). share_byte a b ≡ false) segments → length xs ≡ PAGE * pages → All (IsBlank base xs) segments → map (area_of base (filled_bytes base segments xs)) (map segment_span segments) ≡ map segment_area segments
unfolding zeros
segments_flat base pages [] xs there apart size blank = refl
segments_flat base pages (segment ∷ segments) xs there apart size blank =
    let one : IsThere base pages segment = All-head (IsThere base pages) segment segments there in
    let rest = All-tail (IsThere base pages) segment segments there in
    let first = segments_head segment segments apart in
    let above = one.above in
    let below = one.below in
    let given = one.given in
    let some = one.some in
    let place = segment.vaddr - base in
    let ys = put_at place segment.filled xs in
    let many : length ys ≡ PAGE * pages = length-put_at place segment.filled xs (omega arith) ∙ size in
    let n : segment.vaddr + segment.memsz - segment.vaddr ≡ segment.memsz = omega arith in
    let head : take (segment.vaddr + segment.memsz - segment.vaddr) (drop place (filled_bytes base segments ys)) ≡ segment.filled ++ replicate (segment.memsz - length segment.filled) 0 =
    keeps base pages segments ys (segment_span segment) rest many (span_lies base pages segment one) (omega arith)
    (λ k d less. meet_comm (segment_span segment) (segment_span (get_or segments k d)) (first k d less))
    ∙ ap (λ m. take m (drop place ys)) n
    ∙ area-put_in place segment.memsz segment.filled xs (omega arith) given (All-head (IsBlank base xs) segment segments blank) in
    ap₂ (λ (bytes : List ℕ) (areas : List Area). record { start = segment.vaddr; flags = segment.flags; bytes = bytes } ∷ areas) head
    (segments_flat base pages segments ys rest (segments_tail segment segments apart) many (all_still_blank base pages segment xs segments one size rest first (All-tail (IsBlank base xs) segment segments blank)))
