-- Which program header makes a program too large for its window: one of the lowest segments, or one that ends too high.
use Rattle.elf_file.proofs.Terms.{Bool, List, None, Some, [], ap, arith, cond, false, length, map, max, min, nat_le, nat_lt, not, refl, suc, sym, true, ℕ, ⊎_elim, ◌&&◌, ◌*◌, ◌+◌, ◌-◌, ◌/◌, ◌<◌, ◌==◌, ◌^◌, ◌||◌, ◌∙◌, ◌∷◌, ◌≡◌, ◌≤◌, cases_lt, eq-eqb, le-leb, le-ltb, lt-leb, lt-ltb, or_from, or_left, or_right, nat_tests, filter, list_any, position_or_len, is_some, position, PAGE, STACK_AND_GUARD, Segment, IsWindow, heap_floor, highest, lowest, too_large, window_start, ProgramHeader, is_loaded, place_of}

-- a test of segments, asked of their program headers
any_cond : (f : Segment → Bool) (b : Bool) (header : ProgramHeader) (headers : List ProgramHeader) (rest : Bool) → rest ≡ list_any f (map place_of headers) → ((b && f (place_of header)) || rest) ≡ list_any f (map place_of (cond b (header ∷ headers) headers))
any_cond f true header headers rest e = ap (λ (r : Bool). f (place_of header) || r) e
any_cond f false header headers rest e = e

pub any_place : (f : Segment → Bool) (headers : List ProgramHeader) → list_any (λ (header : ProgramHeader). is_loaded header && f (place_of header)) headers ≡ list_any f (map place_of (filter is_loaded headers))
any_place f [] = refl
any_place f (header ∷ headers) = any_cond f (is_loaded header) header (filter is_loaded headers) _ (any_place f headers)

or_max : (end a b : ℕ) → (nat_lt end a || nat_lt end b) ≡ nat_lt end (max a b)
or_max end a b = grind (arith, nat_tests)

-- one of the segments ends behind an address where the highest does
pub any_behind : (end : ℕ) (segments : List Segment) → list_any (λ (segment : Segment). nat_lt end (segment.vaddr + segment.memsz)) segments ≡ nat_lt end (highest segments)
any_behind end [] = sym (le-ltb end 0 (omega arith))
any_behind end (segment ∷ segments) =
    ap (λ (b : Bool). nat_lt end (segment.vaddr + segment.memsz) || b) (any_behind end segments)
    ∙ or_max end (segment.vaddr + segment.memsz) (highest segments)

-- one of the segments begins at the lowest address
lowest_from_some : (segment : Segment) (segments : List Segment) → list_any (λ (s : Segment). s.vaddr / PAGE * PAGE == window_start (segment ∷ segments)) (segment ∷ segments) ≡ true
lowest_from_some segment [] = or_left _ _ (eq-eqb (segment.vaddr / PAGE * PAGE) (segment.vaddr / PAGE * PAGE) refl)
lowest_from_some segment (next ∷ segments) =
    let low : ℕ = lowest (next ∷ segments) in
    ⊎_elim
    (λ (below : segment.vaddr < low).
    let e : min segment.vaddr low ≡ segment.vaddr = omega arith in
    or_left _ _ (eq-eqb (segment.vaddr / PAGE * PAGE) (min segment.vaddr low / PAGE * PAGE) (ap (λ n. n / PAGE * PAGE) (sym e))))
    (λ (above : low ≤ segment.vaddr).
    let e : low ≡ min segment.vaddr low = omega arith in
    or_right _ _ (ap (λ n. list_any (λ (s : Segment). s.vaddr / PAGE * PAGE == n / PAGE * PAGE) (next ∷ segments)) (sym e) ∙ lowest_from_some next segments))
    (cases_lt segment.vaddr low)

-- an element passes where the first that passes has a place
count_cond : (b c : Bool) (n m : ℕ) → nat_lt n m ≡ c → nat_lt (cond (not b) (1 + n) 0) (suc m) ≡ (b || c)
count_cond true c n m e = lt-ltb 0 (suc m) (omega arith)
count_cond false c n m e = grind (arith, nat_tests)

any_position : {X : Type 0} (p : X → Bool) (xs : List X) → nat_lt (position_or_len p xs) (length xs) ≡ list_any p xs
any_position p [] = refl
any_position p (x ∷ xs) = count_cond (p x) (list_any p xs) (position_or_len p xs) (length xs) (any_position p xs)

some_cond : {X : Type 0} (b : Bool) (x : X) → is_some (cond b (Some x) None) ≡ b
some_cond true x = refl
some_cond false x = refl

pub position_some : {X : Type 0} (p : X → Bool) (xs : List X) → is_some (position p xs) ≡ list_any p xs
position_some p xs = some_cond (nat_lt (position_or_len p xs) (length xs)) (position_or_len p xs) ∙ any_position p xs

-- where a window would end above 2 ^ 32, a segment begins in the window's first page
begins_first : (window : ℕ) (segments : List Segment) → window ≤ 2 ^ 26 → 2 ^ 32 ≤ window_start segments + window → list_any (λ (s : Segment). s.vaddr / PAGE * PAGE == window_start segments) segments ≡ true
begins_first window [] most past = absurd (omega arith)
begins_first window (segment ∷ segments) most past = lowest_from_some segment segments

large_above : (window : ℕ) (segments : List Segment) → 2 ^ 32 ≤ window_start segments + window → too_large window segments ≡ true
unfolding too_large
large_above window segments past = or_left _ _ (le-leb (2 ^ 32) (window_start segments + window) past)

pub lowest_found : (headers : List ProgramHeader) (window start : ℕ) → start ≡ window_start (map place_of (filter is_loaded headers)) → window ≤ 2 ^ 26 → 2 ^ 32 ≤ start + window → is_some (position (λ (header : ProgramHeader). is_loaded header && (header.p_vaddr / PAGE * PAGE == start)) headers) ≡ too_large window (map place_of (filter is_loaded headers))
lowest_found headers window start is most past =
    let segments : List Segment = map place_of (filter is_loaded headers) in
    let past_end : 2 ^ 32 ≤ window_start segments + window = omega arith in
    position_some (λ (header : ProgramHeader). is_loaded header && (header.p_vaddr / PAGE * PAGE == start)) headers
    ∙ any_place (λ (s : Segment). s.vaddr / PAGE * PAGE == start) headers
    ∙ ap (λ n. list_any (λ (s : Segment). s.vaddr / PAGE * PAGE == n) segments) is
    ∙ begins_first window segments most past_end
    ∙ sym (large_above window segments past_end)

-- where it ends below, a segment ends too high exactly where no page is left
large_below : (window end : ℕ) (segments : List Segment) → IsWindow window → window_start segments + window < 2 ^ 32 → end ≡ window_start segments + window - STACK_AND_GUARD - PAGE → nat_lt end (highest segments) ≡ too_large window segments
unfolding too_large
large_below window end segments is below at =
    let least = is.least in
    let whole = is.whole in
    let top : ℕ = window_start segments + window in
    ⊎_elim
    (λ (high : end < highest segments).
    lt-ltb end (highest segments) high
    ∙ sym (or_right (nat_le (2 ^ 32) top) _ (lt-ltb (top - STACK_AND_GUARD) (heap_floor segments + PAGE) (omega arith))))
    (λ (low : highest segments ≤ end).
    le-ltb end (highest segments) low
    ∙ sym (or_from (nat_le (2 ^ 32) top) _ (lt-leb (2 ^ 32) top below) (le-ltb (top - STACK_AND_GUARD) (heap_floor segments + PAGE) (omega arith))))
    (cases_lt end (highest segments))

pub highest_found : (headers : List ProgramHeader) (window start end : ℕ) → IsWindow window → start ≡ window_start (map place_of (filter is_loaded headers)) → start + window < 2 ^ 32 → end ≡ start + window - STACK_AND_GUARD - PAGE → is_some (position (λ (header : ProgramHeader). is_loaded header && nat_lt end (header.p_vaddr + header.p_memsz)) headers) ≡ too_large window (map place_of (filter is_loaded headers))
highest_found headers window start end is at below from =
    let segments : List Segment = map place_of (filter is_loaded headers) in
    let under : window_start segments + window < 2 ^ 32 = omega arith in
    let ends : end ≡ window_start segments + window - STACK_AND_GUARD - PAGE = omega arith in
    position_some (λ (header : ProgramHeader). is_loaded header && nat_lt end (header.p_vaddr + header.p_memsz)) headers
    ∙ any_place (λ (s : Segment). nat_lt end (s.vaddr + s.memsz)) headers
    ∙ any_behind end segments
    ∙ large_below window end segments is under ends
