-- Flat memory whose areas stand in one window of bytes.
use Rattle.guest_space.proofs.Terms.{List, None, Some, [], add-one, add-zero, ap, arith, cond, drop, false, get_or, if◌then◌else◌, inl, inr, is_some, length, map, nat_le, nat_lt, refl, set, slice_get, slice_set, subst, suc, sym, take, true, unwrap_or, zero, ℕ, ◌%◌, ◌&&◌, ◌*◌, ◌++◌, ◌+◌, ◌-◌, ◌/◌, ◌<◌, ◌==◌, ◌^◌, ◌||◌, ◌∙◌, ◌∷◌, ◌≡◌, ◌≤◌, ◌⊎◌, and_parts, cases_Bool, cases_lt, false≢true, le-leb, leb-true, lt-leb, or_cases, nat_tests, append-nil, append_assoc, at_drop_all, at_drop_more, drop-set-add, drop-set-lt, get_or-drop, get_or-take, length-drop, length-set, length-take-le, take-append-drop, take-set-le, take_more, take_more_set, All-head, All-tail, All-weaker, slice_get-get_or, All, PAGE, put_at, Area, byte_at, bytes_at, covers, each_covered, permitted, put_byte, put_bytes, AreApart, LiesIn, Span, area_of, flat_of, meet, AreHeld, has_address, has_range, some_has}

-- a span's area has all of its addresses
bytes_size : (base pages : ℕ) (xs : List ℕ) (span : Span) → LiesIn base pages span → length xs ≡ PAGE * pages → length (take (span.end - span.start) (drop (span.start - base) xs)) ≡ span.end - span.start
bytes_size base pages xs span lies size = length-take-le (span.end - span.start) (drop (span.start - base) xs) (omega (arith, length-drop (span.start - base) xs))

covers-area : (flag base pages at : ℕ) (xs : List ℕ) (span : Span) → LiesIn base pages span → length xs ≡ PAGE * pages → covers flag (area_of base xs span) at ≡ has_address flag at span
covers-area flag base pages at xs span lies size =
    let e : span.start + length (take (span.end - span.start) (drop (span.start - base) xs)) ≡ span.end = omega (arith, bytes_size base pages xs span lies size) in
    ap (λ n. (span.flags / flag % 2 == 1) && nat_le span.start at && nat_lt at n) e

pub address_parts : (flag at : ℕ) (span : Span) → has_address flag at span ≡ true → (span.start ≤ at) × (at < span.end)
address_parts flag at span h = grind (arith, nat_tests)

-- a byte of a span is a byte of the window
byte_in : (base pages at : ℕ) (xs : List ℕ) (span : Span) → LiesIn base pages span → length xs ≡ PAGE * pages → span.start ≤ at → at < span.end → slice_get (take (span.end - span.start) (drop (span.start - base) xs)) (at - span.start) ≡ slice_get xs (at - base)
byte_in base pages at xs span lies size from to =
    let n = span.end - span.start in
    let rest = drop (span.start - base) xs in
    let less : at - span.start < n = omega arith in
    let there : at - span.start < length (take n rest) = omega (arith, bytes_size base pages xs span lies size) in
    let inside : at - base < length xs = omega arith in
    let e : (span.start - base) + (at - span.start) ≡ at - base = omega arith in
    slice_get-get_or (take n rest) (at - span.start) 0 there
    ∙ ap Some (get_or-take n rest (at - span.start) 0 less ∙ get_or-drop (span.start - base) xs (at - span.start) 0 ∙ ap (λ k. get_or xs k 0) e)
    ∙ sym (slice_get-get_or xs (at - base) 0 inside)

-- the byte at an address is that of the window, where a span has it
pub byte_at-flat : (flag base pages : ℕ) (spans : List Span) (xs : List ℕ) (at : ℕ) → All (LiesIn base pages) spans → length xs ≡ PAGE * pages → byte_at flag (flat_of base spans xs) at ≡ cond (some_has flag at spans) (slice_get xs (at - base)) None
unfolding flat_of
byte_at-flat flag base pages [] xs at lies size = refl
byte_at-flat flag base pages (span ∷ spans) xs at lies size =
    let one : LiesIn base pages span = All-head (LiesIn base pages) span spans lies in
    let area = area_of base xs span in
    let here = slice_get area.bytes (at - span.start) in
    let later = byte_at flag (map (area_of base xs) spans) at in
    let is = covers-area flag base pages at xs span one size in
    elim (cases_Bool (has_address flag at span)) [
      | inl has ↦
          (let parts = address_parts flag at span has in
          ap (λ b. cond b here later) (is ∙ has)
          ∙ byte_in base pages at xs span one size parts.0 parts.1
          ∙ sym (ap (λ b. cond (b || some_has flag at spans) (slice_get xs (at - base)) None) has))
      | inr lacks ↦
          ap (λ b. cond b here later) (is ∙ lacks)
          ∙ byte_at-flat flag base pages spans xs at (All-tail (LiesIn base pages) span spans lies) size
          ∙ sym (ap (λ b. cond (b || some_has flag at spans) (slice_get xs (at - base)) None) lacks)
    ]

-- an address of a span lies in the window
pub held_inside : (flag base pages at : ℕ) (spans : List Span) → All (LiesIn base pages) spans → some_has flag at spans ≡ true → (base ≤ at) × (at < base + PAGE * pages)
held_inside flag base pages at [] lies h = absurd (false≢true h)
held_inside flag base pages at (span ∷ spans) lies h =
    let one : LiesIn base pages span = All-head (LiesIn base pages) span spans lies in
    elim (or_cases (has_address flag at span) (some_has flag at spans) h) [
      | inl here ↦
          (let parts = address_parts flag at span here in
          (omega arith, omega arith))
      | inr later ↦ held_inside flag base pages at spans (All-tail (LiesIn base pages) span spans lies) later
    ]

is_some-flat : (flag base pages : ℕ) (spans : List Span) (xs : List ℕ) (at : ℕ) → All (LiesIn base pages) spans → length xs ≡ PAGE * pages → is_some (byte_at flag (flat_of base spans xs) at) ≡ some_has flag at spans
is_some-flat flag base pages spans xs at lies size =
    ap is_some (byte_at-flat flag base pages spans xs at lies size)
    ∙ elim (cases_Bool (some_has flag at spans)) [
      | inl has ↦
          (let parts = held_inside flag base pages at spans lies has in
          let inside : at - base < length xs = omega arith in
          ap (λ b. is_some (cond b (slice_get xs (at - base)) None)) has
          ∙ ap is_some (slice_get-get_or xs (at - base) 0 inside)
          ∙ sym has)
      | inr lacks ↦ ap (λ b. is_some (cond b (slice_get xs (at - base)) None)) lacks ∙ sym lacks
    ]

-- bytes that may be touched are addresses of spans, and the other way round
each_covered-held : (flag base pages : ℕ) (spans : List Span) (xs : List ℕ) (at size : ℕ) → All (LiesIn base pages) spans → length xs ≡ PAGE * pages → AreHeld flag spans at size → each_covered flag (flat_of base spans xs) at size ≡ true
each_covered-held flag base pages spans xs at zero lies many held = refl
each_covered-held flag base pages spans xs at (suc size) lies many held =
    ap (λ b. b && is_some (byte_at flag (flat_of base spans xs) (at + size))) (each_covered-held flag base pages spans xs at size lies many (λ k less. held k (omega arith)))
    ∙ is_some-flat flag base pages spans xs (at + size) lies many
    ∙ held size (omega arith)

held-each_covered : (flag base pages : ℕ) (spans : List Span) (xs : List ℕ) (at size : ℕ) → All (LiesIn base pages) spans → length xs ≡ PAGE * pages → each_covered flag (flat_of base spans xs) at size ≡ true → AreHeld flag spans at size
held-each_covered flag base pages spans xs at zero lies many h = λ k less. absurd (omega arith)
held-each_covered flag base pages spans xs at (suc size) lies many h =
    let parts = and_parts _ _ h in
    λ k less.
    elim (cases_lt k size) as (λ _. some_has flag (at + k) spans ≡ true) [
      | inl earlier ↦ held-each_covered flag base pages spans xs at size lies many parts.0 k earlier
      | inr later ↦
          (let same : size ≡ k = omega arith in
          subst (λ n. some_has flag (at + n) spans ≡ true) same (sym (is_some-flat flag base pages spans xs (at + size) lies many) ∙ parts.1))
    ]

pub permitted-far : (flag : ℕ) (memory : List Area) (at count : ℕ) → 2 ^ 32 < at + count → permitted flag memory at count ≡ false
unfolding permitted
permitted-far flag memory at count far = ap (λ b. b && each_covered flag memory at count) (lt-leb (at + count) (2 ^ 32) far)

pub permitted-near : (flag : ℕ) (memory : List Area) (at count : ℕ) → at + count ≤ 2 ^ 32 → permitted flag memory at count ≡ each_covered flag memory at count
unfolding permitted
permitted-near flag memory at count near = ap (λ b. b && each_covered flag memory at count) (le-leb (at + count) (2 ^ 32) near)

pub permitted-within : (flag : ℕ) (memory : List Area) (at count : ℕ) → permitted flag memory at count ≡ true → at + count ≤ 2 ^ 32
unfolding permitted
permitted-within flag memory at count h = leb-true (at + count) (2 ^ 32) (and_parts _ _ h).0

pub permitted-held : (flag base pages : ℕ) (spans : List Span) (xs : List ℕ) (at size : ℕ) → All (LiesIn base pages) spans → length xs ≡ PAGE * pages → at + size ≤ 2 ^ 32 → AreHeld flag spans at size → permitted flag (flat_of base spans xs) at size ≡ true
permitted-held flag base pages spans xs at size lies many near held =
    permitted-near flag (flat_of base spans xs) at size near ∙ each_covered-held flag base pages spans xs at size lies many held

pub held-permitted : (flag base pages : ℕ) (spans : List Span) (xs : List ℕ) (at size : ℕ) → All (LiesIn base pages) spans → length xs ≡ PAGE * pages → permitted flag (flat_of base spans xs) at size ≡ true → AreHeld flag spans at size
held-permitted flag base pages spans xs at size lies many h =
    let near = permitted-within flag (flat_of base spans xs) at size h in
    held-each_covered flag base pages spans xs at size lies many (sym (permitted-near flag (flat_of base spans xs) at size near) ∙ h)

-- a range of spans lies in the window
pub range_inside : (flag base pages : ℕ) (spans : List Span) (at size : ℕ) → All (LiesIn base pages) spans → 0 < size → AreHeld flag spans at size → (base ≤ at) × (at + size ≤ base + PAGE * pages)
range_inside flag base pages spans at size lies some held =
    let first = held_inside flag base pages (at + 0) spans lies (held 0 some) in
    let last = held_inside flag base pages (at + (size - 1)) spans lies (held (size - 1) (omega arith)) in
    (omega arith, omega arith)

-- the bytes of a range stand one after the other in the window
pub bytes_at-flat : (flag base pages : ℕ) (spans : List Span) (xs : List ℕ) (at size : ℕ) → All (LiesIn base pages) spans → length xs ≡ PAGE * pages → AreHeld flag spans at size → bytes_at flag (flat_of base spans xs) at size ≡ take size (drop (at - base) xs)
bytes_at-flat flag base pages spans xs at zero lies many held = refl
bytes_at-flat flag base pages spans xs at (suc size) lies many held =
    let rest = drop (at - base) xs in
    let memory = flat_of base spans xs in
    let ends = range_inside flag base pages spans at (suc size) lies (omega arith) held in
    let within : size < length rest = omega (arith, length-drop (at - base) xs) in
    let inside : at + size - base < length xs = omega arith in
    let e : at + size - base ≡ (at - base) + size = omega arith in
    let last : byte_at flag memory (at + size) ≡ Some (get_or rest size 0) =
    byte_at-flat flag base pages spans xs (at + size) lies many
    ∙ ap (λ b. cond b (slice_get xs (at + size - base)) None) (held size (omega arith))
    ∙ slice_get-get_or xs (at + size - base) 0 inside
    ∙ ap Some (ap (λ n. get_or xs n 0) e ∙ sym (get_or-drop (at - base) xs size 0)) in
    ap (λ ys. ys ++ unwrap_or (byte_at flag memory (at + size)) 0 ∷ []) (bytes_at-flat flag base pages spans xs at size lies many (λ k less. held k (omega arith)))
    ∙ ap (λ o. take size rest ++ unwrap_or o 0 ∷ []) last
    ∙ sym (take_more rest size 0 within)
    ∙ ap (λ n. take n rest) (add-one size)

-- another byte in a part of a list
take-set_in : (n : ℕ) (xs : List ℕ) (k byte : ℕ) → take n (set xs k byte) ≡ set (take n xs) k byte
take-set_in zero xs k byte = refl
take-set_in (suc n) [] k byte = refl
take-set_in (suc n) (x ∷ xs) zero byte = refl
take-set_in (suc n) (x ∷ xs) (suc k) byte = ap (λ ys. x ∷ ys) (take-set_in n xs k byte)

area-set_in : (base at byte : ℕ) (xs : List ℕ) (span : Span) → base ≤ span.start → span.start ≤ at → set (take (span.end - span.start) (drop (span.start - base) xs)) (at - span.start) byte ≡ take (span.end - span.start) (drop (span.start - base) (set xs (at - base) byte))
area-set_in base at byte xs span above from =
    let n = span.end - span.start in
    let first = span.start - base in
    let e : first + (at - span.start) ≡ at - base = omega arith in
    sym (take-set_in n (drop first xs) (at - span.start) byte)
    ∙ ap (take n) (sym (drop-set-add first xs (at - span.start) byte))
    ∙ ap (λ k. take n (drop first (set xs k byte))) e

-- an address outside of a span
abbrev pub IsOutside : ℕ → Span → Type 0
IsOutside at span = (at < span.start) ⊎ (span.end ≤ at)

area-set_out : (base at byte : ℕ) (xs : List ℕ) (span : Span) → base ≤ span.start → span.start ≤ span.end → base ≤ at → IsOutside at span → take (span.end - span.start) (drop (span.start - base) (set xs (at - base) byte)) ≡ take (span.end - span.start) (drop (span.start - base) xs)
area-set_out base at byte xs span above order near out =
    let n = span.end - span.start in
    let first = span.start - base in
    elim out [
      | inl before ↦ ap (take n) (drop-set-lt first xs (at - base) byte (omega arith))
      | inr behind ↦
          (let e : at - base ≡ first + (at - span.start) = omega arith in
          let past : n ≤ at - span.start = omega arith in
          ap (λ k. take n (drop first (set xs k byte))) e
          ∙ ap (take n) (drop-set-add first xs (at - span.start) byte)
          ∙ take-set-le n (drop first xs) (at - span.start) byte past)
    ]

flat-set_out : (base pages at byte : ℕ) (spans : List Span) (xs : List ℕ) → All (LiesIn base pages) spans → base ≤ at → All (IsOutside at) spans → flat_of base spans (set xs (at - base) byte) ≡ flat_of base spans xs
unfolding flat_of
flat-set_out base pages at byte [] xs lies near out = refl
flat-set_out base pages at byte (span ∷ spans) xs lies near out =
    let one : LiesIn base pages span = All-head (LiesIn base pages) span spans lies in
    let area = area_of base xs span in
    ap (λ ys. record area { bytes = ys } ∷ map (area_of base (set xs (at - base) byte)) spans) (area-set_out base at byte xs span one.0 one.1 near (All-head (IsOutside at) span spans out))
    ∙ ap (λ areas. area ∷ areas) (flat-set_out base pages at byte spans xs (All-tail (LiesIn base pages) span spans lies) near (All-tail (IsOutside at) span spans out))

-- spans that are apart
apart_outside : (a b : Span) (at : ℕ) → a.start ≤ at → at < a.end → meet a b ≡ false → IsOutside at b
apart_outside a b at from to apart = grind (arith, nat_tests)

pub meet_comm : (a b : Span) → meet a b ≡ false → meet b a ≡ false
meet_comm a b h = grind (arith, nat_tests)

pub apart_head : (span : Span) (spans : List Span) → AreApart (span ∷ spans) → All (λ (b : Span). meet span b ≡ false) spans
apart_head span spans apart = λ k d less. apart 0 (suc k) d (omega arith) (omega arith)

pub apart_tail : (span : Span) (spans : List Span) → AreApart (span ∷ spans) → AreApart spans
apart_tail span spans apart = λ i j d before less. apart (suc i) (suc j) d (omega arith) (omega arith)

-- an address of a later span is outside of a first one that is apart from them
other_outside : (flag at : ℕ) (span : Span) (spans : List Span) → All (λ (b : Span). meet span b ≡ false) spans → some_has flag at spans ≡ true → IsOutside at span
other_outside flag at span [] apart h = absurd (false≢true h)
other_outside flag at span (next ∷ spans) apart h =
    elim (or_cases (has_address flag at next) (some_has flag at spans) h) [
      | inl here ↦
          (let parts = address_parts flag at next here in
          apart_outside next span at parts.0 parts.1 (meet_comm span next (All-head (λ (b : Span). meet span b ≡ false) next spans apart)))
      | inr later ↦ other_outside flag at span spans (All-tail (λ (b : Span). meet span b ≡ false) next spans apart) later
    ]

put_byte-cons_covered : (area : Area) (areas : List Area) (at byte : ℕ) → covers 2 area at ≡ true → put_byte (area ∷ areas) at byte ≡ record area { bytes = slice_set area.bytes (at - area.start) byte } ∷ areas
put_byte-cons_covered area areas at byte h =
    ap (λ b. if b then record area { bytes = slice_set area.bytes (at - area.start) byte } ∷ areas else area ∷ put_byte areas at byte) h

put_byte-cons_other : (area : Area) (areas : List Area) (at byte : ℕ) → covers 2 area at ≡ false → put_byte (area ∷ areas) at byte ≡ area ∷ put_byte areas at byte
put_byte-cons_other area areas at byte h =
    ap (λ b. if b then record area { bytes = slice_set area.bytes (at - area.start) byte } ∷ areas else area ∷ put_byte areas at byte) h

-- a byte that is put into flat memory is put into the window
pub put_byte-flat : (base pages : ℕ) (spans : List Span) (xs : List ℕ) (at byte : ℕ) → All (LiesIn base pages) spans → AreApart spans → length xs ≡ PAGE * pages → some_has 2 at spans ≡ true → put_byte (flat_of base spans xs) at byte ≡ flat_of base spans (set xs (at - base) byte)
unfolding flat_of
put_byte-flat base pages [] xs at byte lies apart size h = absurd (false≢true h)
put_byte-flat base pages (span ∷ spans) xs at byte lies apart size h =
    let one : LiesIn base pages span = All-head (LiesIn base pages) span spans lies in
    let rest = All-tail (LiesIn base pages) span spans lies in
    let first = apart_head span spans apart in
    let area = area_of base xs span in
    let areas = map (area_of base xs) spans in
    let near = (held_inside 2 base pages at (span ∷ spans) lies h).0 in
    let is = covers-area 2 base pages at xs span one size in
    elim (cases_Bool (has_address 2 at span)) [
      | inl has ↦
          (let parts = address_parts 2 at span has in
          let out : All (IsOutside at) spans = All-weaker (λ (b : Span). meet span b ≡ false) (IsOutside at) (λ b apart. apart_outside span b at parts.0 parts.1 apart) spans first in
          put_byte-cons_covered area areas at byte (is ∙ has)
          ∙ ap (λ ys. record area { bytes = ys } ∷ areas) (area-set_in base at byte xs span one.0 parts.0)
          ∙ ap (λ later. area_of base (set xs (at - base) byte) span ∷ later) (sym (flat-set_out base pages at byte spans xs rest near out)))
      | inr lacks ↦
          (let later : some_has 2 at spans ≡ true = sym (ap (λ b. b || some_has 2 at spans) lacks) ∙ h in
          put_byte-cons_other area areas at byte (is ∙ lacks)
          ∙ ap (λ more. area ∷ more) (put_byte-flat base pages spans xs at byte rest (apart_tail span spans apart) size later)
          ∙ ap (λ ys. record area { bytes = ys } ∷ map (area_of base (set xs (at - base) byte)) spans) (sym (area-set_out base at byte xs span one.0 one.1 near (other_outside 2 at span spans first later))))
    ]

-- bytes that are put one after another
pub put-none : (at : ℕ) (xs : List ℕ) → put_at at [] xs ≡ xs
put-none at xs =
    let e : at + 0 ≡ at = omega arith in
    ap (λ n. take at xs ++ [] ++ drop n xs) e ∙ ap (λ ys. ys ++ drop at xs) (append-nil (take at xs)) ∙ take-append-drop at xs

put-more : (xs bytes : List ℕ) (first byte : ℕ) → first < length xs → put_at (first + 1) bytes (set xs first byte) ≡ put_at first (byte ∷ bytes) xs
put-more xs bytes first byte below =
    let e : first + 1 + length bytes ≡ first + suc (length bytes) = omega arith in
    let later : first < first + 1 + length bytes = omega arith in
    ap (λ ys. ys ++ bytes ++ drop (first + 1 + length bytes) (set xs first byte)) (take_more_set xs first byte below)
    ∙ ap (λ ys. take first xs ++ byte ∷ [] ++ bytes ++ ys) (drop-set-lt (first + 1 + length bytes) xs first byte later ∙ ap (λ n. drop n xs) e)
    ∙ ap (λ ys. ys ++ drop (first + suc (length bytes)) xs) (append_assoc (take first xs) (byte ∷ []) bytes)

-- bytes that are put into flat memory are put into the window
pub put_bytes-flat : (base pages : ℕ) (spans : List Span) (at : ℕ) (bytes xs : List ℕ) → All (LiesIn base pages) spans → AreApart spans → length xs ≡ PAGE * pages → AreHeld 2 spans at (length bytes) → put_bytes (flat_of base spans xs) at bytes ≡ flat_of base spans (put_at (at - base) bytes xs)
put_bytes-flat base pages spans at [] xs lies apart size held = ap (flat_of base spans) (sym (put-none (at - base) xs))
put_bytes-flat base pages spans at (byte ∷ bytes) xs lies apart size held =
    let here : some_has 2 at spans ≡ true = subst (λ n. some_has 2 n spans ≡ true) (add-zero at) (held 0 (omega arith)) in
    let near = held_inside 2 base pages at spans lies here in
    let inside : at - base < length xs = omega arith in
    let next : at + 1 - base ≡ at - base + 1 = omega arith in
    ap (λ memory. put_bytes memory (at + 1) bytes) (put_byte-flat base pages spans xs at byte lies apart size here)
    ∙ put_bytes-flat base pages spans (at + 1) bytes (set xs (at - base) byte) lies apart (length-set xs (at - base) byte ∙ size)
    (λ k less. let e : at + suc k ≡ at + 1 + k = omega arith in subst (λ n. some_has 2 n spans ≡ true) e (held (suc k) (omega arith)))
    ∙ ap (λ n. flat_of base spans (put_at n bytes (set xs (at - base) byte))) next
    ∙ ap (flat_of base spans) (put-more xs bytes (at - base) byte inside)

-- one span of several has all of a range
some_has-at : (flag at : ℕ) (spans : List Span) (i : ℕ) (d : Span) → i < length spans → has_address flag at (get_or spans i d) ≡ true → some_has flag at spans ≡ true
some_has-at flag at [] i d less h = absurd (omega arith)
some_has-at flag at (span ∷ spans) zero d less h = ap (λ b. b || some_has flag at spans) h
some_has-at flag at (span ∷ spans) (suc i) d less h =
    elim (cases_Bool (has_address flag at span)) [
      | inl has ↦ ap (λ b. b || some_has flag at spans) has
      | inr lacks ↦ ap (λ b. b || some_has flag at spans) lacks ∙ some_has-at flag at spans i d (omega arith) h
    ]

range_address : (flag at size k : ℕ) (span : Span) → has_range flag at size span ≡ true → k < size → has_address flag (at + k) span ≡ true
range_address flag at size k span h less = grind (arith, nat_tests)

pub range_held : (flag at size i : ℕ) (spans : List Span) (span : Span) → i < length spans → span ≡ get_or spans i span → has_range flag at size span ≡ true → AreHeld flag spans at size
range_held flag at size i spans span less is h = λ k below.
    some_has-at flag (at + k) spans i span less (subst (λ s. has_address flag (at + k) s ≡ true) is (range_address flag at size k span h below))

-- the first of the spans from a place on
pub some_has-drop_has : (flag at : ℕ) (spans : List Span) (i : ℕ) (span : Span) → i < length spans → span ≡ get_or spans i span → has_address flag at span ≡ true → some_has flag at (drop i spans) ≡ true
some_has-drop_has flag at spans i span less is h =
    at_drop_more (λ xs. some_has flag at xs) spans i span less
    ∙ ap (λ s. has_address flag at s || some_has flag at (drop (i + 1) spans)) (sym is)
    ∙ ap (λ b. b || some_has flag at (drop (i + 1) spans)) h

pub some_has-drop_lacks : (flag at : ℕ) (spans : List Span) (i : ℕ) (span : Span) → i < length spans → span ≡ get_or spans i span → has_address flag at span ≡ false → some_has flag at (drop i spans) ≡ some_has flag at (drop (i + 1) spans)
some_has-drop_lacks flag at spans i span less is h =
    at_drop_more (λ xs. some_has flag at xs) spans i span less
    ∙ ap (λ s. has_address flag at s || some_has flag at (drop (i + 1) spans)) (sym is)
    ∙ ap (λ b. b || some_has flag at (drop (i + 1) spans)) h

pub some_has-drop_all : (flag at : ℕ) (spans : List Span) (i : ℕ) → length spans ≤ i → some_has flag at (drop i spans) ≡ false
some_has-drop_all flag at spans i past = at_drop_all (λ xs. some_has flag at xs) spans i past
