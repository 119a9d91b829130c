-- Extents that are sorted by where they begin meet exactly where neighbours do.
use Rattle.std.specs.List.Sorted.{IsPermutation, IsNonDecreasingBy}
use Rattle.std.proofs.lemmas.List.Folds.{list_any_none}
use Rattle.guest_image.proofs.Terms.{Bool, List, [], ap, ap₂, arith, false, get_or, map, nat_lt, refl, suc, true, ℕ, ⊎_elim, ◌<◌, ◌||◌, ◌∙◌, ◌∷◌, ◌≡◌, ◌≤◌, cases_lt, le-ltb, lt-ltb, or_from, or_parts, All-head, All-map, All-same, All-tail, All-permutation, IsNonDecreasingBy-drop, IsPermutation-sym, IsDistinct-IsPermutation, All, AllByRecursion, IsDistinct, list_any, Extent, Segment, HasBytes, overlap, share_byte, extent_of, meet, meets_from, some_meet}

list_any-extents : (segment : Segment) (segments : List Segment) → list_any (meet (extent_of segment)) (map extent_of segments) ≡ list_any (share_byte segment) segments
list_any-extents segment [] = refl
list_any-extents segment (next ∷ segments) = ap (λ (b : Bool). share_byte segment next || b) (list_any-extents segment segments)

-- two extents meet exactly where two of the segments share a byte
pub some_meet-extents : (segments : List Segment) → some_meet (map extent_of segments) ≡ overlap segments
unfolding overlap
some_meet-extents [] = refl
some_meet-extents (segment ∷ segments) = ap₂ (λ (a b : Bool). a || b) (list_any-extents segment segments) (some_meet-extents segments)

-- extents of which no two meet, as std's word says it
none_meets : (extent : Extent) (extents : List Extent) → list_any (meet extent) extents ≡ false → AllByRecursion (λ y. meet extent y ≡ false) extents
none_meets extent [] h = tt
none_meets extent (next ∷ extents) h = let parts = or_parts _ _ h in (parts.0, none_meets extent extents parts.1)

none_meets_back : (extent : Extent) (extents : List Extent) → AllByRecursion (λ y. meet extent y ≡ false) extents → list_any (meet extent) extents ≡ false
none_meets_back extent [] h = refl
none_meets_back extent (next ∷ extents) h = or_from _ _ h.0 (none_meets_back extent extents h.1)

pub distinct : (extents : List Extent) → some_meet extents ≡ false → IsDistinct meet extents
unfolding IsDistinct
distinct [] h = tt
distinct (extent ∷ extents) h = let parts = or_parts _ _ h in (none_meets extent extents parts.0, distinct extents parts.1)

distinct_back : (extents : List Extent) → IsDistinct meet extents → some_meet extents ≡ false
unfolding IsDistinct
distinct_back [] h = refl
distinct_back (extent ∷ extents) h = or_from _ _ (none_meets_back extent extents h.0) (distinct_back extents h.1)

meet_comm : (a b : Extent) → meet a b ≡ meet b a
meet_comm a b = ap₂ (λ (m n : ℕ). nat_lt m n) (omega arith) (omega arith)

none_moved : (xs ys : List Extent) → IsPermutation xs ys → some_meet xs ≡ false → some_meet ys ≡ false
none_moved xs ys moved h = distinct_back ys (IsDistinct-IsPermutation meet meet_comm xs ys moved (distinct xs h))

same_test : (a b : Bool) → (b ≡ false → a ≡ false) → (a ≡ false → b ≡ false) → b ≡ a
same_test true true f g = refl
same_test true false f g = cc (f refl)
same_test false true f g = cc (g refl)
same_test false false f g = refl

-- the order of extents doesn't matter
pub some_meet-IsPermutation : (xs ys : List Extent) → IsPermutation xs ys → some_meet ys ≡ some_meet xs
some_meet-IsPermutation xs ys moved =
    same_test _ _ (none_moved ys xs (IsPermutation-sym xs ys moved)) (none_moved xs ys moved)

apart : (a b : Extent) → a.end ≤ b.start → meet a b ≡ false
apart a b h = le-ltb _ _ (omega arith)

meets_next : (a b : Extent) → b.start < a.end → a.start ≤ b.start → a.start < a.end → b.start < b.end → meet a b ≡ true
meets_next a b h behind full_a full_b = lt-ltb _ _ (omega arith)

-- an extent meets none of those that begin behind its end
none_behind : (extent : Extent) (extents : List Extent) → All (λ (y : Extent). extent.end ≤ y.start) extents → list_any (meet extent) extents ≡ false
none_behind extent extents h = list_any_none (meet extent) extents (λ k d below. apart extent (get_or extents k d) (h k d below))

both_hold : (a b c d e : Bool) → a ≡ true → c ≡ true → (a || b) ≡ ((c || d) || e)
both_hold a b c d e p q = rw (p, q) refl

neither_holds : (a b c d e : Bool) → a ≡ false → c ≡ false → d ≡ false → b ≡ e → (a || b) ≡ ((c || d) || e)
neither_holds a b c d e p q r h = rw (p, q, r) h

abbrev pub start_of : Extent → ℕ
start_of extent = extent.start

abbrev pub IsFilled : Extent → Type 0
IsFilled extent = extent.start < extent.end

begins_behind : (extent next : Extent) (extents : List Extent) → extent.end ≤ next.start → IsNonDecreasingBy start_of (next ∷ extents) → All (λ (y : Extent). extent.end ≤ y.start) extents
begins_behind extent next extents h sorted k d below =
    let from_next : next.start ≤ (get_or extents k d).start = sorted 0 (suc k) d (omega arith) (omega arith) in
    omega arith

meets_from-next : (extent : Extent) (extents : List Extent) → IsNonDecreasingBy start_of (extent ∷ extents) → All IsFilled (extent ∷ extents) → meets_from extent.end extents ≡ some_meet (extent ∷ extents)
meets_from-next extent [] sorted full = refl
meets_from-next extent (next ∷ extents) sorted full =
    let rest : IsNonDecreasingBy start_of (next ∷ extents) = IsNonDecreasingBy-drop start_of 1 (extent ∷ next ∷ extents) sorted in
    let full_rest : All IsFilled (next ∷ extents) = All-tail IsFilled extent (next ∷ extents) full in
    let first_full : extent.start < extent.end = All-head IsFilled extent (next ∷ extents) full in
    let next_full : next.start < next.end = All-head IsFilled next extents full_rest in
    let next_behind : extent.start ≤ next.start = sorted 0 1 extent (omega arith) (omega arith) in
    let later = meets_from-next next extents rest full_rest in
    ⊎_elim
    (λ (h : next.start < extent.end). both_hold _ _ _ _ _ (lt-ltb _ _ h) (meets_next extent next h next_behind first_full next_full))
    (λ (h : extent.end ≤ next.start).
    neither_holds _ _ _ _ _ (le-ltb _ _ h) (apart extent next h)
    (none_behind extent extents (λ k d below. begins_behind extent next extents h rest k d below)) later)
    (cases_lt next.start extent.end)

-- of extents that are sorted and have addresses, two meet exactly where neighbours do
pub meets_from-sorted : (extents : List Extent) → IsNonDecreasingBy start_of extents → All IsFilled extents → meets_from 0 extents ≡ some_meet extents
meets_from-sorted [] sorted full = refl
meets_from-sorted (extent ∷ extents) sorted full =
    ap (λ (b : Bool). b || meets_from extent.end extents) (le-ltb extent.start 0 (omega arith)) ∙ meets_from-next extent extents sorted full

-- what a sort of the segments' extents says of the segments
pub overlap_from_sorted : (segments : List Segment) (xs ys : List Extent) → xs ≡ map extent_of segments → IsPermutation xs ys → IsNonDecreasingBy start_of ys → All HasBytes segments → meets_from 0 ys ≡ overlap segments
overlap_from_sorted segments xs ys is moved sorted full =
    let filled : All IsFilled xs = All-same IsFilled xs (map extent_of segments) is (All-map IsFilled extent_of segments (λ k d below. omega (arith, full k d below))) in
    meets_from-sorted ys sorted (All-permutation IsFilled xs ys moved filled)
    ∙ some_meet-IsPermutation xs ys moved
    ∙ ap some_meet is
    ∙ some_meet-extents segments
