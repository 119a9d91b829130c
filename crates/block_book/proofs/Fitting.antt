-- The least address that fits, and how a walk over the blocks finds it.
use Rattle.block_book.proofs.Terms.{Bool, List, None, Option, Some, [], ap, arith, cond, eqb, false, get_or, inl, inr, length, max, nat_le, refl, subst, suc, sym, true, zero, ℕ, ◌%◌, ◌&&◌, ◌*◌, ◌+◌, ◌/◌, ◌<◌, ◌∙◌, ◌∷◌, ◌≡◌, ◌≤◌, ◌⊎◌, and_from, and_parts, both_ways, cases_Bool, cases_lt, cases_order, eq-eqb, eqb-true, false_from_ne_true, le-leb, leb-true, or_cases, or_left, or_right, get_or_default, MatchOption-at_some, find, list_all, range_with_len, MatchOption, Block, IsAligned, extent_end, extent_start, is_apart, lies_in, Heap, IsHeap, StandWithin, fit, fits}
use Rattle.block_book.proofs.Sizes.{reserved-multiple}
use Rattle.block_book.proofs.Rising.{stand-starts, stand-ends, stand-aligned, extent-rises}

-- what `fits` says, part by part
pub record FitsAt (heap : Heap) (count from at : ℕ) : Type 0 where
  pub multiple : at % 16 ≡ 0
  pub reaches : from ≤ at
  pub starts : heap.start ≤ at
  pub ends : at + count ≤ heap.end
  pub apart : list_all (λ block. is_apart at count (extent_start block) (extent_end block)) heap.blocks ≡ true

pub fits-parts : (heap : Heap) (count from at : ℕ) → fits heap count from at ≡ true → FitsAt heap count from at
unfolding fits
fits-parts heap count from at h =
    let all = list_all (λ block. is_apart at count (extent_start block) (extent_end block)) heap.blocks in
    let p = and_parts ((eqb (at % 16) 0) && nat_le from at && lies_in at count heap.start heap.end) all h in
    let q = and_parts ((eqb (at % 16) 0) && nat_le from at) (lies_in at count heap.start heap.end) p.0 in
    let r = and_parts (eqb (at % 16) 0) (nat_le from at) q.0 in
    let s = and_parts (nat_le heap.start at) (nat_le (at + count) heap.end) q.1 in
    record {
      multiple = eqb-true (at % 16) 0 r.0;
      reaches = leb-true from at r.1;
      starts = leb-true heap.start at s.0;
      ends = leb-true (at + count) heap.end s.1;
      apart = p.1;
    }

pub fits-from : (heap : Heap) (count from at : ℕ) → FitsAt heap count from at → fits heap count from at ≡ true
unfolding fits
fits-from heap count from at h =
    and_from _ _ (and_from _ _ (and_from _ _ (eq-eqb (at % 16) 0 h.multiple) (le-leb from at h.reaches)) (and_from _ _ (le-leb heap.start at h.starts) (le-leb (at + count) heap.end h.ends))) h.apart

pub unfit : (heap : Heap) (count from at : ℕ) → (FitsAt heap count from at → ⊥) → fits heap count from at ≡ false
unfit heap count from at refuted = false_from_ne_true (fits heap count from at) (λ h. refuted (fits-parts heap count from at h))

weaker : {A : Type 0} {P P' : Type 0} {Q Q' : A → Type 0} (o : Option A) → (P → P') → ((x : A) → Q x → Q' x) → MatchOption o P Q → MatchOption o P' Q'
weaker None f g h = f h
weaker (Some x) f g h = g x h

find-first : (test : ℕ → Bool) (n from : ℕ) → MatchOption (find test (range_with_len from n)) ((j : ℕ) → from ≤ j → j < from + n → test j ≡ false) (λ k. (from ≤ k) × (k < from + n) × (test k ≡ true) × ((j : ℕ) → from ≤ j → j < k → test j ≡ false))
find-first test zero from = λ j le lt. absurd (omega arith)
find-first test (suc n) from =
    elim (cases_Bool (test from)) [
      | inl passes ↦
          subst (λ b. MatchOption (cond b (Some from) (find test (range_with_len (from + 1) n))) ((j : ℕ) → from ≤ j → j < from + suc n → test j ≡ false) (λ k. (from ≤ k) × (k < from + suc n) × (test k ≡ true) × ((j : ℕ) → from ≤ j → j < k → test j ≡ false))) (sym passes)
          ((omega arith), (omega arith), passes, (λ j le lt. absurd (omega arith)))
      | inr refuted ↦
          subst (λ b. MatchOption (cond b (Some from) (find test (range_with_len (from + 1) n))) ((j : ℕ) → from ≤ j → j < from + suc n → test j ≡ false) (λ k. (from ≤ k) × (k < from + suc n) × (test k ≡ true) × ((j : ℕ) → from ≤ j → j < k → test j ≡ false))) (sym refuted)
          (weaker (find test (range_with_len (from + 1) n))
          (λ h j le lt. from-next test from j refuted (λ le'. h j le' (omega arith)) le)
          (λ k h. ((omega arith), (omega arith), h.2, (λ j le lt. from-next test from j refuted (λ le'. h.3 j le' lt) le)))
          (find-first test n (from + 1)))
    ]
  where
    from-next : (test : ℕ → Bool) (from j : ℕ) → test from ≡ false → (from + 1 ≤ j → test j ≡ false) → from ≤ j → test j ≡ false
    from-next test from j refuted later le =
        elim (cases_lt from j) [
          | inl above ↦ later (omega arith)
          | inr here ↦ let same : from ≡ j = omega arith in subst (λ n. test n ≡ false) same refuted
        ]

pub fit-least : (heap : Heap) (count from : ℕ) → MatchOption (fit heap count from) ((at : ℕ) → fits heap count from at ≡ false) (λ least. (fits heap count from least ≡ true) × ((at : ℕ) → at < least → fits heap count from at ≡ false))
unfolding fit
fit-least heap count from =
    weaker (find (fits heap count from) (range_with_len 0 (heap.end + 1)))
    (λ h at. elim (cases_lt heap.end at) [
      | inl past ↦ unfit heap count from at (λ p. let ends = p.ends in absurd (omega arith))
      | inr within ↦ h at (omega arith) (omega arith)
    ])
    (λ k h. (h.2, (λ at below. h.3 at (omega arith) below)))
    (find-first (fits heap count from) (heap.end + 1) 0)

-- a fit fits
pub fit-fits : (heap : Heap) (count from at : ℕ) → fit heap count from ≡ Some at → FitsAt heap count from at
fit-fits heap count from at is =
    fits-parts heap count from at (MatchOption-at_some ((at : ℕ) → fits heap count from at ≡ false) (λ least. (fits heap count from least ≡ true) × ((at : ℕ) → at < least → fits heap count from at ≡ false)) at is (fit-least heap count from)).0

pub fit-some : (heap : Heap) (count from at : ℕ) → FitsAt heap count from at → ((lower : ℕ) → lower < at → fits heap count from lower ≡ false) → fit heap count from ≡ Some at
fit-some heap count from at h least = only (fit heap count from) (fit-least heap count from)
  where
    passes : fits heap count from at ≡ true
    passes = fits-from heap count from at h

    only : (o : Option ℕ) → MatchOption o ((at : ℕ) → fits heap count from at ≡ false) (λ least. (fits heap count from least ≡ true) × ((at : ℕ) → at < least → fits heap count from at ≡ false)) → o ≡ Some at
    only None none = absurd (both_ways (fits heap count from at) (none at) passes)
    only (Some k) some =
        elim (cases_order k at) [
          | inl same ↦ ap Some same
          | inr other ↦
              elim other [
                | inl below ↦ absurd (both_ways (fits heap count from k) (least k below) some.0)
                | inr above ↦ absurd (both_ways (fits heap count from at) (some.1 at above) passes)
              ]
        ]

pub fit-none : (heap : Heap) (count from : ℕ) → ((at : ℕ) → fits heap count from at ≡ false) → fit heap count from ≡ None
fit-none heap count from none = only (fit heap count from) (fit-least heap count from)
  where
    only : (o : Option ℕ) → MatchOption o ((at : ℕ) → fits heap count from at ≡ false) (λ least. (fits heap count from least ≡ true) × ((at : ℕ) → at < least → fits heap count from at ≡ false)) → o ≡ None
    only None h = refl
    only (Some k) h = absurd (both_ways (fits heap count from k) (none k) h.0)

-- bytes that are below or above each extent are apart from all
apart-from : (at count : ℕ) (blocks : List Block) → ((k : ℕ) (d : Block) → k < length blocks → (at + count ≤ extent_start (get_or blocks k d)) ⊎ (extent_end (get_or blocks k d) ≤ at)) → list_all (λ block. is_apart at count (extent_start block) (extent_end block)) blocks ≡ true
apart-from at count [] h = refl
apart-from at count (block ∷ blocks) h =
    and_from (is_apart at count (extent_start block) (extent_end block)) (list_all (λ block. is_apart at count (extent_start block) (extent_end block)) blocks)
    (elim (h 0 block (omega arith)) [
      | inl below ↦ or_left (nat_le (at + count) (extent_start block)) (nat_le (extent_end block) at) (le-leb (at + count) (extent_start block) below)
      | inr above ↦ or_right (nat_le (at + count) (extent_start block)) (nat_le (extent_end block) at) (le-leb (extent_end block) at above)
    ])
    (apart-from at count blocks (λ k d below. h (suc k) d (omega arith)))

-- and the other way round, at one block
apart-at : (at count : ℕ) (blocks : List Block) (k : ℕ) (d : Block) → k < length blocks → list_all (λ block. is_apart at count (extent_start block) (extent_end block)) blocks ≡ true → (at + count ≤ extent_start (get_or blocks k d)) ⊎ (extent_end (get_or blocks k d) ≤ at)
apart-at at count [] k d below h = absurd (omega arith)
apart-at at count (block ∷ blocks) zero d below h =
    let p = and_parts (is_apart at count (extent_start block) (extent_end block)) (list_all (λ block. is_apart at count (extent_start block) (extent_end block)) blocks) h in
    elim (or_cases (nat_le (at + count) (extent_start block)) (nat_le (extent_end block) at) p.0) [
      | inl l ↦ inl (leb-true (at + count) (extent_start block) l)
      | inr r ↦ inr (leb-true (extent_end block) at r)
    ]
apart-at at count (block ∷ blocks) (suc k) d below h =
    let p = and_parts (is_apart at count (extent_start block) (extent_end block)) (list_all (λ block. is_apart at count (extent_start block) (extent_end block)) blocks) h in
    apart-at at count blocks k d (omega arith) p.1

-- later extents begin behind earlier ones
stand-between : (from : ℕ) (blocks : List Block) (to : ℕ) → StandWithin from blocks to → (i k : ℕ) (d : Block) → i ≤ k → k < length blocks → extent_start (get_or blocks i d) ≤ extent_start (get_or blocks k d)
stand-between from [] to h i k d le below = absurd (omega arith)
stand-between from (block ∷ blocks) to h zero zero d le below = omega arith
stand-between from (block ∷ blocks) to h zero (suc k) d le below =
    let later = stand-starts (extent_end block) blocks to h.2 k d (omega arith) in
    let rises = extent-rises block in
    omega arith
stand-between from (block ∷ blocks) to h (suc i) zero d le below = absurd (omega arith)
stand-between from (block ∷ blocks) to h (suc i) (suc k) d le below = stand-between (extent_end block) blocks to h.2 i k d (omega arith) (omega arith)

-- Where a walk over the blocks stands: `low` is a candidate behind the first i blocks, and no lower address fits.
pub record Walks (heap : Heap) (count from i low : ℕ) : Type 0 where
  pub multiple : low % 16 ≡ 0
  pub reaches : from ≤ low
  pub starts : heap.start ≤ low
  pub behind : (k : ℕ) (d : Block) → k < i → extent_end (get_or heap.blocks k d) ≤ low
  pub lower : (at : ℕ) → at < low → fits heap count from at ≡ false

pub walk-begins : (heap : Heap) (count from low : ℕ) → low ≡ (max heap.start from + 15) / 16 * 16 → Walks heap count from 0 low
walk-begins heap count from low is = record {
  multiple = omega arith;
  reaches = omega arith;
  starts = omega arith;
  behind = λ k d below. absurd (omega arith);
  lower = λ at below. unfit heap count from at (λ p. let multiple = p.multiple in let reaches = p.reaches in let starts = p.starts in absurd (omega arith));
}

-- the block at i leaves no room below it
pub walk-goes : (heap : Heap) (count from i low : ℕ) (block : Block) → IsHeap heap → Walks heap count from i low → i < length heap.blocks → block ≡ get_or heap.blocks i block → extent_start block < low + count → extent_end block % 16 ≡ 0 → Walks heap count from (i + 1) (max low (extent_end block))
walk-goes heap count from i low block sound w within is narrow even = record {
  multiple = omega (arith, w.multiple);
  reaches = omega (arith, w.reaches);
  starts = omega (arith, w.starts);
  behind = λ k d below.
      elim (cases_lt k i) [
        | inl earlier ↦ let ends = w.behind k d earlier in omega arith
        | inr here ↦
            let same : i ≡ k = omega arith in
            subst (λ n. extent_end (get_or heap.blocks n d) ≤ max low (extent_end block)) same (subst (λ b. extent_end b ≤ max low (extent_end block)) (is ∙ get_or_default heap.blocks i block d within) (omega arith))
      ];
  lower = λ at below.
      elim (cases_lt at low) [
        | inl earlier ↦ w.lower at earlier
        | inr later ↦
            unfit heap count from at (λ p.
            elim (subst (λ b. (at + count ≤ extent_start b) ⊎ (extent_end b ≤ at)) (sym is) (apart-at at count heap.blocks i block within p.apart)) [
              | inl l ↦ absurd (omega arith)
              | inr r ↦ absurd (omega arith)
            ])
      ];
}

-- the block at i leaves room below it
pub walk-stops : (heap : Heap) (count from i low : ℕ) (block : Block) → IsHeap heap → Walks heap count from i low → i < length heap.blocks → block ≡ get_or heap.blocks i block → low + count ≤ extent_start block → extent_start block ≤ heap.end → fit heap count from ≡ Some low
walk-stops heap count from i low block sound w within is room ends =
    fit-some heap count from low
    (record {
      multiple = w.multiple;
      reaches = w.reaches;
      starts = w.starts;
      ends = omega arith;
      apart = apart-from low count heap.blocks (λ k d below.
          elim (cases_lt k i) [
            | inl earlier ↦ inr (w.behind k d earlier)
            | inr later ↦
                let begins = stand-between heap.start heap.blocks heap.end sound.standing i k block later below in
                let here : low + count ≤ extent_start (get_or heap.blocks i block) = subst (λ b. low + count ≤ extent_start b) is room in
                inl (subst (λ b. low + count ≤ extent_start b) (get_or_default heap.blocks k block d below) (omega arith))
          ]);
    })
    w.lower

-- there is room behind all blocks, or nowhere
pub walk-ends : (heap : Heap) (count from i low : ℕ) → Walks heap count from i low → length heap.blocks ≤ i → low + count ≤ heap.end → fit heap count from ≡ Some low
walk-ends heap count from i low w all room =
    fit-some heap count from low
    (record {
      multiple = w.multiple;
      reaches = w.reaches;
      starts = w.starts;
      ends = room;
      apart = apart-from low count heap.blocks (λ k d below. inr (w.behind k d (omega arith)));
    })
    w.lower

pub walk-fails : (heap : Heap) (count from i low : ℕ) → Walks heap count from i low → heap.end < low + count → fit heap count from ≡ None
walk-fails heap count from i low w full =
    fit-none heap count from (λ at.
    elim (cases_lt at low) [
      | inl below ↦ w.lower at below
      | inr above ↦ unfit heap count from at (λ p. let ends = p.ends in absurd (omega arith))
    ])

-- an aligned block's extent ends at a multiple of 16
pub extent-even : (block : Block) → IsAligned block → extent_end block % 16 ≡ 0
extent-even block h = omega (arith, h.at_multiple, h.side_multiple, reserved-multiple block.size)

-- one turn of the walk, by the list of blocks that the loop goes over
pub turn-stops : (heap : Heap) (items : List Block) (count from i low begins : ℕ) (d : Block) → IsHeap heap → items ≡ heap.blocks → Walks heap count from i low → i < length items → begins ≡ extent_start (get_or items i d) → low + count ≤ begins → (fit heap count from ≡ Some low) × (low + count ≤ heap.end)
turn-stops heap items count from i low begins d sound same w below is room =
    let block = get_or heap.blocks i d in
    let within : i < length heap.blocks = subst (λ xs. i < length xs) same below in
    let here : begins ≡ extent_start (get_or heap.blocks i d) = subst (λ xs. begins ≡ extent_start (get_or xs i d)) same is in
    let ends = stand-ends heap.start heap.blocks heap.end sound.standing i d within in
    let rises = extent-rises (get_or heap.blocks i d) in (
      walk-stops heap count from i low block sound w within (get_or_default heap.blocks i d block within) (omega arith) (omega arith),
      omega arith,
    )

pub turn-goes : (heap : Heap) (items : List Block) (count from i low begins end next : ℕ) (d : Block) → IsHeap heap → items ≡ heap.blocks → Walks heap count from i low → i < length items → begins ≡ extent_start (get_or items i d) → begins < low + count → end ≡ extent_end (get_or items i d) → next ≡ max low end → Walks heap count from (i + 1) next × (next ≤ max low heap.end)
turn-goes heap items count from i low begins end next d sound same w below is narrow ends steps =
    let block = get_or heap.blocks i d in
    let within : i < length heap.blocks = subst (λ xs. i < length xs) same below in
    let here : begins ≡ extent_start (get_or heap.blocks i d) = subst (λ xs. begins ≡ extent_start (get_or xs i d)) same is in
    let there : end ≡ extent_end (get_or heap.blocks i d) = subst (λ xs. end ≡ extent_end (get_or xs i d)) same ends in
    let last = stand-ends heap.start heap.blocks heap.end sound.standing i d within in
    let even = extent-even block (stand-aligned heap.start heap.blocks heap.end sound.standing i d within) in (
      subst (Walks heap count from (i + 1)) (sym (steps ∙ ap (max low) there))
          (walk-goes heap count from i low block sound w within (get_or_default heap.blocks i d block within) (omega arith) even),
      omega arith,
    )
