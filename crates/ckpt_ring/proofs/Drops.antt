-- A saved slot is given up: the oldest, or the newest.
use Rattle.std.proofs.lemmas.Map.Keys.{IsDistinct-tail}
use Rattle.ckpt_ring.proofs.Terms.{All, Contains, IfSome, IsSome, List, None, Option, Some, [], ap, ap₂, arith, drop, false, get_or, inl, inr, length, length-drop, length-take-le, nat_eq, refl, set, slice_get, subst, suc, sym, take, zero, ℕ, ◌-◌, ◌<◌, ◌∙◌, ◌∷◌, ◌≡◌, ◌≢◌, ◌⊎◌, cases_eq, cases_lt, or_from, or_parts, Decides-eqb, get_or-take, length-set, All-contains, All-contains_itself, All-tail, All-take, AllPairs-from_IsDistinct, IsDistinct-from_AllPairs, get_or_from_slice_get, slice_get_within, AllPairs, IsDistinct, has-append, Pages, has, slot_at, AreFresh, IsFresh, IsLine, Line, base_of, checkpoints_in, count_true, frames_in, frames_of_all, line_of, slots_of, written_pages, written_since, Checkpoint, oldest_of, with_saved, with_whole_oldest, without_newer, without_oldest}
use Rattle.ckpt_ring.proofs.Same.{at_place, Stays, since-same, fresh-same, are_fresh-same, saved-same, length-checkpoints_in, made_slots, with_slot, other_slot, this_slot, emptied}
use Rattle.ckpt_ring.proofs.Flags.{count_true-all}

-- a list without one of its numbers
record Without (order rest : List ℕ) (slot : ℕ) : Type 0 where
  here : Contains order slot
  apart : All (λ other. other ≢ slot) rest
  inside : All (Contains order) rest
  others : (other : ℕ) → other ≢ slot → Contains order other → Contains rest other
  distinct : IsDistinct nat_eq rest

without_first : (order : List ℕ) (slot : ℕ) → IsDistinct nat_eq order → slice_get order 0 ≡ Some slot → Without order (drop 1 order) slot
without_first [] slot distinct is = cc
without_first (first ∷ older) slot distinct is =
    let same : first ≡ slot = cc in
    subst (Without (first ∷ older) older) same (record {
      here = (0, omega arith, refl);
      apart = λ k d less equal. AllPairs-from_IsDistinct Decides-eqb (first ∷ older) distinct 0 (suc k) d (omega arith) (omega arith) (sym equal);
      inside = All-tail (Contains (first ∷ older)) first older (All-contains_itself (first ∷ older));
      others = behind;
      distinct = IsDistinct-tail nat_eq first older distinct;
    }) where
      behind : (other : ℕ) → other ≢ first → Contains (first ∷ older) other → Contains older other
      behind other differs (zero, less, at) = absurd (differs (sym at))
      behind other differs (suc k, less, at) = (k, omega arith, at)

without_last : (order : List ℕ) (slot : ℕ) → IsDistinct nat_eq order → oldest_of order ≡ Some slot → Without order (take (length order - 1) order) slot
without_last order slot distinct is =
    let last : ℕ = length order - 1 in
    let near : last < length order = slice_get_within order last slot is in
    let long : length (take last order) ≡ last = length-take-le last order (omega arith) in
    let pairs : AllPairs (λ x y. x ≢ y) order = AllPairs-from_IsDistinct Decides-eqb order distinct in
    record {
      here = (last, near, get_or_from_slice_get order last slot slot is);
      apart = λ k d less equal.
          let before : k < last = omega (arith, less, long) in
          pairs k last d before near (sym (get_or-take last order k d before) ∙ equal ∙ sym (get_or_from_slice_get order last slot d is));
      inside = All-take (Contains order) last order (All-contains_itself order);
      others = λ other differs there.
          elim (cases_lt there.0 last) [
            | inl before ↦ (there.0, omega (arith, before, long), get_or-take last order there.0 other before ∙ there.2)
            | inr behind ↦
                (let same : there.0 ≡ last = omega (arith, behind, there.1) in
                absurd (differs (sym there.2 ∙ ap (λ k. get_or order k other) same ∙ get_or_from_slice_get order last slot other is)))
          ];
      distinct = IsDistinct-from_AllPairs Decides-eqb (take last order) (λ i j d before less equal.
          pairs i j d before (omega (arith, less, long)) (sym (get_or-take last order i d (omega (arith, before, less, long))) ∙ equal ∙ get_or-take last order j d (omega (arith, less, long))));
    }

module _ (old : Pages) (line : Line) (slot : ℕ) (so : IsLine old line) (order : List ℕ) (newer : ℕ) (without : Without line.order order slot) where
  abbrev new : Pages
  new = with_slot old slot None

  stay : All (Stays old new) order
  stay = λ k d less. other_slot old slot (get_or order k d) None (without.apart k d less)

  stays_base : IfSome (slice_get order newer) (Stays old new)
  stays_base = at_place (Stays old new) order newer stay

  given_up : (newer < length order) ⊎ ((order ≡ []) × (newer ≡ 0)) → AreFresh old order → IsFresh old (slice_get order newer) order old.live.numbers → IsLine new (line_of order newer)
  given_up base fresh live =
      let long : length (set old.slots slot None) ≡ length old.slots = length-set old.slots slot None in
      let was : (other : ℕ) → Contains line.order other → (other < length old.slots) × IsSome (slot_at old other) =
      λ other there. All-contains (λ n. (n < length old.slots) × IsSome (slot_at old n)) line.order other so.each_saved there in
      record {
        distinct = without.distinct;
        each_saved = λ k d less.
            let is = was (get_or order k d) (without.inside k d less) in
            (omega (arith, is.0), subst IsSome (sym (stay k d less)) is.1);
        all_saved = λ other some.
            elim (cases_eq other slot) [
              | inl same ↦ absurd (emptied (slot_at new other) (ap (slot_at new) same ∙ this_slot old slot None (was slot without.here).0) some)
              | inr differs ↦ without.others other differs (so.all_saved other (subst IsSome (other_slot old slot other None differs) some))
            ];
        base = base;
        fresh = are_fresh-same old new order refl stay fresh;
        live = fresh-same old new (slice_get order newer) order old.live.numbers refl stays_base stay live;
        frames = so.frames;
      }

  same_flags : written_pages new (line_of order newer) ≡ written_pages old (line_of order newer)
  same_flags = since-same old new (slice_get order newer) old.live.numbers refl stays_base

  same_slots : {State : Type 0} (state_in other_in : ℕ → State) (live : State) → ((other : ℕ) → other ≢ slot → other_in other ≡ state_in other)
      → slots_of other_in live new (line_of order newer) ≡ slots_of state_in live old (line_of order newer)
  same_slots state_in other_in live others =
      ap₂ (λ list bits. made_slots live list newer (count_true bits) (length (set old.slots slot None)) old.pages old.frames)
      (saved-same state_in other_in old new order refl stay (λ k d less. others (get_or order k d) (without.apart k d less))) same_flags
      ∙ ap (λ n. made_slots live (checkpoints_in state_in old order) newer (count_true (written_pages old (line_of order newer))) n old.pages old.frames) (length-set old.slots slot None)

-- what is fresh beside slots is so beside the newest of them
fewer_frames : (store : Pages) (n count : ℕ) (slots : List ℕ) → has n (frames_of_all store slots) ≡ false → has n (frames_of_all store (take count slots)) ≡ false
fewer_frames store n zero slots none = refl
fewer_frames store n (suc count) [] none = refl
fewer_frames store n (suc count) (slot ∷ slots) none =
    let both = or_parts (has n (frames_in store slot)) (has n (frames_of_all store slots)) (sym (has-append n (frames_in store slot) (frames_of_all store slots)) ∙ none) in
    has-append n (frames_in store slot) (frames_of_all store (take count slots))
    ∙ or_from (has n (frames_in store slot)) (has n (frames_of_all store (take count slots))) both.0 (fewer_frames store n count slots both.1)

fresh-take : (store : Pages) (count : ℕ) (slots numbers : List ℕ) → IsFresh store (slice_get slots 0) slots numbers → IsFresh store (slice_get (take count slots) 0) (take count slots) numbers
fresh-take store zero slots numbers fresh = λ page less written. refl
fresh-take store (suc count) [] numbers fresh = fresh
fresh-take store (suc count) (slot ∷ slots) numbers fresh = λ page less written. fewer_frames store (get_or numbers page 0) (suc count) (slot ∷ slots) (fresh page less written)

are_fresh-take : (store : Pages) (count : ℕ) (order : List ℕ) → AreFresh store order → AreFresh store (take count order)
are_fresh-take store zero order fresh = tt
are_fresh-take store (suc count) [] fresh = tt
are_fresh-take store (suc count) (slot ∷ older) fresh = (fresh-take store count older (frames_in store slot) fresh.0, are_fresh-take store count older fresh.1)

stands_first : (order : List ℕ) → (0 < length order) ⊎ ((order ≡ []) × (zero ≡ 0))
stands_first [] = inr (refl, refl)
stands_first (slot ∷ older) = inl (omega arith)

-- the live space stands on the same slot when the newest is gone
base-drop : (order : List ℕ) (newer : ℕ) → 0 < newer → slice_get (drop 1 order) (newer - 1) ≡ slice_get order newer
base-drop [] newer some = refl
base-drop (slot ∷ older) newer some = let place : suc (newer - 1) ≡ newer = omega arith in ap (slice_get (slot ∷ older)) place

fresh-drop : (store : Pages) (order numbers : List ℕ) (previous : Option ℕ) → IsFresh store previous order numbers → IsFresh store previous (drop 1 order) numbers
fresh-drop store [] numbers previous fresh = fresh
fresh-drop store (slot ∷ older) numbers previous fresh = λ page less written.
    let n = get_or numbers page 0 in
    (or_parts (has n (frames_in store slot)) (has n (frames_of_all store older)) (sym (has-append n (frames_in store slot) (frames_of_all store older)) ∙ fresh page less written)).1

are_fresh-drop : (store : Pages) (order : List ℕ) → AreFresh store order → AreFresh store (drop 1 order)
are_fresh-drop store [] fresh = fresh
are_fresh-drop store (slot ∷ older) fresh = fresh.1

module _ {State : Type 0} (state_in : ℕ → State) (live : State) (store : Pages) where
  -- of the newest checkpoints the last one has all pages as its number
  saved-take : (count : ℕ) (order : List ℕ) → checkpoints_in state_in store (take count order) ≡ with_whole_oldest store.pages (take count (checkpoints_in state_in store order))
  saved-take zero order = refl
  saved-take (suc count) [] = refl
  saved-take (suc zero) (slot ∷ older) = ap (λ n. record { state = state_in slot; pages = n } ∷ []) (count_true-all store.pages)
  saved-take (suc (suc count)) (slot ∷ []) = ap (λ n. record { state = state_in slot; pages = n } ∷ []) (count_true-all store.pages)
  saved-take (suc (suc count)) (slot ∷ next ∷ older) =
      ap (λ list. record { state = state_in slot; pages = count_true (written_since store (Some next) (frames_in store slot)) } ∷ list) (saved-take (suc count) (next ∷ older))

  slots-take : (count : ℕ) (order : List ℕ)
      → slots_of state_in live store (line_of (take count order) 0) ≡ with_saved (with_whole_oldest store.pages (take count (checkpoints_in state_in store order))) (slots_of state_in live store (line_of order 0))
  slots-take zero order = ap (λ n. made_slots live [] 0 n (length store.slots) store.pages store.frames) (count_true-all store.pages)
  slots-take (suc count) [] = ap (λ n. made_slots live [] 0 n (length store.slots) store.pages store.frames) (count_true-all store.pages)
  slots-take (suc count) (slot ∷ older) = ap (λ list. with_saved list (slots_of state_in live store (line_of (slot ∷ older) 0))) (saved-take (suc count) (slot ∷ older))

  slots-drop : (order : List ℕ) (newer : ℕ) → 0 < newer → slots_of state_in live store (line_of (drop 1 order) (newer - 1)) ≡ without_newer 1 (slots_of state_in live store (line_of order newer))
  slots-drop [] newer some = refl
  slots-drop (slot ∷ older) newer some =
      ap (λ o. made_slots live (checkpoints_in state_in store older) (newer - 1) (count_true (written_since store o store.live.numbers)) (length store.slots) store.pages store.frames)
      (base-drop (slot ∷ older) newer some)

module _ {State : Type 0} (state_in other_in : ℕ → State) (live : State) (old : Pages) (line : Line) (slot : ℕ) (others : (other : ℕ) → other ≢ slot → other_in other ≡ state_in other) where
  -- the oldest
  pub line_drops_oldest : IsLine old line → line.newer ≡ 0 → oldest_of line.order ≡ Some slot
      → IsLine (with_slot old slot None) (line_of (take (length line.order - 1) line.order) line.newer)
      × (slots_of other_in live (with_slot old slot None) (line_of (take (length line.order - 1) line.order) line.newer) ≡ without_oldest (slots_of state_in live old line))
  line_drops_oldest so newest is =
      let rest : List ℕ = take (length line.order - 1) line.order in
      let saved : List (Checkpoint State) = checkpoints_in state_in old line.order in
      let without : Without line.order rest slot = without_last line.order slot so.distinct is in
      let live_fresh : IsFresh old (slice_get line.order 0) line.order old.live.numbers = subst (λ n. IsFresh old (slice_get line.order n) line.order old.live.numbers) newest so.live in
      subst (λ n. IsLine (with_slot old slot None) (line_of rest n) × (slots_of other_in live (with_slot old slot None) (line_of rest n) ≡ without_oldest (slots_of state_in live old (line_of line.order n)))) (sym newest) (
        given_up old line slot so rest 0 without (stands_first rest) (are_fresh-take old (length line.order - 1) line.order so.fresh) (fresh-take old (length line.order - 1) line.order old.live.numbers live_fresh),
        same_slots old line slot so rest 0 without state_in other_in live others
            ∙ slots-take state_in live old (length line.order - 1) line.order
            ∙ ap (λ n. with_saved (with_whole_oldest old.pages (take (n - 1) saved)) (slots_of state_in live old (line_of line.order 0))) (sym (length-checkpoints_in state_in old line.order)),
      )

  -- the newest, where the live space stands on an older one: its flags stay
  pub line_drops_newest : IsLine old line → 0 < line.newer → slice_get line.order 0 ≡ Some slot
      → IsLine (with_slot old slot None) (line_of (drop 1 line.order) (line.newer - 1))
      × (slots_of other_in live (with_slot old slot None) (line_of (drop 1 line.order) (line.newer - 1)) ≡ without_newer 1 (slots_of state_in live old line))
      × (written_pages (with_slot old slot None) (line_of (drop 1 line.order) (line.newer - 1)) ≡ written_pages old line)
  line_drops_newest so some is =
      let rest : List ℕ = drop 1 line.order in
      let without : Without line.order rest slot = without_first line.order slot so.distinct is in
      let stands : slice_get rest (line.newer - 1) ≡ base_of line = base-drop line.order line.newer some in
      let base : (line.newer - 1 < length rest) ⊎ ((rest ≡ []) × (line.newer - 1 ≡ 0)) =
      elim so.base [ inl less ↦ inl (omega (arith, less, some, length-drop 1 line.order)) | inr none ↦ absurd (omega (arith, some, none.1)) ] in (
        given_up old line slot so rest (line.newer - 1) without base (are_fresh-drop old line.order so.fresh)
            (subst (λ o. IsFresh old o rest old.live.numbers) (sym stands) (fresh-drop old line.order old.live.numbers (base_of line) so.live)),
        same_slots old line slot so rest (line.newer - 1) without state_in other_in live others ∙ slots-drop state_in live old line.order line.newer some,
        same_flags old line slot so rest (line.newer - 1) without ∙ ap (λ o. written_since old o old.live.numbers) stands,
      )
