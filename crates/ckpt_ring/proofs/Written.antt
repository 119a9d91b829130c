-- The live space is written.
use Rattle.ckpt_ring.proofs.Terms.{All, Bool, IfSome, IsSome, List, None, Option, Some, ap, arith, false, get_or, inl, inr, length, not, refl, slice_get, subst, sym, true, ℕ, ⊎_elim, ◌&&◌, ◌+◌, ◌<◌, ◌==◌, ◌∙◌, ◌≡◌, ◌⊎◌, ne_eqb, or_parts, true≢false, has-append, has-get_or, IsLawful, Pages, has, saved_numbers, NumberAfter, Writes, is_shared, reaches, IsFresh, IsLine, Line, base_of, checkpoints_in, frames_in, frames_of_all, with_reached, written_pages, written_since}
use Rattle.ckpt_ring.proofs.Frames.{whole_slot, not_in_slot, not_in_slots}
use Rattle.ckpt_ring.proofs.Same.{at_place, Stays, since-same, fresh-same, are_fresh-same, saved-same}
use Rattle.ckpt_ring.proofs.Flags.{differ-at, Reached, differ-reached, all-reached}

-- the number of a page is as it was where a write doesn't reach it, and else one that no slot has
abbrev NumberBy : Bool → Pages → ℕ → ℕ → Type 0
NumberBy reached old page n = ((reached ≡ false) × (n ≡ get_or old.live.numbers page 0)) ⊎ ((reached ≡ true) × (has n (saved_numbers old.slots) ≡ false))

number_by : (reached shared : Bool) (old : Pages) (page n : ℕ) → shared ≡ is_shared old page → NumberAfter (reached && shared) old page n → NumberBy reached old page n
number_by true true old page n is free = inr (refl, (or_parts (has n old.live.numbers) (has n (saved_numbers old.slots)) (sym (has-append n old.live.numbers (saved_numbers old.slots)) ∙ free.1)).1)
number_by true false old page n is same = inr (refl, ap (λ m. has m (saved_numbers old.slots)) same ∙ sym is)
number_by false shared old page n is same = inl (refl, same)

-- a frame of a slot isn't a number that no slot has
not_theirs : (store : Pages) (slot page n : ℕ) → page < length (frames_in store slot) → has n (saved_numbers store.slots) ≡ false → (get_or (frames_in store slot) page 0 == n) ≡ false
not_theirs store slot page n less none =
    ne_eqb (get_or (frames_in store slot) page 0) n (λ same. true≢false
    (sym (has-get_or (frames_in store slot) page less) ∙ ap (λ m. has m (frames_in store slot)) same ∙ not_in_slot n store.slots slot none))

module _ (old new : Pages) (line : Line) (at : ℕ) (bytes : List ℕ) (lawful : IsLawful old) (after : IsLawful new) (so : IsLine old line) (writes : Writes old new at bytes) where
  old_long : length old.live.numbers ≡ old.pages
  old_long = (lawful.spaces old.live (inl refl)).numbers

  new_long : length new.live.numbers ≡ old.pages
  new_long = (after.spaces new.live (inl refl)).numbers ∙ writes.pages

  stay_all : (slots : List ℕ) → All (Stays old new) slots
  stay_all slots = λ k d less. ap (λ list. get_or list (get_or slots k d) None) writes.slots

  number_cases : (page : ℕ) → page < old.pages → NumberBy (reaches at (length bytes) page) old page (get_or new.live.numbers page 0)
  number_cases page less = number_by (reaches at (length bytes) page) (is_shared old page) old page (get_or new.live.numbers page 0) refl (writes.numbers page less)

  -- a slot has a frame for each page
  abbrev Whole : ℕ → Type 0
  Whole slot = length (frames_in old slot) ≡ old.pages

  base_whole : IfSome (base_of line) Whole
  base_whole = at_place Whole line.order line.newer (λ k d less. (whole_slot old (get_or line.order k d) lawful (so.each_saved k d less).1).0)

  flags_by : (base : Option ℕ) → IfSome base Whole → written_since old base new.live.numbers ≡ with_reached at (length bytes) (written_since old base old.live.numbers)
  flags_by None whole = all-reached 0 at (length bytes) old.pages
  flags_by (Some slot) whole =
      differ-reached 0 at (length bytes) (frames_in old slot) old.live.numbers new.live.numbers (old_long ∙ sym whole) (new_long ∙ sym whole) (λ page less.
      let here : page ≡ 0 + page = omega arith in
      let frame = get_or (frames_in old slot) page 0 in
      subst (λ n. Reached (reaches at (length bytes) n) frame (get_or old.live.numbers page 0) (get_or new.live.numbers page 0)) here
      (⊎_elim (λ kept. inl kept) (λ moved. inr (moved.0, not_theirs old slot page (get_or new.live.numbers page 0) less moved.1)) (number_cases page (omega (arith, whole)))))

  -- the flag of a page that keeps its number stays
  flag_stays : (base : Option ℕ) (page : ℕ) → IfSome base Whole → page < old.pages → get_or new.live.numbers page 0 ≡ get_or old.live.numbers page 0
      → slice_get (written_since old base new.live.numbers) page ≡ slice_get (written_since old base old.live.numbers) page
  flag_stays None page whole less same = refl
  flag_stays (Some slot) page whole less same =
      let near : page < length (frames_in old slot) = omega (arith, whole) in
      differ-at (frames_in old slot) new.live.numbers page near (omega (arith, new_long))
      ∙ ap (λ n. Some (not (get_or (frames_in old slot) page 0 == n))) same ∙ sym (differ-at (frames_in old slot) old.live.numbers page near (omega (arith, old_long)))

  live_fresh : IsFresh old (base_of line) line.order new.live.numbers
  live_fresh page less written =
      elim (number_cases page less) [
        | inl kept ↦ ap (λ n. has n (frames_of_all old line.order)) kept.1 ∙ so.live page less (sym (flag_stays (base_of line) page base_whole less kept.1) ∙ written)
        | inr moved ↦ not_in_slots (get_or new.live.numbers page 0) old line.order moved.1
      ]

  base_stays : IfSome (base_of line) (Stays old new)
  base_stays = at_place (Stays old new) line.order line.newer (stay_all line.order)

  writes_line : IsLine new line
  writes_line = record {
    distinct = so.distinct;
    each_saved = subst (λ slots. All (λ slot. (slot < length slots) × IsSome (get_or slots slot None)) line.order) (sym writes.slots) so.each_saved;
    all_saved = λ slot some. so.all_saved slot (subst (λ slots. IsSome (get_or slots slot None)) writes.slots some);
    base = so.base;
    fresh = are_fresh-same old new line.order writes.pages (stay_all line.order) so.fresh;
    live = fresh-same old new (base_of line) line.order new.live.numbers writes.pages base_stays (stay_all line.order) live_fresh;
    frames = omega (arith, so.frames, writes.pages, writes.frames);
  }

  -- the pages that a write reaches are written, and nothing that is saved changes
  pub line_writes : {State : Type 0} (state_in : ℕ → State)
      → IsLine new line × (written_pages new line ≡ with_reached at (length bytes) (written_pages old line)) × (checkpoints_in state_in new line.order ≡ checkpoints_in state_in old line.order)
  line_writes state_in = (
    writes_line,
    since-same old new (base_of line) new.live.numbers writes.pages base_stays ∙ flags_by (base_of line) base_whole,
    saved-same state_in state_in old new line.order writes.pages (stay_all line.order) (λ k d less. refl),
  )
