-- The live space is saved in a slot that was empty.
use Rattle.std.proofs.lemmas.List.Kept.{AllPairs-cons}
use Rattle.ckpt_ring.proofs.Terms.{All, IfSome, IsSome, None, Some, ap, ap₂, arith, get_or, inl, inr, is_some, length, refl, set, slice_get, subst, suc, sym, ℕ, ◌<◌, ◌∙◌, ◌∷◌, ◌≡◌, ◌≢◌, cases_eq, Decides-eqb, length-set, All-cons, AllPairs-from_IsDistinct, IsDistinct-from_AllPairs, Pages, slot_at, IsFresh, IsLine, Line, base_of, checkpoints_in, count_true, frames_in, frames_of, line_of, slots_of, written_pages, written_since, Checkpoint, with_newest}
use Rattle.ckpt_ring.proofs.Same.{at_place, Stays, since-same, fresh-same, are_fresh-same, saved-same, made_slots, with_slot, other_slot, this_slot, emptied}
use Rattle.ckpt_ring.proofs.Restores.{fresh_itself, none_written}

module _ (old : Pages) (line : Line) (slot : ℕ) (so : IsLine old line) (newest : line.newer ≡ 0) (less : slot < length old.slots) (empty : slot_at old slot ≡ None) where
  abbrev new : Pages
  new = with_slot old slot (Some old.live)

  apart : All (λ other. other ≢ slot) line.order
  apart = λ k d near same. emptied (slot_at old (get_or line.order k d)) (ap (slot_at old) same ∙ empty) (so.each_saved k d near).1

  stay : All (Stays old new) line.order
  stay = λ k d near. other_slot old slot (get_or line.order k d) (Some old.live) (apart k d near)

  stays_first : IfSome (slice_get line.order 0) (Stays old new)
  stays_first = at_place (Stays old new) line.order 0 stay

  here : slot_at new slot ≡ Some old.live
  here = this_slot old slot (Some old.live) less

  stands : base_of line ≡ slice_get line.order 0
  stands = ap (slice_get line.order) newest

  saves_line : IsLine new (line_of (slot ∷ line.order) 0)
  saves_line =
      let long : length (set old.slots slot (Some old.live)) ≡ length old.slots = length-set old.slots slot (Some old.live) in
      record {
        distinct = IsDistinct-from_AllPairs Decides-eqb (slot ∷ line.order)
            (AllPairs-cons (λ x y. x ≢ y) slot line.order (λ k d near same. apart k d near (sym same)) (AllPairs-from_IsDistinct Decides-eqb line.order so.distinct));
        each_saved = All-cons (λ n. (n < length (set old.slots slot (Some old.live))) × IsSome (slot_at new n)) slot line.order
            (omega arith, ap is_some here)
            (λ k d near. let was = so.each_saved k d near in (omega (arith, was.0), subst IsSome (sym (stay k d near)) was.1));
        all_saved = λ other some.
            elim (cases_eq other slot) [
              | inl same ↦ (0, omega arith, sym same)
              | inr differs ↦ (let found = so.all_saved other (subst IsSome (other_slot old slot other (Some old.live) differs) some) in (suc found.0, omega (arith, found.1), found.2))
            ];
        base = inl (omega arith);
        fresh = (
          subst (λ o. IsFresh new (slice_get line.order 0) line.order (frames_of o)) (sym here)
              (fresh-same old new (slice_get line.order 0) line.order old.live.numbers refl stays_first stay (subst (λ o. IsFresh old o line.order old.live.numbers) stands so.live)),
          are_fresh-same old new line.order refl stay so.fresh,
        );
        live = fresh_itself new slot old.live (slot ∷ line.order) here;
        frames = so.frames;
      }

  -- it is the newest checkpoint then
  pub line_saves : {State : Type 0} (state_in other_in : ℕ → State) (live : State) → other_in slot ≡ live → ((other : ℕ) → other ≢ slot → other_in other ≡ state_in other)
      → IsLine new (line_of (slot ∷ line.order) 0) × (slots_of other_in live new (line_of (slot ∷ line.order) 0) ≡ with_newest (slots_of state_in live old line))
  line_saves {State = State} state_in other_in live this others =
      let flags : written_since new (slice_get line.order 0) (frames_in new slot) ≡ written_pages old line =
      ap (λ o. written_since new (slice_get line.order 0) (frames_of o)) here ∙ since-same old new (slice_get line.order 0) old.live.numbers refl stays_first ∙ ap (λ o. written_since old o old.live.numbers) (sym stands) in
      let older : checkpoints_in other_in new line.order ≡ checkpoints_in state_in old line.order = saved-same state_in other_in old new line.order refl stay (λ k d near. others (get_or line.order k d) (apart k d near)) in
      let one : Checkpoint State = record { state = live; pages = count_true (written_pages old line) } in
      let saved : checkpoints_in other_in new (slot ∷ line.order) ≡ one ∷ checkpoints_in state_in old line.order =
      ap₂ (λ state bits. record { state = state; pages = count_true bits } ∷ checkpoints_in other_in new line.order) this flags ∙ ap (λ list. one ∷ list) older in (
        saves_line,
        ap₂ (λ list n. made_slots live list 0 n (length (set old.slots slot (Some old.live))) old.pages old.frames) saved (none_written new slot old.live here)
            ∙ ap (λ n. made_slots live (one ∷ checkpoints_in state_in old line.order) 0 0 n old.pages old.frames) (length-set old.slots slot (Some old.live)),
      )
