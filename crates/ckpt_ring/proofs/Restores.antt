-- The live space becomes what is saved in a slot.
use Rattle.ckpt_ring.proofs.Terms.{IsSomeAnd, List, Some, ap, ap₂, inl, length, refl, slice_get, subst, sym, ℕ, ◌∙◌, ◌≡◌, slice_get_within, Pages, Space, slot_at, IsFresh, IsLine, Line, checkpoints_in, count_true, differ, frames_in, frames_of, line_of, slots_of, written_pages, written_since, restored}
use Rattle.ckpt_ring.proofs.Same.{are_fresh-same, saved-same, checkpoint_at, made_slots}
use Rattle.ckpt_ring.proofs.Flags.{differ-itself, count_true-itself}

abbrev pub with_live : Pages → Space → Pages
with_live store space = record store { live = space }

-- a space that stands on itself has written no page
pub fresh_itself : (store : Pages) (slot : ℕ) (space : Space) (slots : List ℕ) → slot_at store slot ≡ Some space → IsFresh store (Some slot) slots space.numbers
fresh_itself store slot space slots there = λ page less written.
    absurd (differ-itself space.numbers page (ap (λ o. slice_get (differ (frames_of o) space.numbers) page) (sym there) ∙ written))

pub none_written : (store : Pages) (slot : ℕ) (space : Space) → slot_at store slot ≡ Some space → count_true (differ (frames_in store slot) space.numbers) ≡ 0
none_written store slot space there = ap (λ o. count_true (differ (frames_of o) space.numbers)) there ∙ count_true-itself space.numbers

module _ {State : Type 0} where
  -- the live space stands on the slot at a place
  pub line_restores : (state_in : ℕ → State) (live : State) (old : Pages) (line : Line) (index slot : ℕ) (space : Space) → IsLine old line → slice_get line.order index ≡ Some slot → slot_at old slot ≡ Some space
      → IsLine (with_live old space) (line_of line.order index)
      × IsSomeAnd (slice_get (checkpoints_in state_in old line.order) index) (λ one. slots_of state_in (state_in slot) (with_live old space) (line_of line.order index) ≡ restored index one (slots_of state_in live old line))
  line_restores state_in live old line index slot space so there is =
      let new : Pages = with_live old space in
      let one = checkpoint_at state_in old line.order index slot there in
      let saved : checkpoints_in state_in new line.order ≡ checkpoints_in state_in old line.order = saved-same state_in state_in old new line.order refl (λ k d less. refl) (λ k d less. refl) in
      let written : count_true (written_pages new (line_of line.order index)) ≡ 0 = ap (λ o. count_true (written_since new o space.numbers)) there ∙ none_written old slot space is in (
        record {
          distinct = so.distinct;
          each_saved = so.each_saved;
          all_saved = so.all_saved;
          base = inl (slice_get_within line.order index slot there);
          fresh = are_fresh-same old new line.order refl (λ k d less. refl) so.fresh;
          live = subst (λ o. IsFresh new o line.order space.numbers) (sym there) (fresh_itself new slot space line.order is);
          frames = so.frames;
        },
        rw one.1 (ap₂ (λ list n. made_slots (state_in slot) list index n (length old.slots) old.pages old.frames) saved written),
      )
