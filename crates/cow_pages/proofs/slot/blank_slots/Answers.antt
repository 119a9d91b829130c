use Rattle.cow_pages.proofs.Lemmas.{blank_more, blank_none}
use Rattle.cow_pages.proofs.Terms.{ap, length, refl, ◌∙◌, length-replicate}
use Rattle.cow_pages.proofs.slot.blank_slots.Goals as goal

pub slots-init : goal.slots-init
slots-init c = rw c.in_ok-slots.ensures.items (blank_none _)

pub slots-preserved : goal.slots-preserved
slots-preserved c = rw c.in_ok-push.ensures.items (blank_more _ _ _ _ c.slots.invariant refl (ap length (c.in_ok-vec.ensures.items_if_clones_equal (λ x h. h)) ∙ length-replicate _ _))
