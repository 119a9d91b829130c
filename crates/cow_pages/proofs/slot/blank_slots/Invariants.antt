use Rattle.cow_pages.proofs.Terms.{AreBlank}
use Rattle.cow_pages.proofs.slot.blank_slots.Given as goal

abbrev pub invariant-slots : goal.invariant-slots
invariant-slots l = AreBlank l.counter l.pages l.slots.items
