use Rattle.cow_pages.proofs.Lemmas.{part_is, stands_in}
use Rattle.cow_pages.proofs.Terms.{ap, arith, refl, ◌∙◌, little_number}
use Rattle.cow_pages.proofs.store.PageStore.half_from.Goals as goal

pub returns : goal.returns
returns c = c.half_of.ensures ∙ ap little_number (part_is 2 (stands_in c.self.invariant.sound c.self.view_is c.requires.inside c.requires.place_is) c.self.view_is c.requires.within c.deref.ensures.value (omega arith) refl)
