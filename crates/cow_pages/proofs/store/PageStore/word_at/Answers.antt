use Rattle.cow_pages.proofs.Lemmas.{lawful, part_is, stands_in}
use Rattle.cow_pages.proofs.Terms.{ap, arith, refl, ◌∙◌, little_number}
use Rattle.cow_pages.proofs.store.PageStore.word_at.Goals as goal

pub returns : goal.returns
returns c =
    let s = stands_in c.self.invariant.sound c.self.view_is c.requires.inside c.place_of-place.ensures in
    record { word = c.word_of.ensures ∙ ap little_number (part_is 4 s c.self.view_is c.requires.within c.deref.ensures.value (omega arith) refl); lawful = lawful c.self.invariant.sound c.self.view_is }
