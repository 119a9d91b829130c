use Rattle.cow_pages.proofs.Lemmas.{held-is, lawful}
use Rattle.cow_pages.proofs.Terms.{ap, ◌∙◌, held_of}
use Rattle.cow_pages.proofs.store.PageStore.held.Goals as goal

pub returns : goal.returns
returns c = record { held = held-is c.self.invariant.sound ∙ ap held_of c.self.view_is; lawful = lawful c.self.invariant.sound c.self.view_is }
