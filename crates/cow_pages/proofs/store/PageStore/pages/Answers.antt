use Rattle.cow_pages.proofs.Lemmas.{lawful}
use Rattle.cow_pages.proofs.store.PageStore.pages.Goals as goal

pub returns-clause-lawful : goal.returns-clause-lawful
returns-clause-lawful c = lawful c.self.invariant.sound c.self.view_is
