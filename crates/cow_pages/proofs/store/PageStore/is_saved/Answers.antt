use Rattle.cow_pages.proofs.Lemmas.{lawful}
use Rattle.cow_pages.proofs.store.PageStore.is_saved.Goals as goal

pub returns-then-slot-len-clause-lawful : goal.returns-then-slot-len-clause-lawful
returns-then-slot-len-clause-lawful c = lawful c.self.invariant.sound c.self.view_is

pub returns-else-slot-len-clause-lawful : goal.returns-else-slot-len-clause-lawful
returns-else-slot-len-clause-lawful c = lawful c.self.invariant.sound c.self.view_is
