use Rattle.cow_pages.proofs.Lemmas.{lawful, byte_is, stands_in}
use Rattle.cow_pages.proofs.store.PageStore.byte_at.Goals as goal

pub returns : goal.returns
returns c = record { byte = byte_is (stands_in c.self.invariant.sound c.self.view_is c.requires c.place_of.ensures) c.self.view_is c.index.ensures; lawful = lawful c.self.invariant.sound c.self.view_is }
