use Rattle.cow_pages.proofs.Lemmas.{byte_is, stands_in}
use Rattle.cow_pages.proofs.store.PageStore.byte_from.Goals as goal

pub returns : goal.returns
returns c = byte_is (stands_in c.self.invariant.sound c.self.view_is c.requires.inside c.requires.place_is) c.self.view_is c.index.ensures
