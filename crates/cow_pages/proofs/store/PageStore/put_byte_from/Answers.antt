use Rattle.cow_pages.proofs.Lemmas.{stay_owns, byte_done, byte_lawful, owns_in}
use Rattle.cow_pages.proofs.Terms.{ap}
use Rattle.cow_pages.proofs.store.PageStore.put_byte_from.Goals as goal

pub returns : goal.returns
returns c = record {
  writes = byte_done _ (owns_in c.self.invariant.sound c.self.view_is (stay_owns _ _ c.requires.own) c.requires.stands.place_is c.requires.stands.inside);
  numbers = ap (λ s. s.live.numbers) c.self.view_is;
  lawful = byte_lawful _ _ c.self.invariant.sound;
}
