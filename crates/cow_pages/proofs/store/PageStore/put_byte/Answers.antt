use Rattle.cow_pages.proofs.Lemmas.{byte_done, byte_lawful, owns_in, used_one}
use Rattle.cow_pages.proofs.Terms.{arith}
use Rattle.cow_pages.proofs.store.PageStore.put_byte.Goals as goal

pub returns : goal.returns
returns c =
    let writes = byte_done _ (owns_in c.self.invariant.sound c.self.view_is c.own_place-place.ensures.owns c.own_place-place.ensures.place c.requires) in
    record { writes = writes; used = used_one writes (omega arith) (omega arith) c.requires; lawful = byte_lawful _ _ c.self.invariant.sound }
