use Rattle.cow_pages.proofs.Lemmas.{part-put_at, owns_in, part_done, part_lawful}
use Rattle.cow_pages.proofs.Terms.{arith}
use Rattle.cow_pages.proofs.store.PageStore.put_within.Goals as goal

pub returns : goal.returns
returns c =
    let o = owns_in c.self.invariant.sound c.self.view_is c.own_place-place.ensures.owns c.own_place-place.ensures.place c.requires.inside in
    let writes = part_done o c.requires.some c.requires.within c.self.inside.pool.ok.0 c.deref_mut.ensures.value (part-put_at _ _ c.args.bytes.now c.copy_from_slice.ensures.after (omega arith)) in
    record { writes = writes; lawful = part_lawful _ c.self.invariant.sound c.self.inside.pool.ok.0 }
