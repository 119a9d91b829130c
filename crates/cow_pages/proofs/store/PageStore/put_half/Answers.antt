use Rattle.cow_pages.proofs.Lemmas.{part-put_at, owns_in, part_done, part_lawful, used_one}
use Rattle.cow_pages.proofs.Terms.{arith, ◌∙◌, little_bytes}
use Rattle.cow_pages.proofs.store.PageStore.put_half.Goals as goal

pub returns : goal.returns
returns c =
    let o = owns_in c.self.invariant.sound c.self.view_is c.own_place-place.ensures.owns c.own_place-place.ensures.place c.requires.inside in
    let writes = part_done o (omega arith) c.requires.within c.self.inside.pool.ok.0 c.deref_mut.ensures.value (part-put_at _ _ (little_bytes 2 c.args.value) (c.copy_from_slice.ensures.after ∙ c.half_bytes-bytes.ensures) (omega arith)) in
    record { writes = writes; used = used_one writes (omega arith) c.requires.within c.requires.inside; lawful = part_lawful _ c.self.invariant.sound c.self.inside.pool.ok.0 }
