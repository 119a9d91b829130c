use Rattle.cow_pages.proofs.Lemmas.{part-put_at, stay_owns, owns_in, part_done, part_lawful}
use Rattle.cow_pages.proofs.Terms.{ap, arith, ◌∙◌, little_bytes}
use Rattle.cow_pages.proofs.store.PageStore.put_word_from.Goals as goal

pub returns : goal.returns
returns c =
    let o = owns_in c.self.invariant.sound c.self.view_is (stay_owns _ _ c.requires.own) c.requires.stands.place_is c.requires.stands.inside in
    let writes = part_done o (omega arith) c.requires.stands.within c.self.inside.pool.ok.0 c.deref_mut.ensures.value (part-put_at _ _ (little_bytes 4 c.args.value) (c.copy_from_slice.ensures.after ∙ c.word_bytes-bytes.ensures) (omega arith)) in
    record { writes = writes; numbers = ap (λ s. s.live.numbers) c.self.view_is; lawful = part_lawful _ c.self.invariant.sound c.self.inside.pool.ok.0 }
