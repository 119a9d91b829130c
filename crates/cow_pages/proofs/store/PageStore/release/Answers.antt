use Rattle.cow_pages.proofs.Lemmas.{lawful, slot_here, emptied, slot_seen, turned_held, refilled_stack, releasing, releasing_fits, releasing_sound, log_none, logged_set}
use Rattle.cow_pages.proofs.Terms.{arith, refl}
use Rattle.cow_pages.proofs.store.PageStore.release.Goals as goal

pub uncount_table-requires-clause-fits : goal.uncount_table-requires-clause-fits
uncount_table-requires-clause-fits c =
    let at = slot_here c.self.invariant.sound c.self.view_is c.requires c.index_mut-saved.ensures.value in
    releasing_fits c.self.invariant.sound at c.as_mut_slice.ensures.value c.as_slice.ensures.value c.as_slice-2.ensures.value

pub overflow_sub-self : goal.overflow_sub-self
overflow_sub-self c =
    let at = slot_here c.self.invariant.sound c.self.view_is c.requires c.index_mut-saved.ensures.value in
    let walk = c.uncount_table.ensures in
    let t = releasing c.self.invariant.sound at c.as_mut_slice.ensures.value c.uncount_table.auto.counts c.self.inside.counts.ok.0 c.as_slice.ensures.value walk.counts in
    omega (arith, turned_held t)

pub invariant_of-self : goal.invariant_of-self
invariant_of-self c =
    let at = slot_here c.self.invariant.sound c.self.view_is c.requires c.index_mut-saved.ensures.value in
    let walk = c.uncount_table.ensures in
    let t = releasing c.self.invariant.sound at c.as_mut_slice.ensures.value c.uncount_table.auto.counts c.self.inside.counts.ok.0 c.as_slice.ensures.value walk.counts in
    let so = releasing_sound t (refilled_stack c.self.invariant.sound c.as_mut_slice.ensures.value c.uncount_table.auto.counts c.self.inside.counts.ok.0 c.as_slice-2.ensures.value walk.stack) walk.reserved in
    record { sound = so; logged = logged_set _ _ c.self.invariant.logged (log_none refl) }

pub returns : goal.returns
returns c = record { released = slot_seen _ (emptied c.index_mut-saved.result.now) c.self.invariant.sound c.self.view_is refl; lawful = lawful (invariant_of-self c).sound refl }
