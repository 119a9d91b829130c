use Rattle.cow_pages.proofs.Lemmas.{lawful, slot_here, refilled, restoring, restoring_fits, logged_lost}
use Rattle.cow_pages.proofs.Terms.{refl}
use Rattle.cow_pages.proofs.store.PageStore.restore.Goals as goal

pub give_up-requires-clause-fits : goal.give_up-requires-clause-fits
give_up-requires-clause-fits c = restoring_fits c.self.invariant.sound c.as_slice.ensures.value c.as_slice-2.ensures.value

pub invariant_of-self : goal.invariant_of-self
invariant_of-self c =
    let at = slot_here c.self.invariant.sound c.self.view_is c.requires c.index-saved.ensures in
    let written = refilled c.self.inside.live.ok.0 c.copy_from_slice.ensures.len c.as_mut_slice.ensures.value c.copy_from_slice.ensures.after c.as_slice-3.ensures.value in
    let so = restoring c.self.invariant.sound at c.as_slice.ensures.value written c.give_up.ensures.stack c.give_up.ensures.reserved in
    record { sound = so; logged = logged_lost c.self.invariant.logged c.add_all.ensures.count c.add_all.ensures.most c.add_all.ensures.recent }

pub returns-clause-lawful : goal.returns-clause-lawful
returns-clause-lawful c = lawful (invariant_of-self c).sound refl
