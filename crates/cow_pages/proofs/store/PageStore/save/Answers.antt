use Rattle.cow_pages.proofs.Lemmas.{lawful, live_held, slot_seen, live_space, refilled, saving, saving_fits, saving_sound, saving_sum, saving_used, log_saved, logged_set}
use Rattle.cow_pages.proofs.Terms.{arith, refl, true, ◌∙◌, with_items, Slot}
use Rattle.cow_pages.proofs.store.PageStore.save.Goals as goal

pub count_table-requires-clause-fits : goal.count_table-requires-clause-fits
count_table-requires-clause-fits c = saving_fits c.self.invariant.sound c.as_mut_slice.ensures.value c.as_slice.ensures.value

pub overflow_add-self : goal.overflow_add-self
overflow_add-self c = omega (arith, saving_sum c.self.invariant.sound c.as_mut_slice.ensures.value c.as_slice.ensures.value c.count_table.ensures, c.self.invariant.sound.bounds.enough, c.self.invariant.sound.bounds.few)

pub invariant_of-self : goal.invariant_of-self
invariant_of-self c =
    let next : Slot = record { saved = true; seen = c.self.inside.moves.count; table = with_items c.index_mut-saved.result.now.table c.copy_from_slice.new.self } in
    let written = refilled c.index_mut-saved.result.now.table.ok.0 c.copy_from_slice.ensures.len c.as_mut_slice-2.ensures.value c.copy_from_slice.ensures.after c.as_slice-2.ensures.value in
    let t = saving next c.self.invariant.sound c.self.view_is c.requires.there c.requires.empty c.index_mut-saved.ensures.value c.as_mut_slice.ensures.value c.count_table.auto.counts c.self.inside.counts.ok.0 c.as_slice.ensures.value c.count_table.ensures refl written in
    let so = saving_sound t written c.self.view_is c.requires.empty c.requires.room in
    record { sound = so; logged = logged_set _ _ c.self.invariant.logged (log_saved refl written) }

pub returns : goal.returns
returns c =
    let next : Slot = record { saved = true; seen = c.self.inside.moves.count; table = with_items c.index_mut-saved.result.now.table c.copy_from_slice.new.self } in
    let written = refilled c.index_mut-saved.result.now.table.ok.0 c.copy_from_slice.ensures.len c.as_mut_slice-2.ensures.value c.copy_from_slice.ensures.after c.as_slice-2.ensures.value in
    let t = saving next c.self.invariant.sound c.self.view_is c.requires.there c.requires.empty c.index_mut-saved.ensures.value c.as_mut_slice.ensures.value c.count_table.auto.counts c.self.inside.counts.ok.0 c.as_slice.ensures.value c.count_table.ensures refl written in
    let so = saving_sound t written c.self.view_is c.requires.empty c.requires.room in
    let used = saving_used _ _ c.self.invariant.sound so c.self.view_is in
    record { saved = slot_seen _ next c.self.invariant.sound c.self.view_is (live_space next c.self.invariant.sound refl written c.self.view_is); used = used; held = live_held t written ∙ used; lawful = lawful so refl }
