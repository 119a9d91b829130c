use Rattle.cow_pages.proofs.Lemmas.{lawful, slot_here, live_held, saved_slot, slot_seen, turned_held, live_space, over_fits, over_sound, refilled, refilled_stack, saving_over, log_saved, logged_set, over_moves}
use Rattle.cow_pages.proofs.Terms.{arith, refl, ◌∙◌, with_items, Slot}
use Rattle.cow_pages.proofs.store.PageStore.save_over.Goals as goal

pub renew_table-recount-requires-clause-fits : goal.renew_table-recount-requires-clause-fits
renew_table-recount-requires-clause-fits c =
    let at = slot_here c.self.invariant.sound c.self.view_is c.requires.some c.index_mut-saved.ensures.value in
    over_fits c.self.invariant.sound at c.as_mut_slice.ensures.value c.as_mut_slice-2.ensures.value c.as_slice.ensures.value

pub renew_table-recount-requires-clause-logged : goal.renew_table-recount-requires-clause-logged
renew_table-recount-requires-clause-logged c =
    let at = slot_here c.self.invariant.sound c.self.view_is c.requires.some c.index_mut-saved.ensures.value in
    over_moves c.self.invariant at c.as_mut_slice-2.ensures.value c.as_slice.ensures.value

pub overflow_sub-self : goal.overflow_sub-self
overflow_sub-self c =
    let at = slot_here c.self.invariant.sound c.self.view_is c.requires.some c.index_mut-saved.ensures.value in
    let walk = c.renew_table-recount.ensures in
    let next : Slot = record { saved = c.index_mut-saved.result.now.saved; seen = c.self.inside.moves.count; table = with_items c.index_mut-saved.result.now.table c.renew_table-recount.new.table } in
    let written = refilled c.index_mut-saved.result.now.table.ok.0 c.renew_table-recount.auto.table c.as_mut_slice-2.ensures.value walk.table c.as_slice.ensures.value in
    let t = saving_over next c.self.invariant.sound at c.as_mut_slice.ensures.value c.renew_table-recount.auto.counts c.self.inside.counts.ok.0 c.as_mut_slice-2.ensures.value c.as_slice.ensures.value walk.counts refl written in
    omega (arith, turned_held t)

pub invariant_of-self : goal.invariant_of-self
invariant_of-self c =
    let at = slot_here c.self.invariant.sound c.self.view_is c.requires.some c.index_mut-saved.ensures.value in
    let walk = c.renew_table-recount.ensures in
    let next : Slot = record { saved = c.index_mut-saved.result.now.saved; seen = c.self.inside.moves.count; table = with_items c.index_mut-saved.result.now.table c.renew_table-recount.new.table } in
    let written = refilled c.index_mut-saved.result.now.table.ok.0 c.renew_table-recount.auto.table c.as_mut_slice-2.ensures.value walk.table c.as_slice.ensures.value in
    let t = saving_over next c.self.invariant.sound at c.as_mut_slice.ensures.value c.renew_table-recount.auto.counts c.self.inside.counts.ok.0 c.as_mut_slice-2.ensures.value c.as_slice.ensures.value walk.counts refl written in
    let live = saved_slot next at.saved ∙ written in
    let so = over_sound t live (refilled_stack c.self.invariant.sound c.as_mut_slice.ensures.value c.renew_table-recount.auto.counts c.self.inside.counts.ok.0 c.as_slice.ensures.value walk.stack) walk.reserved c.self.view_is c.requires.room in
    record { sound = so; logged = logged_set _ _ c.self.invariant.logged (log_saved refl written) }

pub returns : goal.returns
returns c =
    let at = slot_here c.self.invariant.sound c.self.view_is c.requires.some c.index_mut-saved.ensures.value in
    let walk = c.renew_table-recount.ensures in
    let next : Slot = record { saved = c.index_mut-saved.result.now.saved; seen = c.self.inside.moves.count; table = with_items c.index_mut-saved.result.now.table c.renew_table-recount.new.table } in
    let written = refilled c.index_mut-saved.result.now.table.ok.0 c.renew_table-recount.auto.table c.as_mut_slice-2.ensures.value walk.table c.as_slice.ensures.value in
    let t = saving_over next c.self.invariant.sound at c.as_mut_slice.ensures.value c.renew_table-recount.auto.counts c.self.inside.counts.ok.0 c.as_mut_slice-2.ensures.value c.as_slice.ensures.value walk.counts refl written in
    let live = saved_slot next at.saved ∙ written in
    let so = over_sound t live (refilled_stack c.self.invariant.sound c.as_mut_slice.ensures.value c.renew_table-recount.auto.counts c.self.inside.counts.ok.0 c.as_slice.ensures.value walk.stack) walk.reserved c.self.view_is c.requires.room in
    record { saved = slot_seen _ next c.self.invariant.sound c.self.view_is (live_space next c.self.invariant.sound at.saved written c.self.view_is); held = live_held t live; lawful = lawful so refl }
