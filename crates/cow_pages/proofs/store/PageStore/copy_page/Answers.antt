use Rattle.cow_pages.proofs.Lemmas.{free_there, moved, moved_apart, moved_owns, moved_pool, moved_sound, logged_moved}
use Rattle.cow_pages.proofs.Terms.{ap, arith, refl, subst, sym, ◌*◌, ◌<◌, ◌∙◌, get_or_read, PAGE, is_shared}
use Rattle.cow_pages.proofs.store.PageStore.copy_page.Goals as goal

pub unreachable-requires : goal.unreachable-requires
unreachable-requires c =
    let less = subst (λ s. c.args.page < s.pages) (sym c.self.view_is) c.requires.inside in
    omega (arith, free_there c.self.invariant.sound less (ap (λ s. is_shared s c.args.page) c.self.view_is ∙ c.requires.shared), c.self.inside.free.ok, c.in_default.ensures.cases)

pub copy_frame-requires-clause-apart : goal.copy_frame-requires-clause-apart
copy_frame-requires-clause-apart c =
    let m = moved c.self.invariant.sound c.self.view_is c.requires.inside c.requires.shared c.in-Some.ensures.items in
    let number = get_or_read c.self.inside.live.items c.args.page c.index-shared.result.now (omega (arith, m.so.tables.live_table.size, m.less)) c.index-shared.ensures 0 in
    moved_apart m (omega (arith, number)) (omega arith)

pub invariant_of-self : goal.invariant_of-self
invariant_of-self c =
    let m = moved c.self.invariant.sound c.self.view_is c.requires.inside c.requires.shared c.in-Some.ensures.items in
    let number = get_or_read c.self.inside.live.items c.args.page c.index-shared.result.now (omega (arith, m.so.tables.live_table.size, m.less)) c.index-shared.ensures 0 in
    record {
      sound = moved_sound m (moved_pool (c.index-shared.result.now * PAGE) (c.in-Some.fresh * PAGE) m c.copy_frame.ensures c.as_mut_slice.ensures.value (omega (arith, number)) (omega arith) c.self.inside.pool.ok.0) c.pop.ensures.capacity;
      logged = logged_moved _ c.self.invariant.logged m.less c.add.ensures.count c.add.ensures.most c.add.ensures.recent refl;
    }

pub returns-clause-owns : goal.returns-clause-owns
returns-clause-owns c =
    let m = moved c.self.invariant.sound c.self.view_is c.requires.inside c.requires.shared c.in-Some.ensures.items in
    let number = get_or_read c.self.inside.live.items c.args.page c.index-shared.result.now (omega (arith, m.so.tables.live_table.size, m.less)) c.index-shared.ensures 0 in
    moved_owns m (moved_pool (c.index-shared.result.now * PAGE) (c.in-Some.fresh * PAGE) m c.copy_frame.ensures c.as_mut_slice.ensures.value (omega (arith, number)) (omega arith) c.self.inside.pool.ok.0) c.self.view_is
