use Rattle.cow_pages.proofs.Lemmas.{has-get_or, apart_there, by_count, by_live, counted_room, stack_freed, stack_kept, uncounting_all, uncounting_more, uncounting_some}
use Rattle.cow_pages.proofs.Terms.{arith, get_or, length, subst, sym, true, ◌-◌, ◌<◌, ◌∙◌, ◌≡◌, nat_tests, has}
use Rattle.cow_pages.proofs.tables.uncount_table.Goals as goal
use Rattle.cow_pages.proofs.tables.uncount_table.Goals.{then-count-eq0+then-live-k, then-count-eq0+else-live-k, else-count-eq0}

pub overflow_sub-count : goal.overflow_sub-count
overflow_sub-count c = uncounting_some c.entries.invariant.walk c.requires.fits c.entries-test.true

pub push_reserved-requires : goal.push_reserved-requires
push_reserved-requires c =
    omega (arith, c.entries.free.ok, counted_room _ c.entries.invariant.walk.stack (uncounting_some c.entries.invariant.walk c.requires.fits c.entries-test.true), c.entries.auto.counts, c.entries.invariant.reserved, c.requires.reserved)

pub entries-preserved : goal.entries-preserved
entries-preserved c =
    let fits = c.requires.fits in
    let so = c.entries.invariant.walk in
    let some = uncounting_some so fits c.entries-test.true in
    let inside : c.entries.k < length c.args.live.now = omega (arith, fits.table_is.size, c.entries-test.true) in
    elim c.if-count-eq0.branch [
      | then-count-eq0+then-live-k w ↦ record {
        walk = uncounting_more so c.entries-test.true (grind (arith, nat_tests, w.if-count-eq0.true, w.removed-is))
            (rw (w.free-is, w.push_reserved.ensures.items) (stack_freed _ so.stack some w.if-count-eq0.true (apart_there _ fits.table_is fits.gives.live_is inside (λ e. w.if-live-k.true (sym e)))));
        reserved = rw w.free-is (w.push_reserved.ensures.capacity ∙ c.entries.invariant.reserved);
      }
      | then-count-eq0+else-live-k w ↦
          (let is = subst (λ n. has n c.args.live.now ≡ true) w.if-live-k.false (has-get_or c.args.live.now c.entries.k inside) in
          record {
            walk = uncounting_more so c.entries-test.true (grind (arith, nat_tests, w.if-count-eq0.true, w.removed-is)) (rw w.free-is (stack_kept _ _ so.stack (by_live _ _ is) (by_live _ _ is)));
            reserved = rw w.free-is c.entries.invariant.reserved;
          })
      | else-count-eq0 w ↦
          (let still : 0 < get_or c.entries.counts (get_or c.args.table.now c.entries.k 0) 0 - 1 = omega (arith, w.if-count-eq0.false) in
          record {
            walk = uncounting_more so c.entries-test.true (grind (arith, nat_tests, w.if-count-eq0.false, w.removed-is)) (rw w.free-is (stack_kept _ _ so.stack (by_count _ _ some) (by_count _ _ still)));
            reserved = rw w.free-is c.entries.invariant.reserved;
          })
    ]

pub returns-clause-counts : goal.returns-clause-counts
returns-clause-counts c = uncounting_all c.entries.invariant.walk c.entries-test.false
