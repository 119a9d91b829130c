use Rattle.cow_pages.proofs.Lemmas.{recounts_on, stand_all, stand_more}
use Rattle.cow_pages.proofs.Terms.{arith, get_or, length, refl, subst, ◌%◌, ◌<◌, ◌∙◌, ◌≡◌, get_or_read, RECENT, Recounts}
use Rattle.cow_pages.proofs.tables.renew_moved.Goals as goal

pub moves-preserved : goal.moves-preserved
moves-preserved c =
    let one = c.renew_entry-entry.ensures in
    let inside : c.moves.n % RECENT < length c.args.moves.now.recent.items = omega (arith, c.requires.moves.size) in
    let page = get_or_read c.args.moves.now.recent.items (c.moves.n % RECENT) c.index-page.result.now inside c.index-page.ensures 0 in
    record {
      renewed = one.renewed;
      stand = stand_more _ _ _ _ _ _ c.moves.invariant.stand one.kept (subst (λ m. get_or c.renew_entry-entry.new.table m 0 ≡ get_or c.args.live.now m 0) page one.same);
      counts = recounts_on c.moves.invariant.counts one.counts refl refl;
      added = omega (arith, one.few.0, c.moves.invariant.added);
      removed = omega (arith, one.few.1, c.moves.invariant.removed);
      reserved = one.reserved ∙ c.moves.invariant.reserved;
    }

pub returns-clause-table : goal.returns-clause-table
returns-clause-table c = stand_all _ _ _ c.moves.invariant.renewed c.moves.invariant.stand (omega (arith, c.moves-test.false))

pub returns-clause-counts : goal.returns-clause-counts
returns-clause-counts c =
    let is = stand_all _ _ _ c.moves.invariant.renewed c.moves.invariant.stand (omega (arith, c.moves-test.false)) in
    subst (λ xs. Recounts c.args.counts.now c.args.table.now c.moves.counts xs c.moves.added c.moves.removed) is c.moves.invariant.counts
