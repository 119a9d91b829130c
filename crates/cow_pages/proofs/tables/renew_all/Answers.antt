use Rattle.cow_pages.proofs.Lemmas.{recounts_on, renewed_all, same_on, same_part}
use Rattle.cow_pages.proofs.Terms.{arith, drop, refl, subst, take, ◌+◌, ◌-◌, ◌≡◌, Recounts}
use Rattle.cow_pages.proofs.tables.renew_all.Goals as goal
use Rattle.cow_pages.specs.declared.tables.TheConstants.{BLOCK}

pub blocks-2-preserved : goal.blocks-2-preserved
blocks-2-preserved c =
    let start = c.blocks-2.start in
    let wide : start + BLOCK - start ≡ BLOCK = omega arith in
    let e : take BLOCK (drop start c.blocks-2.table) ≡ take BLOCK (drop start c.args.live.now) = subst (λ n. take n (drop start c.blocks-2.table) ≡ take n (drop start c.args.live.now)) wide (c.is_same.ensures c.if-not-is_same.false) in
    record {
      renewed = c.blocks-2.invariant.renewed;
      same = same_on _ _ _ _ c.blocks-2.invariant.same (same_part _ _ _ _ e);
      counts = c.blocks-2.invariant.counts;
      inside = omega (arith, c.blocks-2-test.true, c.blocks-2.invariant.inside);
      added = omega (arith, c.blocks-2.invariant.added);
      removed = omega (arith, c.blocks-2.invariant.removed);
      reserved = c.blocks-2.invariant.reserved;
    }

pub returns-clause-table : goal.returns-clause-table
returns-clause-table c = renewed_all _ c.renew_part-rest.ensures.renewed (c.renew_part-rest.ensures.same c.blocks-2.invariant.same) (omega (arith, c.renew_part-rest.auto.table))

pub returns-clause-counts : goal.returns-clause-counts
returns-clause-counts c =
    let is = renewed_all _ c.renew_part-rest.ensures.renewed (c.renew_part-rest.ensures.same c.blocks-2.invariant.same) (omega (arith, c.renew_part-rest.auto.table)) in
    subst (λ xs. Recounts c.args.counts.now c.args.table.now c.renew_part-rest.new.counts xs (c.blocks-2.added + c.renew_part-rest.result.added) (c.blocks-2.removed + c.renew_part-rest.result.removed)) is
    (recounts_on c.blocks-2.invariant.counts c.renew_part-rest.ensures.counts refl refl)
