use Rattle.cow_pages.proofs.Lemmas.{recounts_on, same_more}
use Rattle.cow_pages.proofs.Terms.{arith, refl, ◌∙◌}
use Rattle.cow_pages.proofs.tables.renew_part.Goals as goal

pub entries-preserved : goal.entries-preserved
entries-preserved c =
    let one = c.renew_entry-entry.ensures in
    record {
      renewed = one.renewed;
      same = λ first. same_more _ _ _ _ (c.entries.invariant.same first) one.kept one.same;
      counts = recounts_on c.entries.invariant.counts one.counts refl refl;
      added = omega (arith, one.few.0, c.entries.invariant.added);
      removed = omega (arith, one.few.1, c.entries.invariant.removed);
      reserved = one.reserved ∙ c.entries.invariant.reserved;
    }
