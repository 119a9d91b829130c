use Rattle.cow_pages.proofs.Lemmas.{counting_all, counting_fits, counting_more}
use Rattle.cow_pages.proofs.Terms.{arith, nat_tests}
use Rattle.cow_pages.proofs.tables.count_table.Goals as goal
use Rattle.cow_pages.proofs.tables.count_table.Goals.{then-count-eq0, else-count-eq0}

pub overflow_add-counts : goal.overflow_add-counts
overflow_add-counts c = omega (arith, counting_fits c.entries.invariant c.requires.fits c.entries-test.true)

pub entries-preserved : goal.entries-preserved
entries-preserved c =
    elim c.if-count-eq0.branch [
      | then-count-eq0 w ↦ counting_more c.entries.invariant c.requires.fits c.entries-test.true (grind (arith, nat_tests, w.if-count-eq0.true, w.added-is))
      | else-count-eq0 w ↦ counting_more c.entries.invariant c.requires.fits c.entries-test.true (grind (arith, nat_tests, w.if-count-eq0.false, w.added-is))
    ]

pub returns : goal.returns
returns c = counting_all c.entries.invariant c.entries-test.false
