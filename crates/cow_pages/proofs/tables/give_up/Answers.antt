use Rattle.cow_pages.proofs.Lemmas.{give_all, give_free, give_kept, give_room}
use Rattle.cow_pages.proofs.Terms.{arith, ◌∙◌}
use Rattle.cow_pages.proofs.tables.give_up.Goals as goal
use Rattle.cow_pages.proofs.tables.give_up.Goals.{then-counts-number-eq0, else-counts-number-eq0}

pub push_reserved-requires : goal.push_reserved-requires
push_reserved-requires c = omega (arith, c.entries.free.ok, give_room _ c.entries.invariant.stack c.requires.fits c.entries-test.true, c.entries.invariant.reserved, c.requires.reserved)

pub entries-preserved : goal.entries-preserved
entries-preserved c =
    elim c.if-counts-number-eq0.branch [
      | then-counts-number-eq0 w ↦ record {
        stack = rw (w.free-is, w.push_reserved.ensures.items) (give_free _ c.entries.invariant.stack c.requires.fits c.entries-test.true w.if-counts-number-eq0.true);
        reserved = rw w.free-is (w.push_reserved.ensures.capacity ∙ c.entries.invariant.reserved);
      }
      | else-counts-number-eq0 w ↦ record {
        stack = rw w.free-is (give_kept _ _ c.entries.invariant.stack c.entries-test.true w.if-counts-number-eq0.false);
        reserved = rw w.free-is c.entries.invariant.reserved;
      }
    ]

pub returns-clause-stack : goal.returns-clause-stack
returns-clause-stack c = give_all _ _ c.entries.invariant.stack c.entries-test.false
