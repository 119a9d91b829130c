use Rattle.cow_pages.proofs.Lemmas.{Uncounting}
use Rattle.cow_pages.proofs.Terms.{vec_capacity, ◌≡◌}
use Rattle.cow_pages.proofs.tables.uncount_table.Given as goal

abbrev pub invariant-entries : goal.invariant-entries
invariant-entries l = record {
  walk : Uncounting l.initial.counts l.counts l.table l.live l.free.items l.k l.removed;
  reserved : vec_capacity l.free ≡ vec_capacity l.initial.free;
}
