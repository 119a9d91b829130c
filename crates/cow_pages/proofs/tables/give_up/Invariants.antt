use Rattle.cow_pages.proofs.Terms.{drop, vec_capacity, ◌≡◌, IsStack}
use Rattle.cow_pages.proofs.tables.give_up.Given as goal

abbrev pub invariant-entries : goal.invariant-entries
invariant-entries l = record {
  stack : IsStack l.counts (drop l.number-index l.live) l.free.items;
  reserved : vec_capacity l.free ≡ vec_capacity l.initial.free;
}
