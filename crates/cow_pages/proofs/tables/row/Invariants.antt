use Rattle.cow_pages.proofs.Terms.{vec_capacity, ◌≤◌, IsRow}
use Rattle.cow_pages.proofs.tables.row.Given as goal

abbrev pub invariant-numbers : goal.invariant-numbers
invariant-numbers l = record {
  row : IsRow l.start l.number l.numbers.items;
  reserved : l.room ≤ vec_capacity l.numbers;
}
