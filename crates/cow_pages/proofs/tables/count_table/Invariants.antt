use Rattle.cow_pages.proofs.Lemmas.{Counting}
use Rattle.cow_pages.proofs.tables.count_table.Given as goal

abbrev pub invariant-entries : goal.invariant-entries
invariant-entries l = Counting l.initial.counts l.counts l.table l.number-index l.added
