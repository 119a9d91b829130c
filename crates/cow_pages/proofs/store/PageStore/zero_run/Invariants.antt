use Rattle.cow_pages.proofs.Terms.{replicate, ◌-◌, ◌≤◌, IsLawful, Writes}
use Rattle.cow_pages.proofs.store.PageStore.zero_run.Given as goal

abbrev pub invariant-pages : goal.invariant-pages
invariant-pages l = record {
  within : l.done ≤ l.count;
  writes : Writes l.initial.self l.self l.at (replicate l.done 0);
  lawful : IsLawful l.self;
}

abbrev pub decreases-pages : goal.decreases-pages
decreases-pages l = l.count - l.done
