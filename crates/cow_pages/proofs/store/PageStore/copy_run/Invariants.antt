use Rattle.cow_pages.proofs.Terms.{drop, take, ◌-◌, ◌≤◌, IsLawful, Writes}
use Rattle.cow_pages.proofs.store.PageStore.copy_run.Given as goal

abbrev pub invariant-pages : goal.invariant-pages
invariant-pages l = record {
  within : l.done ≤ l.count;
  writes : Writes l.initial.self l.self l.to (take l.done (drop l.from l.initial.self.live.bytes));
  lawful : IsLawful l.self;
}

abbrev pub decreases-pages : goal.decreases-pages
decreases-pages l = l.count - l.done
