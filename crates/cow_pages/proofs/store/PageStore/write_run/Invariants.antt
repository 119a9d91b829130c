use Rattle.cow_pages.proofs.Terms.{length, take, ◌-◌, ◌≤◌, IsLawful, Writes}
use Rattle.cow_pages.proofs.store.PageStore.write_run.Given as goal

abbrev pub invariant-pages : goal.invariant-pages
invariant-pages l = record {
  within : l.done ≤ length l.bytes;
  writes : Writes l.initial.self l.self l.at (take l.done l.bytes);
  lawful : IsLawful l.self;
}

abbrev pub decreases-pages : goal.decreases-pages
decreases-pages l = length l.bytes - l.done
