use Rattle.cow_pages.proofs.Terms.{drop, length, take, ◌-◌, ◌≡◌, ◌≤◌}
use Rattle.cow_pages.proofs.store.PageStore.read_run.Given as goal

abbrev pub invariant-pages : goal.invariant-pages
invariant-pages l = record {
  within : l.done ≤ length l.buf;
  read : take l.done l.buf ≡ take l.done (drop l.at l.self.live.bytes);
}

abbrev pub decreases-pages : goal.decreases-pages
decreases-pages l = length l.initial.buf - l.done
