use Rattle.cow_pages.proofs.Terms.{vec_capacity, ◌+◌, ◌≡◌, ◌≤◌, IsRenewed, Recounts, SameUpTo}
use Rattle.cow_pages.proofs.tables.renew_part.Given as goal

abbrev pub invariant-entries : goal.invariant-entries
invariant-entries l = record {
  renewed : IsRenewed l.counts l.table l.live l.free.items;
  same : SameUpTo l.start l.fn.table l.live → SameUpTo l.k l.table l.live;
  counts : Recounts l.fn.counts l.fn.table l.counts l.table l.added l.removed;
  added : l.added + l.start ≤ l.k;
  removed : l.removed + l.start ≤ l.k;
  reserved : vec_capacity l.free ≡ vec_capacity l.fn.free;
}
