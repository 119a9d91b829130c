use Rattle.cow_pages.proofs.Terms.{length, vec_capacity, ◌-◌, ◌≡◌, ◌≤◌, IsRenewed, Recounts, SameUpTo}
use Rattle.cow_pages.proofs.tables.renew_all.Given as goal

abbrev pub invariant-blocks-2 : goal.invariant-blocks-2
invariant-blocks-2 l = record {
  renewed : IsRenewed l.counts l.table l.live l.free.items;
  same : SameUpTo l.start l.table l.live;
  counts : Recounts l.fn.counts l.fn.table l.counts l.table l.added l.removed;
  inside : l.start ≤ length l.table;
  added : l.added ≤ l.start;
  removed : l.removed ≤ l.start;
  reserved : vec_capacity l.free ≡ vec_capacity l.fn.free;
}

abbrev pub decreases-blocks-2 : goal.decreases-blocks-2
decreases-blocks-2 l = length l.table - l.start
