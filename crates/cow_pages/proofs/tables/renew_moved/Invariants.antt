use Rattle.cow_pages.proofs.Terms.{vec_capacity, ◌+◌, ◌≡◌, ◌≤◌, IsRenewed, Recounts, StandFrom}
use Rattle.cow_pages.proofs.tables.renew_moved.Given as goal

abbrev pub invariant-moves : goal.invariant-moves
invariant-moves l = record {
  renewed : IsRenewed l.counts l.table l.live l.free.items;
  stand : StandFrom l.n l.end l.moves.recent.items l.table l.live;
  counts : Recounts l.fn.counts l.fn.table l.counts l.table l.added l.removed;
  added : l.added + l.seen ≤ l.n;
  removed : l.removed + l.seen ≤ l.n;
  reserved : vec_capacity l.free ≡ vec_capacity l.fn.free;
}
