use Rattle.item_log.proofs.Terms.{drop, take, ◌≡◌, counted}
use Rattle.item_log.proofs.kept.drop_front.Given as goal

abbrev pub invariant-loop-i : goal.invariant-loop-i
invariant-loop-i l = record {
  items : l.items.items ≡ drop l._i l.fn.items.items;
  counts : l.counts ≡ counted l.fn.counts (take l._i l.fn.items.items);
}
