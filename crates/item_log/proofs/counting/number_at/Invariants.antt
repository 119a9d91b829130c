use Rattle.item_log.proofs.Terms.{get_or, take, ◌≡◌, counted}
use Rattle.item_log.proofs.counting.number_at.Given as goal

abbrev pub invariant-each : goal.invariant-each
invariant-each l = l.count ≡ get_or (counted l.counts (take l.i l.items.items)) l.conn 0
