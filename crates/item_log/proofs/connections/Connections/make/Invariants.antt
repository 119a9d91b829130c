use Rattle.item_log.proofs.Terms.{None, replicate, ◌≡◌}
use Rattle.item_log.proofs.connections.Connections.make.Given as goal

abbrev pub invariant-loop-i : goal.invariant-loop-i
invariant-loop-i l = l.framers.items ≡ replicate l._i None
