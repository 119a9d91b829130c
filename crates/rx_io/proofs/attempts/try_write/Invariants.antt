use Rattle.rx_io.specs.Terms.{Keeps}
use Rattle.rx_io.proofs.attempts.try_write.Given as goal

abbrev pub invariant-tries : goal.invariant-tries
invariant-tries g l = Keeps (g.W.Write.contents l.initial.writer) (g.W.Write.contents l.writer)
