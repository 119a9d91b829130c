use Rattle.rx_io.specs.Terms.{Keeps}
use Rattle.rx_io.proofs.attempts.read_some.Given as goal

abbrev pub invariant-tries : goal.invariant-tries
invariant-tries g l = Keeps (g.R.Read.remaining l.initial.reader) (g.R.Read.remaining l.reader)
