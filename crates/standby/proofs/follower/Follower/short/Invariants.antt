use Rattle.standby.proofs.KeptLemmas.{FewBelow}
use Rattle.standby.proofs.follower.Follower.short.Given as goal

abbrev pub invariant-connections : goal.invariant-connections
invariant-connections l = FewBelow l.counts l.self.kept.items l.conn
