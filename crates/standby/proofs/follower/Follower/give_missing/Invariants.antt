use Rattle.standby.proofs.GiveLemmas.{HasConnections}
use Rattle.standby.proofs.follower.Follower.give_missing.Given as goal

abbrev pub invariant-connections : goal.invariant-connections
invariant-connections g l = HasConnections (g.K.Link.Went l.fn.link l.link) (g.K.Link.seen l.fn.link) (g.K.Link.seen l.link) l.fn.self l.self l.counts l.conn
