use Rattle.standby.proofs.Terms.{length}
use Rattle.standby.proofs.GiveLemmas.{HasPieces}
use Rattle.standby.proofs.follower.Follower.pass_all.Given as goal

abbrev pub invariant-pieces : goal.invariant-pieces
invariant-pieces g l = HasPieces (g.K.Link.Went l.fn.link l.link) (g.K.Link.seen l.fn.link) (g.K.Link.seen l.link) l.fn.self l.self l.fn.conn l.fn.bytes l.rest

-- how many bytes are left
abbrev pub decreases-pieces : goal.decreases-pieces
decreases-pieces g l = length l.rest
