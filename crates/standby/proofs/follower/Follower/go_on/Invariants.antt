use Rattle.standby.proofs.Terms.{◌-◌}
use Rattle.standby.proofs.ServeLemmas.{HasGoneServing}
use Rattle.standby.proofs.follower.Follower.go_on.Given as goal

abbrev pub invariant-turns : goal.invariant-turns
invariant-turns g l = HasGoneServing (g.K.Link.Went l.fn.link l.link) l.fn.budget (g.K.Link.seen l.fn.link) (g.K.Link.seen l.link) l.fn.steps l.steps l.fn.self l.self

-- how many instructions can be counted
abbrev pub decreases-turns : goal.decreases-turns
decreases-turns g l = 18446744073709551616 - l.self.player.cpu.slots.live.steps
