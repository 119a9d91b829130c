use Rattle.standby.proofs.Terms.{◌-◌}
use Rattle.standby.proofs.CatchLemmas.{HasTurned}
use Rattle.standby.proofs.following.catch_up.Given as goal

abbrev pub invariant-turns : goal.invariant-turns
invariant-turns g l = HasTurned (g.K.Link.Went l.fn.link l.link) l.fn.image l.fn.recorded (g.K.Link.seen l.fn.link) (g.K.Link.seen l.link) l.fn.steps l.steps l.follower

-- how many instructions a record may have
abbrev pub decreases-turns : goal.decreases-turns
decreases-turns g l = 9223372036854775808 - l.follower.player.cpu.slots.live.steps
