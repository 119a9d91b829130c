use Rattle.standby.proofs.Terms.{◌-◌}
use Rattle.standby.proofs.HearLemmas.{HasAwaited}
use Rattle.standby.proofs.follower.Follower.await_item.Given as goal

abbrev pub invariant-waits : goal.invariant-waits
invariant-waits g l = HasAwaited (g.K.Link.Went l.fn.link l.link) (g.K.Link.seen l.fn.link) (g.K.Link.seen l.link) l.fn.self l.self

-- how many events may still come
abbrev pub decreases-waits : goal.decreases-waits
decreases-waits g l = 4294967296 - l.self.player.events
