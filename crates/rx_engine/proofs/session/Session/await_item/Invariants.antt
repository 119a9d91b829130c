use Rattle.rx_engine.proofs.Terms.{◌-◌, HasAwaited, rules_by}
use Rattle.rx_engine.proofs.session.Session.await_item.Given as goal

abbrev pub invariant-waits : goal.invariant-waits
invariant-waits g l = HasAwaited (g.K.Link.Went l.fn.link l.link) (rules_by g.R.AccessRule.rule l.fn.self) (g.K.Link.seen l.fn.link) (g.K.Link.seen l.link) l.fn.self l.self

-- how many events may still come
abbrev pub decreases-waits : goal.decreases-waits
decreases-waits g l = l.fn.self.options.max_events - l.self.events
