use Rattle.rx_engine.proofs.Terms.{◌*◌, ◌+◌, ◌-◌, ◌≡◌, HasTurned}
use Rattle.rx_engine.proofs.session.Session.serve_on.Given as goal

abbrev pub invariant-turns : goal.invariant-turns
invariant-turns g l =
    HasTurned (g.K.Link.Went l.fn.link l.link × (g.N.Notes.fixed l.notes ≡ g.N.Notes.fixed l.fn.notes)) g.R.AccessRule.rule (g.K.Link.seen l.fn.link) (g.K.Link.seen l.link) (g.N.Notes.shown l.fn.notes) (g.N.Notes.shown l.notes)
    (g.W.Watch.tables l.fn.watch) (g.W.Watch.tables l.watch) (g.W.Watch.ran l.watch + l.fn.steps) (g.W.Watch.ran l.fn.watch + l.steps) l.fn.self l.self

-- each failure has more items taken than the one before it; and between two of them there are so many instructions at most
abbrev pub decreases-turns : goal.decreases-turns
decreases-turns g l = (l.fn.self.options.max_items + l.fn.self.options.keep + 1 - l.self.until) * 18446744073709551617 + (18446744073709551616 - l.self.cpu.slots.live.steps)
