use Rattle.rx_engine.proofs.Terms.{◌-◌, ◌≡◌, handed_of}
use Rattle.rx_engine.proofs.TakeLemmas.{HasTurnedOn}
use Rattle.rx_engine.proofs.session.Session.take_over.Given as goal

abbrev pub invariant-turns : goal.invariant-turns
invariant-turns g l =
    HasTurnedOn (g.K.Link.Went l.fn.link l.link × (g.N.Notes.fixed l.notes ≡ g.N.Notes.fixed l.fn.notes) × (g.W.Watch.ran l.watch ≡ g.W.Watch.ran l.fn.watch) × (g.W.Watch.tables l.watch ≡ g.W.Watch.tables l.fn.watch)) g.R.AccessRule.rule (handed_of l.fn.handed) (g.K.Link.seen l.fn.link) (g.K.Link.seen l.link) (g.N.Notes.shown l.fn.notes) (g.N.Notes.shown l.notes) l.missing l.fn.steps l.steps l.fn.self l.self

-- how many instructions may still come
abbrev pub decreases-turns : goal.decreases-turns
decreases-turns g l = 1152921504606846976 - l.self.cpu.slots.live.steps
