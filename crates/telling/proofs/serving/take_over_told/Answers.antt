use Rattle.std.proofs.Common.{rules, ◌+◌, ◌-◌, ◌≡◌}
use Rattle.session_notes.specs.Noting.{Shown}
use Rattle.session_state.specs.Serving.{rules_by}
use Rattle.session_following.specs.HandedOver.{handed_of}
use Rattle.session_following.specs.TakingOver.{TakesOver}
use Rattle.telling.proofs.ServeLemmas.{shown_at}
use Rattle.telling.proofs.serving.take_over_told.Goals as goal

pub returns-clause-taken : goal.returns-clause-taken
returns-clause-taken g c =
    let old : g.N.Notes.shown c.make-telling.result.notes.now ≡ g.N.Notes.shown c.args.notes.now = λ i. g.N.Notes.shown (c.make-telling.ensures i).now in
    shown_at
    (λ (shown now : Shown). TakesOver (rules_by g.R.AccessRule.rule c.args.session.now) (handed_of c.args.handed.now) (g.K.Link.seen c.args.link.now) (g.K.Link.seen c.take_over.new.link) shown now
    ((g.W.Watch.ran c.args.watch.now + c.take_over.new.steps) - (g.W.Watch.ran c.take_over.new.watch + c.args.steps.now)) (g.W.Watch.tables c.args.watch.now) (g.W.Watch.tables c.take_over.new.watch) c.args.session.now c.take_over.new.self
    c.take_over.result)
    old (search rules) c.take_over.ensures.taken
