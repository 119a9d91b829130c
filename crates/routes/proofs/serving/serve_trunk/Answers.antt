use Rattle.routes.proofs.Terms.{rules, subst, sym, ◌+◌, ◌-◌, ◌∙◌, told_nothing, intake_of, output_of, seen_of, Image, Answer, HasAnswerCause, keeping_for, outcome_of, rules_by, IsBegun, trunk_counts, Trunk, Watches}
use Rattle.routes.proofs.ServeLemmas.{heard_nothing, watches, watches_at, left_recorded}
use Rattle.routes.proofs.serving.serve_trunk.Goals as goal

pub returns-clause-served : goal.returns-clause-served
returns-clause-served g c =
    let went = c.serve_watched_told.ensures.outside.0 in
    let made = c.make-link.ensures in
    let has = c.serve_watched_told.ensures.served in
    let served : (image : Image) → IsBegun image c.args.session.now.options c.args.session.now.cpu.rule c.args.session.now
    → Watches (Trunk (g.S.Source.told c.make-link.result.source.now) (g.S.Source.told c.serve_watched_told.new.link.source.now) (g.K.Sink.told c.make-link.result.sink.now) (g.K.Sink.told c.serve_watched_told.new.link.sink.now)) (rules_by g.R.AccessRule.rule c.args.session.now) (keeping_for c.args.session.now.options) image (outcome_of has.why c.serve_watched_told.new.session) (g.N.Notes.shown c.args.notes.now).told (g.N.Notes.shown c.serve_watched_told.new.notes).told ((g.W.Watch.ran c.args.watch.now + c.serve_watched_told.new.steps) - (g.W.Watch.ran c.serve_watched_told.new.watch + c.args.steps.now)) (g.W.Watch.tables c.args.watch.now) (g.W.Watch.tables c.serve_watched_told.new.watch) =
    λ image begun.
    watches (rules_by g.R.AccessRule.rule c.args.session.now) (keeping_for c.args.session.now.options) image {old = intake_of (λ s. g.S.Source.told s.now) c.make-link.result} {new = intake_of (λ s. g.S.Source.told s.now) c.serve_watched_told.new.link}
    {out = output_of (λ s. g.K.Sink.told s.now) c.make-link.result} {later = output_of (λ s. g.K.Sink.told s.now) c.serve_watched_told.new.link}
    (seen_of (λ s. g.S.Source.told s.now) (λ s. g.S.Source.faults s.now) (λ s. g.K.Sink.told s.now) (λ s. g.K.Sink.faults s.now) c.make-link.result) (seen_of (λ s. g.S.Source.told s.now) (λ s. g.S.Source.faults s.now) (λ s. g.K.Sink.told s.now) (λ s. g.K.Sink.faults s.now) c.make-link.result)
    (seen_of (λ s. g.S.Source.told s.now) (λ s. g.S.Source.faults s.now) (λ s. g.K.Sink.told s.now) (λ s. g.K.Sink.faults s.now) c.serve_watched_told.new.link)
    (heard_nothing (seen_of (λ s. g.S.Source.told s.now) (λ s. g.S.Source.faults s.now) (λ s. g.K.Sink.told s.now) (λ s. g.K.Sink.faults s.now) c.make-link.result) begun.nothing_came)
    (record {
      phases = made.shows.phases;
      took = made.fresh.took;
      wrote = made.fresh.wrote;
      takes = made.shows.takes;
      gives = made.shows.gives;
      told = made.told ∙ (λ i. told_nothing (g.S.Source.told ((sym made.fresh.source_is) i).now) (g.K.Sink.told ((sym made.fresh.sink_is) i).now));
    })
    (record { countable = g.met.S.Source.countable c.serve_watched_told.new.link.source.now; short = g.met.K.Sink.countable c.serve_watched_told.new.link.sink.now; taken = went.taken; given = went.given })
    has.link (has.served image begun).0 (left_recorded (rules_by g.R.AccessRule.rule c.args.session.now) image (g.N.Notes.shown c.args.notes.now).told (g.N.Notes.shown c.serve_watched_told.new.notes).told (has.served image begun).0.recovered.telling c.serve_watched_told.new.session has.why has.keeping (has.served image begun).1) in
    record { why = has.why; is = has.is; served = λ image begun. watches_at (search rules) (search rules) (search rules) (search rules) (served image begun); notes = has.notes }

pub returns-clause-cause : goal.returns-clause-cause
returns-clause-cause g c =
    let cause : HasAnswerCause (trunk_counts (g.S.Source.faults c.make-link.result.source.now) (g.K.Sink.faults c.make-link.result.sink.now)) (trunk_counts (g.S.Source.faults c.serve_watched_told.new.link.source.now) (g.K.Sink.faults c.serve_watched_told.new.link.sink.now)) c.serve_watched_told.result = subst (λ (a : Answer). HasAnswerCause (trunk_counts (g.S.Source.faults c.make-link.result.source.now) (g.K.Sink.faults c.make-link.result.sink.now)) (trunk_counts (g.S.Source.faults c.serve_watched_told.new.link.source.now) (g.K.Sink.faults c.serve_watched_told.new.link.sink.now)) a) (sym c.serve_watched_told.ensures.served.is) c.serve_watched_told.ensures.served.link.cause in
    search (rules, cause)

pub returns-clause-counted_at_least : goal.returns-clause-counted_at_least
returns-clause-counted_at_least g c = c.serve_watched_told.ensures.counted_at_least
