use Rattle.session_following.specs.HandedOver.{handed_of}
use Rattle.routes.proofs.Terms.{List, Option, rules, sym, ℕ, ◌+◌, ◌-◌, ◌∙◌, Stream, told_nothing, intake_of, output_of, seen_of, HasAnswerCause, rules_by, trunk_counts, ResumesBy, answer_as}
use Rattle.routes.proofs.ResumeLemmas.{resumes_by, resumes_cause, told_at}
use Rattle.routes.proofs.resuming.resume_trunk.Goals as goal

pub returns-clause-resumes : goal.returns-clause-resumes
returns-clause-resumes g c =
    let went = c.take_over_told.ensures.outside.0 in
    let made = c.make-link.ensures in
    told_at
    (λ (source source_later : Option Stream) (sink sink_later : Option (List ℕ)). ResumesBy (rules_by g.R.AccessRule.rule c.args.session.now) (handed_of c.args.handed.now) source source_later sink sink_later (g.N.Notes.shown c.args.notes.now) (g.N.Notes.shown c.take_over_told.new.notes)
    ((g.W.Watch.ran c.args.watch.now + c.take_over_told.new.steps) - (g.W.Watch.ran c.take_over_told.new.watch + c.args.steps.now)) (g.W.Watch.tables c.args.watch.now) (g.W.Watch.tables c.take_over_told.new.watch) c.args.session.now c.take_over_told.new.session c.take_over_told.result)
    (search rules) (search rules) (search rules) (search rules)
    (resumes_by (rules_by g.R.AccessRule.rule c.args.session.now) (handed_of c.args.handed.now) (g.N.Notes.shown c.args.notes.now) (g.N.Notes.shown c.take_over_told.new.notes)
    ((g.W.Watch.ran c.args.watch.now + c.take_over_told.new.steps) - (g.W.Watch.ran c.take_over_told.new.watch + c.args.steps.now)) (g.W.Watch.tables c.args.watch.now) (g.W.Watch.tables c.take_over_told.new.watch) c.args.session.now c.take_over_told.new.session
    {old = intake_of (λ s. g.S.Source.told s.now) c.make-link.result} {new = intake_of (λ s. g.S.Source.told s.now) c.take_over_told.new.link}
    {out = output_of (λ s. g.K.Sink.told s.now) c.make-link.result} {later = output_of (λ s. g.K.Sink.told s.now) c.take_over_told.new.link}
    (seen_of (λ s. g.S.Source.told s.now) (λ s. g.S.Source.faults s.now) (λ s. g.K.Sink.told s.now) (λ s. g.K.Sink.faults s.now) c.make-link.result)
    (seen_of (λ s. g.S.Source.told s.now) (λ s. g.S.Source.faults s.now) (λ s. g.K.Sink.told s.now) (λ s. g.K.Sink.faults s.now) c.take_over_told.new.link)
    c.take_over_told.result
    (record {
      phases = made.shows.phases;
      took = made.fresh.took;
      wrote = made.fresh.wrote;
      takes = made.shows.takes;
      gives = made.shows.gives;
      told = made.told ∙ (λ i. told_nothing (g.S.Source.told ((sym made.fresh.source_is) i).now) (g.K.Sink.told ((sym made.fresh.sink_is) i).now));
    })
    (record { countable = g.met.S.Source.countable c.take_over_told.new.link.source.now; short = g.met.K.Sink.countable c.take_over_told.new.link.sink.now; taken = went.taken; given = went.given })
    c.take_over_told.ensures.taken)

pub returns-clause-cause : goal.returns-clause-cause
returns-clause-cause g c =
    let cause : HasAnswerCause (trunk_counts (g.S.Source.faults c.make-link.result.source.now) (g.K.Sink.faults c.make-link.result.sink.now)) (trunk_counts (g.S.Source.faults c.take_over_told.new.link.source.now) (g.K.Sink.faults c.take_over_told.new.link.sink.now)) (answer_as c.take_over_told.result) =
    resumes_cause (rules_by g.R.AccessRule.rule c.args.session.now) (handed_of c.args.handed.now) (g.N.Notes.shown c.args.notes.now) (g.N.Notes.shown c.take_over_told.new.notes)
    ((g.W.Watch.ran c.args.watch.now + c.take_over_told.new.steps) - (g.W.Watch.ran c.take_over_told.new.watch + c.args.steps.now)) (g.W.Watch.tables c.args.watch.now) (g.W.Watch.tables c.take_over_told.new.watch) c.args.session.now c.take_over_told.new.session
    (seen_of (λ s. g.S.Source.told s.now) (λ s. g.S.Source.faults s.now) (λ s. g.K.Sink.told s.now) (λ s. g.K.Sink.faults s.now) c.make-link.result)
    (seen_of (λ s. g.S.Source.told s.now) (λ s. g.S.Source.faults s.now) (λ s. g.K.Sink.told s.now) (λ s. g.K.Sink.faults s.now) c.take_over_told.new.link)
    c.take_over_told.result c.take_over_told.ensures.taken in
    search (rules, cause)

pub returns-clause-counted_at_least : goal.returns-clause-counted_at_least
returns-clause-counted_at_least g c = c.take_over_told.ensures.counted_at_least
