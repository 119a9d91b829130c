use Rattle.rx_engine.proofs.Terms.{Err, None, Ok, ap, arith, refl, subst, sym, ◌+◌, ◌-◌, ◌<◌, ◌∙◌, ◌≡◌, false≢true, keeping_of, AreInRange, rules_by, SessionState, told_since, Turned, handed_of, IfFollows, TurnsTo}
use Rattle.rx_engine.proofs.TakeLemmas.{begins_well, counted_beyond, exit_is, follows_smaller, not_taken, nothing_planned, nothing_taken, took_exit, took_released, well_then}
use Rattle.rx_engine.proofs.session.Session.take_over.Goals as goal

pub returns-in-Err-clause-taken : goal.returns-in-Err-clause-taken
returns-in-Err-clause-taken g c = nothing_taken g.R.AccessRule.rule c.requires.may (omega arith)

pub returns-then-not-are_well_placed-clause-taken : goal.returns-then-not-are_well_placed-clause-taken
returns-then-not-are_well_placed-clause-taken g c = nothing_planned g.R.AccessRule.rule c.requires.may (omega arith) (λ placed. false≢true (c.if-not-are_well_placed.ensures.1 placed))

pub turns-init : goal.turns-init
turns-init g c =
    let keeps = c.begin_following.ensures.keeps in
    record {
      stands = λ image begun. c.begin_following.ensures.follows image (g.K.Link.seen c.args.link.now) (g.N.Notes.shown c.args.notes.now).told c.in-Ok.missing begun c.requires.may.fresh c.in-Ok.ensures;
      can = record { adopted = c.requires.handed.adopted; placed = c.if-not-are_well_placed.ensures.0 refl };
      well = begins_well g.R.AccessRule.rule c.requires.begun.begun c.requires.may (c.begin_following.ensures.follows c.requires.begun.image (g.K.Link.seen c.args.link.now) (g.N.Notes.shown c.args.notes.now).told c.in-Ok.missing c.requires.begun.begun c.requires.may.fresh c.in-Ok.ensures) keeps.0 keeps.1 keeps.2 keeps.3 keeps.4 c.begin_following.ensures.trimmed (g.met.K.Link.went_same c.args.link.now, refl, refl, refl);
    }

pub follow_turn-requires-clause-follows : goal.follow_turn-requires-clause-follows
follow_turn-requires-clause-follows g c =
    (rules_by g.R.AccessRule.rule c.args.self.now, c.requires.begun.image, (g.K.Link.seen c.args.link.now).told, (g.N.Notes.shown c.args.notes.now).told, c.turns.invariant.stands c.requires.begun.image c.requires.begun.begun)

pub follow_turn-requires-clause-may : goal.follow_turn-requires-clause-may
follow_turn-requires-clause-may g c = c.turns.invariant.well.may

pub turns-smaller : goal.turns-smaller
turns-smaller g c =
    follows_smaller g.R.AccessRule.rule (subst AreInRange (sym c.turns.invariant.well.options) c.requires.begun.begun.in_range) (c.turns.invariant.stands c.requires.begun.image c.requires.begun.begun)
    (subst (λ (turn : Turned). IfFollows (Ok turn) (c.turns.self.cpu.slots.live.steps < c.follow_turn.new.self.cpu.slots.live.steps)) c.in-Ok-GoesOn.field-0-is c.in-Ok-GoesOn.ensures.keeps.later)

pub turns-preserved : goal.turns-preserved
turns-preserved g c =
    let went = c.in-Ok-GoesOn.ensures in
    record {
      stands = λ image begun.
          subst (λ (turn : Turned). TurnsTo (rules_by g.R.AccessRule.rule c.args.self.now) (rules_by g.R.AccessRule.rule c.follow_turn.new.self) image (handed_of c.args.handed.now) (g.K.Link.seen c.args.link.now).told (g.K.Link.seen c.follow_turn.new.link) (g.N.Notes.shown c.args.notes.now).told (g.N.Notes.shown c.follow_turn.new.notes).told c.follow_turn.new.missing c.follow_turn.new.self (Ok turn)) c.in-Ok-GoesOn.field-0-is
          (went.turns (rules_by g.R.AccessRule.rule c.args.self.now) image (g.K.Link.seen c.args.link.now).told (g.N.Notes.shown c.args.notes.now).told (c.turns.invariant.stands image begun));
      can = c.turns.invariant.can;
      well = well_then c.in-Ok-GoesOn.field-0 c.turns.invariant.well went.keeps went.counted (g.met.K.Link.went_on c.args.link.now c.turns.link c.follow_turn.new.link c.turns.invariant.well.outside.0 went.outside.0, went.outside.1 ∙ c.turns.invariant.well.outside.1, c.turns.invariant.well.outside.2, c.turns.invariant.well.outside.3);
    }

pub serve_released-requires : goal.serve_released-requires
serve_released-requires g c =
    let went = c.in-Ok-Released.ensures in
    let well = well_then c.in-Ok-Released.field-0 c.turns.invariant.well went.keeps went.counted c.turns.invariant.well.outside in
    record {
      rules = rules_by g.R.AccessRule.rule c.args.self.now;
      image = c.requires.begun.image;
      handed = handed_of c.args.handed.now;
      before = (g.K.Link.seen c.args.link.now).told;
      noted_before = (g.N.Notes.shown c.args.notes.now).told;
      is =
          subst (λ (turn : Turned). TurnsTo (rules_by g.R.AccessRule.rule c.args.self.now) (rules_by g.R.AccessRule.rule c.follow_turn.new.self) c.requires.begun.image (handed_of c.args.handed.now) (g.K.Link.seen c.args.link.now).told (g.K.Link.seen c.follow_turn.new.link) (g.N.Notes.shown c.args.notes.now).told (g.N.Notes.shown c.follow_turn.new.notes).told c.follow_turn.new.missing c.follow_turn.new.self (Ok turn)) c.in-Ok-Released.field-0-is
          (went.turns (rules_by g.R.AccessRule.rule c.args.self.now) c.requires.begun.image (g.K.Link.seen c.args.link.now).told (g.N.Notes.shown c.args.notes.now).told (c.turns.invariant.stands c.requires.begun.image c.requires.begun.begun));
      may = well.may;
      trimmed = well.trimmed;
    }

pub returns-in-Ok-Released-clause-taken : goal.returns-in-Ok-Released-clause-taken
returns-in-Ok-Released-clause-taken g c =
    let went = c.in-Ok-Released.ensures in
    let well = well_then c.in-Ok-Released.field-0 c.turns.invariant.well went.keeps went.counted c.turns.invariant.well.outside in
    took_released g.R.AccessRule.rule well
    (λ image begun.
    subst (λ (turn : Turned). TurnsTo (rules_by g.R.AccessRule.rule c.args.self.now) (rules_by g.R.AccessRule.rule c.follow_turn.new.self) image (handed_of c.args.handed.now) (g.K.Link.seen c.args.link.now).told (g.K.Link.seen c.follow_turn.new.link) (g.N.Notes.shown c.args.notes.now).told (g.N.Notes.shown c.follow_turn.new.notes).told c.follow_turn.new.missing c.follow_turn.new.self (Ok turn)) c.in-Ok-Released.field-0-is
    (went.turns (rules_by g.R.AccessRule.rule c.args.self.now) image (g.K.Link.seen c.args.link.now).told (g.N.Notes.shown c.args.notes.now).told (c.turns.invariant.stands image begun)))
    well.outside.3 c.serve_released.ensures.served
    (counted_beyond (g.W.Watch.ran c.args.watch.now) (g.W.Watch.ran c.turns.watch) (g.W.Watch.ran c.serve_released.new.watch) c.serve_released.new.steps c.args.steps.now c.follow_turn.new.steps c.follow_turn.new.self.cpu.slots.live.steps c.follow_turn.new.self.steps well.outside.2 well.marked.steps well.counted)

pub returns-in-Ok-Released-clause-counted_at_least : goal.returns-in-Ok-Released-clause-counted_at_least
returns-in-Ok-Released-clause-counted_at_least g c =
    let went = c.in-Ok-Released.ensures in
    let well = well_then c.in-Ok-Released.field-0 c.turns.invariant.well went.keeps went.counted c.turns.invariant.well.outside in
    let least = c.serve_released.ensures.counted_at_least in
    let counted = well.counted in
    let marked = well.marked.steps in
    let ran = well.outside.2 in
    omega (arith, least, counted, marked, ran)

pub returns-in-Ok-Released-clause-outside : goal.returns-in-Ok-Released-clause-outside
returns-in-Ok-Released-clause-outside g c =
    let first = c.turns.invariant.well.outside in
    let turn = c.in-Ok-Released.ensures.outside in
    let served = c.serve_released.ensures.outside in
    (g.met.K.Link.went_on c.args.link.now c.follow_turn.new.link c.serve_released.new.link (g.met.K.Link.went_on c.args.link.now c.turns.link c.follow_turn.new.link first.0 turn.0) served.0, served.1 ∙ (turn.1 ∙ first.1))

pub finish-requires : goal.finish-requires
finish-requires g c =
    let went = c.in-Ok-Exits.ensures in
    let well = well_then c.in-Ok-Exits.field-0 c.turns.invariant.well went.keeps went.counted c.turns.invariant.well.outside in
    record {
      image = c.requires.begun.image;
      began = told_since (g.K.Link.seen c.follow_turn.new.link).told (g.N.Notes.shown c.args.notes.now).told (g.N.Notes.shown c.follow_turn.new.notes).told None None 0;
      is =
          exit_is g.R.AccessRule.rule None
          (subst (λ (turn : Turned). TurnsTo (rules_by g.R.AccessRule.rule c.args.self.now) (rules_by g.R.AccessRule.rule c.follow_turn.new.self) c.requires.begun.image (handed_of c.args.handed.now) (g.K.Link.seen c.args.link.now).told (g.K.Link.seen c.follow_turn.new.link) (g.N.Notes.shown c.args.notes.now).told (g.N.Notes.shown c.follow_turn.new.notes).told c.follow_turn.new.missing c.follow_turn.new.self (Ok turn)) c.in-Ok-Exits.field-0-is
          (went.turns (rules_by g.R.AccessRule.rule c.args.self.now) c.requires.begun.image (g.K.Link.seen c.args.link.now).told (g.N.Notes.shown c.args.notes.now).told (c.turns.invariant.stands c.requires.begun.image c.requires.begun.begun)));
      gives = well.may.gives;
    }

pub returns-in-Ok-Exits-clause-taken : goal.returns-in-Ok-Exits-clause-taken
returns-in-Ok-Exits-clause-taken g c =
    let went = c.in-Ok-Exits.ensures in
    let well = well_then c.in-Ok-Exits.field-0 c.turns.invariant.well went.keeps went.counted c.turns.invariant.well.outside in
    let counted = well.counted in
    let marked = well.marked.steps in
    let ran = well.outside.2 in
    took_exit g.R.AccessRule.rule c.finish.result well
    (λ image begun.
    subst (λ (turn : Turned). TurnsTo (rules_by g.R.AccessRule.rule c.args.self.now) (rules_by g.R.AccessRule.rule c.follow_turn.new.self) image (handed_of c.args.handed.now) (g.K.Link.seen c.args.link.now).told (g.K.Link.seen c.follow_turn.new.link) (g.N.Notes.shown c.args.notes.now).told (g.N.Notes.shown c.follow_turn.new.notes).told c.follow_turn.new.missing c.follow_turn.new.self (Ok turn)) c.in-Ok-Exits.field-0-is
    (went.turns (rules_by g.R.AccessRule.rule c.args.self.now) image (g.K.Link.seen c.args.link.now).told (g.N.Notes.shown c.args.notes.now).told (c.turns.invariant.stands image begun)))
    c.finish.ensures.served c.finish.ensures.shows (ap (λ (s : SessionState _). keeping_of s) c.finish.ensures.same)
    (let all : 0 + c.follow_turn.new.self.steps ≡ (g.W.Watch.ran c.args.watch.now + c.follow_turn.new.steps) - (g.W.Watch.ran c.turns.watch + c.args.steps.now) = omega (arith, counted, marked, ran) in all) c.answer.ensures well.outside.3

pub returns-in-Ok-Exits-clause-counted_at_least : goal.returns-in-Ok-Exits-clause-counted_at_least
returns-in-Ok-Exits-clause-counted_at_least g c =
    let went = c.in-Ok-Exits.ensures in
    let well = well_then c.in-Ok-Exits.field-0 c.turns.invariant.well went.keeps went.counted c.turns.invariant.well.outside in
    let counted = well.counted in
    let marked = well.marked.steps in
    let same = ap (λ (s : SessionState _). s.steps) c.finish.ensures.same in
    let ran = well.outside.2 in
    omega (arith, counted, marked, same, ran)

pub returns-in-Ok-Exits-clause-outside : goal.returns-in-Ok-Exits-clause-outside
returns-in-Ok-Exits-clause-outside g c =
    let first = c.turns.invariant.well.outside in
    let turn = c.in-Ok-Exits.ensures.outside in
    let served = c.finish.ensures.outside in
    (g.met.K.Link.went_on c.args.link.now c.follow_turn.new.link c.finish.new.link (g.met.K.Link.went_on c.args.link.now c.turns.link c.follow_turn.new.link first.0 turn.0) served.0, served.1 ∙ (turn.1 ∙ first.1))

pub returns-in-Err-follow_turn-clause-taken : goal.returns-in-Err-follow_turn-clause-taken
returns-in-Err-follow_turn-clause-taken g c =
    let stopped = c.in-Err-follow_turn.ensures in
    let was = c.turns.invariant.well.counted in
    let turn = stopped.counted in
    let ran = c.turns.invariant.well.outside.2 in
    not_taken g.R.AccessRule.rule c.turns.invariant.well stopped.keeps stopped.gives (λ is. stopped.noting (ap Err is))
    (λ image begun. stopped.stops (rules_by g.R.AccessRule.rule c.args.self.now) image (g.K.Link.seen c.args.link.now).told (g.N.Notes.shown c.args.notes.now).told c.in-Err-follow_turn.why (c.turns.invariant.stands image begun) refl)
    (let all : c.follow_turn.new.self.cpu.slots.live.steps ≡ (g.W.Watch.ran c.args.watch.now + c.follow_turn.new.steps) - (g.W.Watch.ran c.turns.watch + c.args.steps.now) = omega (arith, was, turn, ran) in all) c.turns.invariant.well.outside.3

pub returns-in-Err-follow_turn-clause-counted_at_least : goal.returns-in-Err-follow_turn-clause-counted_at_least
returns-in-Err-follow_turn-clause-counted_at_least g c =
    let was = c.turns.invariant.well.counted in
    let turn = c.in-Err-follow_turn.ensures.counted in
    let least = c.in-Err-follow_turn.ensures.least in
    let ran = c.turns.invariant.well.outside.2 in
    omega (arith, was, turn, least, ran)

pub returns-in-Err-follow_turn-clause-outside : goal.returns-in-Err-follow_turn-clause-outside
returns-in-Err-follow_turn-clause-outside g c =
    let first = c.turns.invariant.well.outside in
    let turn = c.in-Err-follow_turn.ensures.outside in
    (g.met.K.Link.went_on c.args.link.now c.turns.link c.follow_turn.new.link first.0 turn.0, turn.1 ∙ first.1)
