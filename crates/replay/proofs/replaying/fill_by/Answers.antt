use Rattle.replay.proofs.Terms.{arith, ◌∙◌, BreaksOff}
use Rattle.replay.proofs.LoopLemmas.{gone_nowhere, gone_turning, turns_then}
use Rattle.replay.proofs.StartLemmas.{starts_between, starts_at, filled_none, filled_by, answers_link}
use Rattle.replay.proofs.replaying.fill_by.Goals as goal

pub turns-init : goal.turns-init
turns-init g c =
    record {
      between = starts_between c.requires.link.fresh c.in-Ok.ensures;
      link = gone_nowhere c.requires.link.takes c.requires.link.gives;
      steps = omega (arith, starts_at c.args.image.now c.in-Ok.player c.in-Ok.ensures.live);
      none = c.in-Ok.ensures.difference;
      went = g.met.K.Link.went_same c.args.link.now;
    }

pub turn-requires-clause-stands : goal.turn-requires-clause-stands
turn-requires-clause-stands g c = record {
  image = c.args.image.now;
  began = (g.K.Link.seen c.args.link.now).told;
  is = c.turns.invariant.between;
  takes = c.turns.invariant.link.takes;
  gives = c.turns.invariant.link.gives;
}

pub returns-in-Err-clause-filled : goal.returns-in-Err-clause-filled
returns-in-Err-clause-filled g c =
    filled_none (BreaksOff g.K.Link.seen g.K.Link.Went g.G.Giver.Gave c.args.link.now c.args.link.now) c.requires.link (c.from_vec.ensures ∙ c.new.ensures.items)

pub returns-in-Err-turn-clause-filled : goal.returns-in-Err-turn-clause-filled
returns-in-Err-turn-clause-filled g c =
    let counted = c.in-Err-turn.ensures.steps.counted in
    filled_by g.K.Link.seen g.K.Link.Went g.G.Giver.Gave c.args.link.now c.turns.link c.turn.new.link
    c.turns.invariant.went c.turns.invariant.link.gives (omega (arith, c.turns.invariant.steps, counted)) (c.in-Err-turn.ensures.turns c.args.image.now (g.K.Link.seen c.args.link.now).told c.turns.invariant.between) c.into_choices.ensures
    c.turns.player.difference c.turn.new.self.difference c.turns.invariant.none c.in-Err-turn.ensures.differs

pub returns-in-Err-turn-clause-link : goal.returns-in-Err-turn-clause-link
returns-in-Err-turn-clause-link g c =
    answers_link (turns_then c.turns.invariant.link c.in-Err-turn.ensures.link)

pub turns-preserved : goal.turns-preserved
turns-preserved g c =
    record {
      between = c.in_default.ensures.turns c.args.image.now (g.K.Link.seen c.args.link.now).told c.turns.invariant.between;
      link = gone_turning c.turns.invariant.link c.in_default.ensures.link;
      steps = omega (arith, c.turns.invariant.steps, c.in_default.ensures.steps.counted);
      none = c.in_default.ensures.differs ∙ c.turns.invariant.none;
      went = g.met.K.Link.went_on c.args.link.now c.turns.link c.turn.new.link c.turns.invariant.went c.in_default.ensures.went;
    }
