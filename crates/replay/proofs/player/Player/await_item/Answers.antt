use Rattle.replay.proofs.Terms.{refl, ◌∙◌, Err, IsInputEnd}
use Rattle.replay.proofs.DifferLemmas.{differs_after}
use Rattle.replay.proofs.LoopLemmas.{gone_nowhere, gone_turning, gone_hears, hears_turning, hears_then}
use Rattle.replay.proofs.player.Player.await_item.Goals as goal

pub waits-init : goal.waits-init
waits-init g c = record {
  hears = λ image recording began waits. waits;
  cpu = refl;
  same = refl;
  link = gone_nowhere c.requires.waits.1.takes c.requires.waits.1.gives;
  went = g.met.K.Link.went_same c.args.link.now;
}

pub hear-requires-clause-waits : goal.hear-requires-clause-waits
hear-requires-clause-waits g c =
    let k = c.requires.waits in
    (k.0, record { image = k.1.image; began = k.1.began; is = c.waits.invariant.hears k.1.image k.0 k.1.began k.1.is; takes = c.waits.invariant.link.takes; gives = c.waits.invariant.link.gives })

pub returns-in-Err-clause-differs : goal.returns-in-Err-clause-differs
returns-in-Err-clause-differs g c = differs_after IsInputEnd c.hear.new.self.difference (Err c.in-Err.answer) c.waits.invariant.same c.in-Err.ensures.differs

pub returns-in-Err-clause-link : goal.returns-in-Err-clause-link
returns-in-Err-clause-link g c = hears_then c.waits.invariant.link c.in-Err.ensures.link

pub returns-clause-link : goal.returns-clause-link
returns-clause-link g c = gone_hears c.waits.invariant.link

pub waits-preserved : goal.waits-preserved
waits-preserved g c = record {
  hears = λ image recording began waits. c.in_default.ensures.hears image recording began (c.waits.invariant.hears image recording began waits);
  cpu = c.in_default.ensures.counts.cpu ∙ c.waits.invariant.cpu;
  same = c.in_default.ensures.differs ∙ c.waits.invariant.same;
  link = gone_turning c.waits.invariant.link (hears_turning c.in_default.ensures.link);
  went = g.met.K.Link.went_on c.args.link.now c.waits.link c.hear.new.link c.waits.invariant.went c.in_default.ensures.went;
}
