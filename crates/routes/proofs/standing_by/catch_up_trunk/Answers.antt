use Rattle.routes.proofs.StandbyTrunk.{caught_up, counts_more}
use Rattle.routes.proofs.standing_by.catch_up_trunk.Goals as goal

pub returns-clause-catches : goal.returns-clause-catches
returns-clause-catches g c =
    caught_up g.S.Source.fixed g.S.Source.told g.S.Source.faults g.K.Sink.fixed g.K.Sink.told g.K.Sink.faults c.args.link.now c.catch_up.new.link c.requires.new c.catch_up.ensures.went (g.met.S.Source.countable c.catch_up.new.link.source)
    (g.met.K.Sink.countable c.catch_up.new.link.sink) c.args.image.now c.args.recorded.now c.args.steps.now c.catch_up.new.steps c.catch_up.result c.catch_up.ensures.catches c.catch_up.ensures.link

pub returns-clause-counted_more : goal.returns-clause-counted_more
returns-clause-counted_more g c = counts_more c.args.image.now c.args.recorded.now _ _ c.args.steps.now c.catch_up.new.steps c.catch_up.result c.catch_up.ensures.catches
