use Rattle.trunk_wire.specs.GoingLaws.{trunk_on}
use Rattle.routes.proofs.StandbyTrunk.{served}
use Rattle.routes.proofs.standing_by.serve_on_trunk.Goals as goal

pub returns-clause-serves : goal.returns-clause-serves
returns-clause-serves g c = λ made image recorded up new went.
    served g.S.Source.fixed g.S.Source.told g.S.Source.faults g.K.Sink.fixed g.K.Sink.told g.K.Sink.faults made c.serve.new.link new
    (trunk_on g.S.Source.fixed g.S.Source.told g.K.Sink.fixed g.K.Sink.told made c.args.link.now c.serve.new.link went c.serve.ensures.went) (g.met.S.Source.countable c.serve.new.link.source) (g.met.K.Sink.countable c.serve.new.link.sink)
    c.args.link.now image recorded c.args.budget c.args.counts.now up.entries c.serve.result c.serve.new.self went up.takes (c.serve.ensures.served image recorded _ up) c.serve.ensures.link.leaves
