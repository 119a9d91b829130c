use Rattle.port_link.proofs.StepLemmas.{broken_present, drop_takes}
use Rattle.port_link.proofs.taking.drop_broken.Goals as goal

pub close-requires : goal.close-requires
close-requires g c = broken_present c.args.limits (g.P.Port.told c.args.port.now) (g.P.Port.told c.args.port.now) (g.P.Port.connections c.args.port.now) c.args.place.now c.requires.stands c.args.conn c.requires.broken

pub returns-clause-takes : goal.returns-clause-takes
returns-clause-takes g c =
    drop_takes c.args.limits (g.P.Port.told c.args.port.now) (g.P.Port.told c.close.new.self) (g.P.Port.connections c.args.port.now) c.args.place.now c.requires.stands (g.P.Port.connections c.close.new.self) c.args.conn
    c.requires.broken c.requires.few c.requires.nothing c.close.ensures.call c.close.ensures.connections
