use Rattle.port_link.proofs.StepLemmas.{due_below, due_settles, made_below, made_settles, nothing_settles}
use Rattle.port_link.proofs.taking.settle.Goals as goal

pub returns-in-Nothing-clause-settles : goal.returns-in-Nothing-clause-settles
returns-in-Nothing-clause-settles g c =
    nothing_settles c.args.limits (g.P.Port.told c.args.port.now) (g.P.Port.connections c.args.port.now) c.args.place.now c.requires.stands c.in-Nothing.is

pub returns-in-Due-clause-settles : goal.returns-in-Due-clause-settles
returns-in-Due-clause-settles g c =
    due_settles c.args.limits (g.P.Port.told c.args.port.now) (g.P.Port.told c.close.new.self) (g.P.Port.connections c.args.port.now) c.args.place.now c.requires.stands (g.P.Port.connections c.close.new.self) c.in-Due.conn
    c.in-Due.is c.requires.few c.close.ensures.call c.close.ensures.connections

pub returns-in-Made-clause-settles : goal.returns-in-Made-clause-settles
returns-in-Made-clause-settles g c =
    made_settles c.args.limits (g.P.Port.told c.args.port.now) (g.P.Port.connections c.args.port.now) c.args.place.now c.requires.stands c.in-Made.conn c.in-Made.is
    (made_below c.args.limits (g.P.Port.told c.args.port.now) (g.P.Port.connections c.args.port.now) c.args.place.now c.requires.stands c.in-Made.conn c.in-Made.is c.requires.few)

pub bounds-place-conn : goal.bounds-place-conn
bounds-place-conn g c =
    due_below c.args.limits (g.P.Port.told c.args.port.now) (g.P.Port.told c.args.port.now) (g.P.Port.connections c.args.port.now) c.args.place.now c.requires.stands c.in-Due.conn c.in-Due.is c.requires.few

pub bounds-place-conn-in-Made : goal.bounds-place-conn-in-Made
bounds-place-conn-in-Made g c =
    made_below c.args.limits (g.P.Port.told c.args.port.now) (g.P.Port.connections c.args.port.now) c.args.place.now c.requires.stands c.in-Made.conn c.in-Made.is c.requires.few
