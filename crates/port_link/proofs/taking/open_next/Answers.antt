use Rattle.port_link.proofs.Terms.{Bool, Err, List, subst, sym, TakesNext}
use Rattle.port_link.proofs.StepLemmas.{open_fails, open_takes}
use Rattle.port_link.proofs.taking.open_next.Goals as goal

pub returns-in-Ok-clause-takes : goal.returns-in-Ok-clause-takes
returns-in-Ok-clause-takes g c =
    open_takes c.args.limits (g.P.Port.told c.args.port.now) (g.P.Port.told c.accept.new.self) (g.P.Port.connections c.args.port.now) c.args.place.now c.requires.stands (g.P.Port.connections c.accept.new.self)
    c.in-Ok.ensures.call c.in-Ok.ensures.connections c.requires.may c.requires.was c.requires.few c.requires.nothing

pub returns-in-Err-clause-takes : goal.returns-in-Err-clause-takes
returns-in-Err-clause-takes g c =
    subst (λ (l : List Bool). TakesNext c.args.limits (g.P.Port.told c.args.port.now) (g.P.Port.told c.accept.new.self) l c.args.place.now c.args.place.now (Err c.read_fault.result)) (sym c.in-Err.ensures.connections)
    (open_fails c.args.limits (g.P.Port.told c.args.port.now) (g.P.Port.told c.accept.new.self) (g.P.Port.connections c.args.port.now) c.args.place.now c.requires.stands
    c.in-Err.fault c.read_fault.result c.read_fault.ensures c.in-Err.ensures.call c.requires.may c.requires.was)
