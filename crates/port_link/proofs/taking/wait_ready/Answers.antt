use Rattle.port_link.proofs.Terms.{Awaited, Bool, Err, List, Ok, ap, subst, sym, ◌∙◌, IsReady, PortWaits, Place, WaitsAt, waited_place}
use Rattle.port_link.proofs.CallLemmas.{ready_one}
use Rattle.port_link.proofs.StepLemmas.{awaits_some, goes_so, wait_stays, wait_waits}
use Rattle.port_link.specs.Taking.{awaited_at}
use Rattle.port_link.proofs.taking.wait_ready.Goals as goal

pub wait-requires : goal.wait-requires
wait-requires g c = record {
  some = λ no. awaits_some c.args.limits (g.P.Port.told c.args.port.now) (g.P.Port.told c.args.port.now) (g.P.Port.connections c.args.port.now) c.args.place.now c.requires.stands c.requires.more c.requires.some
      (sym (ap (λ (a : Awaited). a.client) c.awaited_at.ensures) ∙ no);
}

pub returns-in-Ok-clause-was : goal.returns-in-Ok-clause-was
returns-in-Ok-clause-was g c = ready_one (g.P.Port.told c.args.port.now) (g.P.Port.told c.wait.new.self) c.awaited_at.result c.in-Ok.ready c.in-Ok.ensures.call

pub returns-in-Ok-clause-waits : goal.returns-in-Ok-clause-waits
returns-in-Ok-clause-waits g c =
    subst (λ (p : Place). WaitsAt c.args.limits (g.P.Port.told c.args.port.now) (g.P.Port.told c.wait.new.self) (g.P.Port.connections c.wait.new.self) c.args.place.now p) (sym c.keep_stop.ensures)
    (subst (λ (l : List Bool). WaitsAt c.args.limits (g.P.Port.told c.args.port.now) (g.P.Port.told c.wait.new.self) l c.args.place.now (waited_place c.in-Ok.ready c.args.place.now)) (sym c.in-Ok.ensures.connections)
    (wait_waits c.args.limits (g.P.Port.told c.args.port.now) (g.P.Port.told c.wait.new.self) (g.P.Port.connections c.args.port.now) c.args.place.now c.requires.stands c.in-Ok.ready
    (subst (λ (a : Awaited). PortWaits (g.P.Port.told c.args.port.now) (g.P.Port.told c.wait.new.self) a (Ok c.in-Ok.ready)) c.awaited_at.ensures c.in-Ok.ensures.call) c.requires.nothing c.requires.none
    (subst (λ (a : Awaited). IsReady a (g.P.Port.connections c.args.port.now) c.in-Ok.ready) c.awaited_at.ensures c.in-Ok.ensures.ready)))

pub returns-in-Err-clause-waits : goal.returns-in-Err-clause-waits
returns-in-Err-clause-waits g c =
    subst (λ (l : List Bool). WaitsAt c.args.limits (g.P.Port.told c.args.port.now) (g.P.Port.told c.wait.new.self) l c.args.place.now c.args.place.now) (sym c.in-Err.ensures.connections)
    (wait_stays c.args.limits (g.P.Port.told c.args.port.now) (g.P.Port.told c.wait.new.self) (g.P.Port.connections c.args.port.now) c.args.place.now c.requires.stands c.in-Err.fault
    (subst (λ (a : Awaited). PortWaits (g.P.Port.told c.args.port.now) (g.P.Port.told c.wait.new.self) a (Err c.in-Err.fault)) c.awaited_at.ensures c.in-Err.ensures.call) c.requires.nothing c.requires.none)
