use Rattle.port_link.proofs.StepLemmas.{settle_then}
use Rattle.port_link.proofs.taking.next_event.Goals as goal

pub returns-clause-takes : goal.returns-clause-takes
returns-clause-takes g c =
    let told = g.P.Port.told in
    settle_then c.args.limits (told c.args.port.now) (told c.settle.new.port) (told c.answer_next.new.port) (g.P.Port.connections c.settle.new.port) (g.P.Port.connections c.answer_next.new.port)
    c.args.place.now c.settle.new.place c.answer_next.new.place c.answer_next.result c.settle.ensures.settles c.answer_next.ensures.takes
