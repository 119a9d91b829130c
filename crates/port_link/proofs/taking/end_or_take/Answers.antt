use Rattle.port_link.proofs.Terms.{sym, ◌∙◌}
use Rattle.port_link.proofs.StepLemmas.{answered_takes, wait_fails, wait_then}
use Rattle.port_link.proofs.taking.end_or_take.Goals as goal

pub returns-then-is_over-clause-takes : goal.returns-then-is_over-clause-takes
returns-then-is_over-clause-takes g c =
    answered_takes c.args.limits (g.P.Port.told c.args.port.now) (g.P.Port.connections c.args.port.now) c.args.place.now c.requires.stands c.answer_end.new.place c.answer_end.result (sym c.is_over.ensures ∙ c.if-is_over.true) c.answer_end.ensures

pub returns-in-Ok-Reads-clause-takes : goal.returns-in-Ok-Reads-clause-takes
returns-in-Ok-Reads-clause-takes g c =
    let told = g.P.Port.told in
    wait_then c.args.limits (told c.args.port.now) (told c.wait_ready.new.port) (told c.take_next.new.port) (g.P.Port.connections c.wait_ready.new.port) (g.P.Port.connections c.take_next.new.port) c.args.place.now c.in-Ok-Reads.field-0
    c.wait_ready.new.place c.take_next.new.place c.take_next.result c.in-Ok-Reads.ensures.place c.in-Ok-Reads.ensures.waits c.take_next.ensures.takes

pub returns-in-Err-clause-takes : goal.returns-in-Err-clause-takes
returns-in-Err-clause-takes g c =
    wait_fails c.args.limits (g.P.Port.told c.args.port.now) (g.P.Port.told c.wait_ready.new.port) (g.P.Port.connections c.wait_ready.new.port) c.args.place.now c.wait_ready.new.place c.in-Err.fault c.in-Err.ensures.goes c.in-Err.ensures.place
    c.in-Err.ensures.waits
