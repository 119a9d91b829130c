use Rattle.trunk_wire.proofs.Terms.{arith, sym, IsDrained, phases_in, header_bytes, Behind, Reads, reads_nothing}
use Rattle.trunk_wire.proofs.CallLemmas.{rest_refused, rest_cut, rest_truncated, rest_whole, takes_fault}
use Rattle.trunk_wire.proofs.reading.take_rest.Goals as goal

pub returns-in-Some-clause-frame : goal.returns-in-Some-clause-frame
returns-in-Some-clause-frame g c =
    rest_refused (phases_in c.args.table.now) c.args.header
    (Reads (g.S.Source.told c.args.source.now) (g.S.Source.told c.args.source.now) c.args.took.now c.args.took.now) (IsDrained (g.S.Source.told c.args.source.now)) c.in-Some.kind
    (omega (arith, c.requires)) (omega arith) (sym c.in-Some.ensures) (reads_nothing _ _)

pub returns-in-Ok-None-clause-frame : goal.returns-in-Ok-None-clause-frame
returns-in-Ok-None-clause-frame g c =
    let read = rw c.in-Ok-None.field-0-is at c.in-Ok-None.ensures.read in
    rw c.truncated.ensures (rest_truncated (phases_in c.args.table.now) c.args.header
    (Reads (g.S.Source.told c.args.source.now) (g.S.Source.told c.read_payload.new.source) c.args.took.now c.read_payload.new.took) (IsDrained (g.S.Source.told c.read_payload.new.source)) read.0
    (omega (arith, c.requires)) (omega arith) (sym c.in_default.ensures) read.1 read.2 read.3)

pub returns-in-Err-clause-frame : goal.returns-in-Err-clause-frame
returns-in-Err-clause-frame g c =
    let read = c.in-Err.ensures.read in
    rw c.read_fault.ensures (takes_fault (phases_in c.args.table.now)
    (Behind (header_bytes c.args.header) (Reads (g.S.Source.told c.args.source.now) (g.S.Source.told c.read_payload.new.source) c.args.took.now c.read_payload.new.took))
    (IsDrained (g.S.Source.told c.read_payload.new.source)) c.in-Err.fault
    (rest_cut (phases_in c.args.table.now) c.args.header
    (Reads (g.S.Source.told c.args.source.now) (g.S.Source.told c.read_payload.new.source) c.args.took.now c.read_payload.new.took) read.0
    (omega (arith, c.requires)) (omega arith) (sym c.in_default.ensures) read.1 read.2))

pub returns-clause-frame : goal.returns-clause-frame
returns-clause-frame g c =
    let read = rw c.in-Ok-Some.field-0-is at c.in-Ok-Some.ensures.read in
    rw (c.event_of-event.ensures, c.from_vec.ensures) (rest_whole (phases_in c.args.table.now) c.args.header
    (Reads (g.S.Source.told c.args.source.now) (g.S.Source.told c.read_payload.new.source) c.args.took.now c.read_payload.new.took) (IsDrained (g.S.Source.told c.read_payload.new.source)) c.in-Ok-Some.payload.items
    (omega arith) (sym c.in_default.ensures) read.0 read.1)
