use Rattle.trunk_wire.proofs.Terms.{arith, length, subst, sym, ◌∙◌, ◌≡◌, take_all, IsDrained, phases_in, header_bytes, Behind, Reads}
use Rattle.trunk_wire.proofs.CallLemmas.{takes_as, reads_behind}
use Rattle.trunk_wire.proofs.reading.take_event.Goals as goal

-- The five bytes of the header were taken, and then the rest of its frame.
pub returns-clause-frame : goal.returns-clause-frame
returns-clause-frame g c =
    let five : length c.fill.new.buffer ≡ 5 = c.fill.auto.buffer in
    let header : Reads (g.S.Source.told c.args.source.now) (g.S.Source.told c.fill.new.source) c.args.took.now c.fill.new.took (header_bytes c.header_from.result) =
    subst (Reads (g.S.Source.told c.args.source.now) (g.S.Source.told c.fill.new.source) c.args.took.now c.fill.new.took)
    (take_all c.in-Ok.count c.fill.new.buffer (omega arith) ∙ sym c.header_from.ensures.bytes) c.in-Ok.ensures.bytes.0 in
    takes_as (phases_in c.args.table.now)
    (Behind (header_bytes c.header_from.result) (Reads (g.S.Source.told c.fill.new.source) (g.S.Source.told c.take_rest.new.source) c.fill.new.took c.take_rest.new.took))
    (Reads (g.S.Source.told c.args.source.now) (g.S.Source.told c.take_rest.new.source) c.args.took.now c.take_rest.new.took)
    (IsDrained (g.S.Source.told c.take_rest.new.source)) c.take_rest.result
    (λ bytes behind. reads_behind _ _ _ _ _ _ _ bytes header behind) c.take_rest.ensures.frame
