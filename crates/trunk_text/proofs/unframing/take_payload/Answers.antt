use Rattle.trunk_text.proofs.Terms.{arith, length, sym, ◌<◌, ◌≡◌, IsDrained, Took}
use Rattle.trunk_text.proofs.UnframingLemmas.{bad_header, cut_payload, lost_payload, whole_frame}
use Rattle.trunk_text.proofs.unframing.take_payload.Goals as goal

pub returns-in-Some-clause-frame : goal.returns-in-Some-clause-frame
returns-in-Some-clause-frame g c =
    bad_header c.args.kind c.args.conn c.args.length c.in-Some.flaw (g.S.Source.told c.args.source.now) (IsDrained (g.S.Source.told c.args.source.now)) (omega arith) (sym c.in-Some.ensures)

pub returns-in-Err-clause-frame : goal.returns-in-Err-clause-frame
returns-in-Err-clause-frame g c =
    lost_payload c.args.kind c.args.conn c.args.length (Took (g.S.Source.told c.args.source.now) (g.S.Source.told c.take_up_to.new.source)) c.in-Err.fault (omega arith)
    (sym c.in_default.ensures) c.in-Err.ensures.bytes

pub returns-then-len-length-clause-frame : goal.returns-then-len-length-clause-frame
returns-then-len-length-clause-frame g c =
    let short : length c.in-Ok.payload.items < c.args.length = omega (arith, c.len.ensures, c.if-len-length.true) in
    cut_payload c.args.kind c.args.conn c.args.length c.in-Ok.payload.items (Took (g.S.Source.told c.args.source.now) (g.S.Source.told c.take_up_to.new.source))
    (IsDrained (g.S.Source.told c.take_up_to.new.source)) (omega arith) (sym c.in_default.ensures) short c.in-Ok.ensures.bytes.0 (c.in-Ok.ensures.bytes.2 short)

pub returns-clause-frame : goal.returns-clause-frame
returns-clause-frame g c =
    let counted : length c.in-Ok.payload.items ≡ c.args.length = omega (arith, c.len.ensures, c.if-len-length.false, c.in-Ok.ensures.bytes.1) in
    rw (c.says_of.ensures, c.from.ensures) (whole_frame c.args.kind c.args.conn c.args.length c.in-Ok.payload.items (Took (g.S.Source.told c.args.source.now) (g.S.Source.told c.take_up_to.new.source))
    (IsDrained (g.S.Source.told c.take_up_to.new.source)) (omega arith) (omega arith) counted (sym c.in_default.ensures) c.in-Ok.ensures.bytes.0)
