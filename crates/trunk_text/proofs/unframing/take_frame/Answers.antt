use Rattle.trunk_text.proofs.Terms.{sym, ◌∙◌, IsDrained, Took}
use Rattle.trunk_text.proofs.UnframingLemmas.{header_taken, lost_header}
use Rattle.trunk_text.proofs.unframing.take_frame.Goals as goal

pub returns-clause-frame : goal.returns-clause-frame
returns-clause-frame g c =
    header_taken (g.S.Source.told c.args.source.now) (g.S.Source.told c.take_up_to.new.source) (g.S.Source.told c.take_payload.new.source) (IsDrained (g.S.Source.told c.take_payload.new.source))
    c.in-Ok.header.items (record { kind = c.in-Some.head.kind; conn = c.in-Some.head.conn; length = c.in-Some.head.length }) c.take_payload.result
    (sym c.as_slice.ensures.value ∙ c.in-Some.ensures) c.in-Ok.ensures.bytes.0 c.take_payload.ensures.frame

pub returns-in-Err-clause-frame : goal.returns-in-Err-clause-frame
returns-in-Err-clause-frame g c = lost_header (Took (g.S.Source.told c.args.source.now) (g.S.Source.told c.take_up_to.new.source)) c.in-Err.fault c.in-Err.ensures.bytes
