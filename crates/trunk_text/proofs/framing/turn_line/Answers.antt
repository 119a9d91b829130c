use Rattle.trunk_text.proofs.Terms.{IsDrained, framing}
use Rattle.trunk_text.proofs.TurnLemmas.{lost_ends}
use Rattle.trunk_text.proofs.FramingLemmas.{fed_turns, last_ends, long_ends}
use Rattle.trunk_text.proofs.framing.turn_line.Goals as goal

pub returns-in-Ok-Fed-clause-turns : goal.returns-in-Ok-Fed-clause-turns
returns-in-Ok-Fed-clause-turns g c =
    let taken = rw c.in-Ok-Fed.field-0-is at c.in-Ok-Fed.ensures.line in
    fed_turns (g.S.Source.told c.args.source.now) (g.S.Source.told c.take_line.new.source) (g.K.Sink.told c.args.sink.now) (g.K.Sink.told c.turn_fed.new.sink)
    (IsDrained (g.S.Source.told c.take_line.new.source)) c.args.at c.turn_fed.result c.in-Ok-Fed.line.items c.as_slice.result.now c.as_slice.ensures.value taken.1 c.turn_fed.ensures.turns

pub returns-in-Ok-Last-clause-turns : goal.returns-in-Ok-Last-clause-turns
returns-in-Ok-Last-clause-turns g c =
    let taken = rw c.in-Ok-Last.field-0-is at c.in-Ok-Last.ensures.line in
    last_ends (g.S.Source.told c.args.source.now) (g.S.Source.told c.take_line.new.source) (g.K.Sink.told c.args.sink.now) (g.K.Sink.told c.turn_last.new.sink)
    (IsDrained (g.S.Source.told c.take_line.new.source)) c.args.at c.turn_last.result c.in-Ok-Last.line.items c.as_slice-in-Ok-Last.result.now c.as_slice-in-Ok-Last.ensures.value taken.1 taken.2 c.turn_last.ensures.ends

pub returns-in-Ok-Long-clause-turns : goal.returns-in-Ok-Long-clause-turns
returns-in-Ok-Long-clause-turns g c =
    let taken = rw c.in-Ok-Long.field-0-is at c.in-Ok-Long.ensures.line in
    long_ends (g.S.Source.told c.args.source.now) (g.S.Source.told c.take_line.new.source) (g.K.Sink.told c.args.sink.now) (IsDrained (g.S.Source.told c.take_line.new.source)) c.args.at taken

pub returns-in-Err-clause-turns : goal.returns-in-Err-clause-turns
returns-in-Err-clause-turns g c =
    rw c.read_ended.ensures (lost_ends framing (g.S.Source.told c.args.source.now) (g.S.Source.told c.take_line.new.source) (g.K.Sink.told c.args.sink.now)
    (IsDrained (g.S.Source.told c.take_line.new.source)) c.args.at c.in-Err.fault c.in-Err.ensures.line)
