use Rattle.trunk_text.proofs.Terms.{IsDrained, unframing}
use Rattle.trunk_text.proofs.TurnLemmas.{lost_ends}
use Rattle.trunk_text.proofs.UnframingLemmas.{end_turns, frame_turns, wrong_turns}
use Rattle.trunk_text.proofs.unframing.turn_frame.Goals as goal

pub turn_says-requires : goal.turn_says-requires
turn_says-requires g c = (rw c.in-Ok-Whole.field-0-is at c.in-Ok-Whole.ensures.frame).4

pub returns-in-Ok-Whole-clause-turns : goal.returns-in-Ok-Whole-clause-turns
returns-in-Ok-Whole-clause-turns g c =
    frame_turns (g.S.Source.told c.args.source.now) (g.S.Source.told c.take_frame.new.source) (g.K.Sink.told c.args.sink.now) (g.K.Sink.told c.turn_says.new.sink)
    (IsDrained (g.S.Source.told c.take_frame.new.source)) c.args.at c.in-Ok-Whole.count c.in-Ok-Whole.line c.turn_says.result (rw c.in-Ok-Whole.field-0-is at c.in-Ok-Whole.ensures.frame) c.turn_says.ensures.gives

pub returns-in-Ok-End-clause-turns : goal.returns-in-Ok-End-clause-turns
returns-in-Ok-End-clause-turns g c =
    end_turns (g.S.Source.told c.args.source.now) (g.S.Source.told c.take_frame.new.source) (g.K.Sink.told c.args.sink.now) (IsDrained (g.S.Source.told c.take_frame.new.source)) c.args.at
    (rw c.in-Ok-End.field-0-is at c.in-Ok-End.ensures.frame)

pub returns-in-Ok-Wrong-clause-turns : goal.returns-in-Ok-Wrong-clause-turns
returns-in-Ok-Wrong-clause-turns g c =
    wrong_turns (g.S.Source.told c.args.source.now) (g.S.Source.told c.take_frame.new.source) (g.K.Sink.told c.args.sink.now) (IsDrained (g.S.Source.told c.take_frame.new.source)) c.args.at c.in-Ok-Wrong.flaw
    (rw c.in-Ok-Wrong.field-0-is at c.in-Ok-Wrong.ensures.frame)

pub returns-in-Err-clause-turns : goal.returns-in-Err-clause-turns
returns-in-Err-clause-turns g c =
    rw c.read_ended.ensures (lost_ends unframing (g.S.Source.told c.args.source.now) (g.S.Source.told c.take_frame.new.source) (g.K.Sink.told c.args.sink.now)
    (IsDrained (g.S.Source.told c.take_frame.new.source)) c.args.at c.in-Err.fault c.in-Err.ensures.frame)
