use Rattle.trunk_text.proofs.Terms.{Appends}
use Rattle.trunk_text.proofs.FramingLemmas.{lone_ends}
use Rattle.trunk_text.proofs.framing.turn_last.Goals as goal

pub returns-in-Some-clause-ends : goal.returns-in-Some-clause-ends
returns-in-Some-clause-ends g c =
    lone_ends (Appends (g.K.Sink.told c.args.sink.now) (g.K.Sink.told c.give_line.new.sink)) c.args.line.now c.args.at c.in-Some.ended c.requires c.in-Some.ensures.gives
