use Rattle.trunk_text.proofs.Terms.{Appends}
use Rattle.trunk_text.proofs.FramingLemmas.{fed_ends}
use Rattle.trunk_text.proofs.framing.turn_fed.Goals as goal

pub returns-in-Some-give_line-clause-turns : goal.returns-in-Some-give_line-clause-turns
returns-in-Some-give_line-clause-turns g c =
    fed_ends (Appends (g.K.Sink.told c.args.sink.now) (g.K.Sink.told c.give_line.new.sink)) c.args.line.now c.args.at c.in-Some-give_line.ended c.requires c.in-Some-give_line.ensures.gives
