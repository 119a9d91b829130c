use Rattle.trunk_text.proofs.Terms.{[], arith, refl, ◌++◌, IsDrained, framing}
use Rattle.trunk_text.proofs.TurnLemmas.{turned_nothing, moved_nothing, turned_more, moved_more, counted_more, goes_end}
use Rattle.trunk_text.proofs.framing.frame_lines.Goals as goal

pub lines-init : goal.lines-init
lines-init g c = record {
  from = [];
  to = [];
  turned = turned_nothing framing;
  moved = moved_nothing (g.S.Source.told c.args.source.now) (g.K.Sink.told c.args.sink.now);
  at = refl;
  source = refl;
  sink = refl;
  source_later = omega arith;
  sink_later = omega arith;
}

pub lines-preserved : goal.lines-preserved
lines-preserved g c =
    let before = c.lines.invariant in
    let one = c.in-More.ensures.turns in record {
      from = before.from ++ one.0;
      to = before.to ++ one.1;
      turned = turned_more framing before.from before.to one.0 one.1 before.turned one.2;
      moved = moved_more (g.S.Source.told c.args.source.now) (g.S.Source.told c.lines.source) (g.S.Source.told c.turn_line.new.source) (g.K.Sink.told c.args.sink.now)
          (g.K.Sink.told c.lines.sink) (g.K.Sink.told c.turn_line.new.sink) before.from before.to one.0 one.1 before.moved one.4;
      at = counted_more c.lines.at c.in-More.next before.from one.0 before.at one.3;
      source = cc;
      sink = cc;
      source_later = omega (arith, before.source_later, c.in-More.ensures.source_later);
      sink_later = omega (arith, before.sink_later, c.in-More.ensures.sink_later);
    }

pub returns-in-Ends-clause-goes : goal.returns-in-Ends-clause-goes
returns-in-Ends-clause-goes g c =
    let before = c.lines.invariant in
    goes_end framing (g.S.Source.told c.args.source.now) (g.S.Source.told c.lines.source) (g.S.Source.told c.turn_line.new.source) (g.K.Sink.told c.args.sink.now)
    (g.K.Sink.told c.lines.sink) (g.K.Sink.told c.turn_line.new.sink) (IsDrained (g.S.Source.told c.turn_line.new.source)) c.lines.at before.from before.to c.in-Ends.ended
    before.turned before.moved before.at c.in-Ends.ensures.turns
