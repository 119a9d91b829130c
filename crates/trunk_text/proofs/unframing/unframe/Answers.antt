use Rattle.trunk_text.proofs.Terms.{[], arith, refl, ◌++◌, IsDrained, unframing}
use Rattle.trunk_text.proofs.TurnLemmas.{turned_nothing, moved_nothing, turned_more, moved_more, counted_more, goes_end}
use Rattle.trunk_text.proofs.unframing.unframe.Goals as goal

pub frames-init : goal.frames-init
frames-init g c = record {
  from = [];
  to = [];
  turned = turned_nothing unframing;
  moved = moved_nothing (g.S.Source.told c.args.source.now) (g.K.Sink.told c.args.sink.now);
  at = refl;
  source = refl;
  sink = refl;
  source_later = omega arith;
  sink_later = omega arith;
}

pub frames-preserved : goal.frames-preserved
frames-preserved g c =
    let before = c.frames.invariant in
    let one = c.in-More.ensures.turns in record {
      from = before.from ++ one.0;
      to = before.to ++ one.1;
      turned = turned_more unframing before.from before.to one.0 one.1 before.turned one.2;
      moved = moved_more (g.S.Source.told c.args.source.now) (g.S.Source.told c.frames.source) (g.S.Source.told c.turn_frame.new.source) (g.K.Sink.told c.args.sink.now)
          (g.K.Sink.told c.frames.sink) (g.K.Sink.told c.turn_frame.new.sink) before.from before.to one.0 one.1 before.moved one.4;
      at = counted_more c.frames.at c.in-More.next before.from one.0 before.at one.3;
      source = cc;
      sink = cc;
      source_later = omega (arith, before.source_later, c.in-More.ensures.source_later);
      sink_later = omega (arith, before.sink_later, c.in-More.ensures.sink_later);
    }

pub returns-in-Ends-clause-goes : goal.returns-in-Ends-clause-goes
returns-in-Ends-clause-goes g c =
    let before = c.frames.invariant in
    goes_end unframing (g.S.Source.told c.args.source.now) (g.S.Source.told c.frames.source) (g.S.Source.told c.turn_frame.new.source) (g.K.Sink.told c.args.sink.now)
    (g.K.Sink.told c.frames.sink) (g.K.Sink.told c.turn_frame.new.sink) (IsDrained (g.S.Source.told c.turn_frame.new.source)) c.frames.at before.from before.to c.in-Ends.ended
    before.turned before.moved before.at c.in-Ends.ensures.turns
