use Rattle.trunk_wire.proofs.CallLemmas.{split_whole}
use Rattle.trunk_text.proofs.Terms.{arith, take, ◌++◌, gave_more}
use Rattle.trunk_text.proofs.streams.give_all.Goals as goal

pub write-preserved : goal.write-preserved
write-preserved g c = record {
  front = c.write.invariant.front ++ take c.in-Ok.count c.write.rest.now;
  whole = rw c.split_at.ensures.back (split_whole c.in-Ok.count c.write.invariant.front c.write.rest.now c.args.bytes.now c.write.invariant.whole);
  wrote = gave_more (g.K.Sink.told c.args.sink.now) (g.K.Sink.told c.write.sink) (g.K.Sink.told c.give.new.self) c.write.invariant.front (take c.in-Ok.count c.write.rest.now)
      c.write.invariant.wrote c.in-Ok.ensures.bytes;
  fixed = cc;
  later = omega (arith, c.write.invariant.later, c.in-Ok.ensures.cause.later);
}
