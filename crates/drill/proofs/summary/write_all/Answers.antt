use Rattle.std.proofs.KnownBytes.{Appends-trans}
use Rattle.drill.proofs.Terms.{arith, take, ◌++◌}
use Rattle.drill.proofs.WriteLemmas.{split_whole}
use Rattle.drill.proofs.summary.write_all.Goals as goal

pub give-preserved : goal.give-preserved
give-preserved g c = record {
  front = c.give.invariant.front ++ take c.in-Ok.count c.give.rest.now;
  whole = rw c.split_at.ensures.back (split_whole c.in-Ok.count c.give.invariant.front c.give.rest.now c.args.bytes.now c.give.invariant.whole);
  written = Appends-trans _ _ _ _ _ c.give.invariant.written c.in-Ok.ensures.bytes;
  fixed = cc;
  later = omega (arith, c.give.invariant.later, c.in-Ok.ensures.cause.later);
}
