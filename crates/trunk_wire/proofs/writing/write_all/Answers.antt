use Rattle.trunk_wire.proofs.Terms.{arith, length, take, ◌++◌, ◌≡◌, ◌≤◌, length-take-le, count_after, writes_more}
use Rattle.trunk_wire.proofs.CallLemmas.{split_whole, writes_counted}
use Rattle.trunk_wire.proofs.writing.write_all.Goals as goal

pub give-preserved : goal.give-preserved
give-preserved g c =
    let short : c.in-Ok.count ≤ length c.give.rest.now = c.in-Ok.ensures.count in
    let counted : c.saturating_add.result ≡ count_after c.give.wrote c.in-Ok.count = omega (arith, c.saturating_add.ensures) in record {
      front = c.give.invariant.front ++ take c.in-Ok.count c.give.rest.now;
      whole = rw c.split_at.ensures.back (split_whole c.in-Ok.count c.give.invariant.front c.give.rest.now c.args.bytes.now c.give.invariant.whole);
      written = writes_more _ _ _ _ _ _ _ _ c.give.invariant.written
          (writes_counted _ _ c.give.wrote c.saturating_add.result _ c.in-Ok.count c.in-Ok.ensures.bytes (length-take-le c.in-Ok.count c.give.rest.now short) counted);
      fixed = cc;
      later = omega (arith, c.give.invariant.later, c.in-Ok.ensures.cause.later);
    }
