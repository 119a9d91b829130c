use Rattle.trunk_wire.proofs.Terms.{arith, length, subst, sym, ◌-◌, ◌≡◌, ◌≤◌, length-take-le, Reads, count_after, reads_more}
use Rattle.trunk_wire.proofs.CallLemmas.{take-put_mid_front, put_mid_room, reads_counted}
use Rattle.trunk_wire.proofs.reading.fill.Goals as goal

pub fill-preserved : goal.fill-preserved
fill-preserved g c =
    let short : c.in-Ok.count ≤ length c.take.new.buf = omega (arith, c.in-Ok.ensures.count, c.take.auto.buf) in
    let counted : c.saturating_add.result ≡ count_after c.fill.took c.in-Ok.count = omega (arith, c.saturating_add.ensures) in record {
      within = put_mid_room c.fill.filled (length c.fill.buffer - c.fill.filled) c.in-Ok.count c.fill.buffer c.take.new.buf c.fill.invariant.within short;
      bytes = subst (Reads (g.S.Source.told c.args.source.now) (g.S.Source.told c.take.new.self) c.args.took.now c.saturating_add.result)
          (sym (take-put_mid_front c.fill.filled (length c.fill.buffer - c.fill.filled) c.in-Ok.count c.fill.buffer c.take.new.buf c.fill.invariant.within short))
          (reads_more _ _ _ _ _ _ _ _ c.fill.invariant.bytes (reads_counted _ _ c.fill.took c.saturating_add.result _ c.in-Ok.count c.in-Ok.ensures.bytes.0 (length-take-le c.in-Ok.count c.take.new.buf short) counted));
      fixed = cc;
      later = omega (arith, c.fill.invariant.later, c.in-Ok.ensures.cause.later);
    }
