use Rattle.guest_space.proofs.Terms.{subst, ◌-◌, Writes}
use Rattle.guest_space.proofs.StartLemmas.{filling_more}
use Rattle.guest_space.proofs.filling.fill.Goals as goal

pub loop-segment-preserved : goal.loop-segment-preserved
loop-segment-preserved c =
    filling_more c.args.store.now c.loop-segment.store c.write_run.new.self c.args.base c.loop-segment.segment-index c.args.segments.now c.segment-item.result c.loop-segment.invariant c.loop-segment-test.true c.segment-item.is c.requires.empty
    (subst (Writes c.loop-segment.store c.write_run.new.self (c.segment-item.result.vaddr - c.args.base)) c.as_slice.ensures c.write_run.ensures.writes)
    c.write_run.ensures.lawful
