use Rattle.recovery.proofs.Terms.{Option, arith, subst, ◌∙◌, Ok, Adopted, AllBy, LedgerBy}
use Rattle.recovery.proofs.Stands.{checkpoint_there, ring_length}
use Rattle.recovery.proofs.WalkLemmas.{failed_checkpoint, begun_checkpoint, walked_none, walked_found, failed_all}
use Rattle.recovery.proofs.HeldLemmas.{can_still, still_failed, still_under, untried_on}
use Rattle.recovery.proofs.recoverable.Recoverable.try_ring.Goals as goal

pub try_all-requires-clause-failed : goal.try_all-requires-clause-failed
try_all-requires-clause-failed g c = can_still g.R.AccessRule.rule c.checkpoints.invariant.kept c.checkpoints.invariant.ledger c.requires.failed

pub checkpoints-preserved : goal.checkpoints-preserved
checkpoints-preserved g c =
    let inv = c.checkpoints.invariant in
    record {
      kept = untried_on inv.kept c.in-Ok-None.ensures.kept;
      ledger = (subst (λ (o : Option Adopted). LedgerBy c.checkpoints.self.replies c.try_all.new.self.replies (Ok o)) c.in-Ok-None.field-0-is c.in-Ok-None.ensures.ledger) ∙ inv.ledger;
      tried = λ failure under failed.
          let f = checkpoint_there c.args.self.now.cpu.slots.saved failure.ring failed.has.saved (omega (arith, c.checkpoints-test.true, c.checkpoints-count.ensures.checkpoints)) in
          failed_checkpoint c.checkpoints.index f.1 (inv.tried failure under failed)
          (subst (λ (o : Option Adopted). AllBy failure c.args.limits.point f.0 c.try_all.new.self.cpu c.try_all.new.own.items c.try_all.new.self.replies c.checkpoints.tries.items c.try_all.new.tries.items c.checkpoints.steps c.try_all.new.steps (Ok o)) c.in-Ok-None.field-0-is
          (c.in-Ok-None.ensures.tries failure f.0 (still_under g.R.AccessRule.rule failure inv.kept under) (still_failed inv.kept inv.ledger failed) f.1));
      least = let low = inv.least in let more = c.in-Ok-None.ensures.least in omega (arith, low, more);
    }

pub returns-in-Ok-Some-clause-walks : goal.returns-in-Ok-Some-clause-walks
returns-in-Ok-Some-clause-walks g c failure under failed =
    let inv = c.checkpoints.invariant in
    let f = checkpoint_there c.args.self.now.cpu.slots.saved failure.ring failed.has.saved (omega (arith, c.checkpoints-test.true, c.checkpoints-count.ensures.checkpoints)) in
    walked_found c.checkpoints.index f.1 (inv.tried failure under failed)
    (subst (λ (o : Option Adopted). AllBy failure c.args.limits.point f.0 c.try_all.new.self.cpu c.try_all.new.own.items c.try_all.new.self.replies c.checkpoints.tries.items c.try_all.new.tries.items c.checkpoints.steps c.try_all.new.steps (Ok o)) c.in-Ok-Some.field-0-is
    (c.in-Ok-Some.ensures.tries failure f.0 (still_under g.R.AccessRule.rule failure inv.kept under) (still_failed inv.kept inv.ledger failed) f.1))

pub returns-in-Err-clause-walks : goal.returns-in-Err-clause-walks
returns-in-Err-clause-walks g c failure under failed =
    let inv = c.checkpoints.invariant in
    let f = checkpoint_there c.args.self.now.cpu.slots.saved failure.ring failed.has.saved (omega (arith, c.checkpoints-test.true, c.checkpoints-count.ensures.checkpoints)) in
    begun_checkpoint c.checkpoints.index f.1 (inv.tried failure under failed)
    (c.in-Err.ensures.tries failure f.0 (still_under g.R.AccessRule.rule failure inv.kept under) (still_failed inv.kept inv.ledger failed) f.1)

pub returns-clause-walks : goal.returns-clause-walks
returns-clause-walks g c failure under failed =
    let inv = c.checkpoints.invariant in
    let all = ring_length c.args.self.now.cpu.slots.saved failure.ring failed.has.saved in
    walked_none (failed_all (omega (arith, c.checkpoints-test.false, c.checkpoints-count.ensures.checkpoints, all)) (inv.tried failure under failed)) (c.discard.ensures ∙ inv.ledger)
