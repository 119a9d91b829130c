use Rattle.recovery.proofs.Stands.{checkpoint_there, ring_length}
use Rattle.diagnosis.proofs.Terms.{List, [], arith, length, refl, subst, sym, ◌<◌, ◌∙◌, Try, can_still, still_failed, still_under, still_within, untried_on, untried_same, untried_settled, NotesTries}
use Rattle.diagnosis.proofs.ExaminedLemmas.{notes_none, notes_checkpoint, notes_table}
use Rattle.diagnosis.proofs.examining.examine.Goals as goal

pub checkpoints-init : goal.checkpoints-init
checkpoints-init g c = record {
  kept = untried_same;
  ledger = refl;
  notes = λ failure under failed. subst (λ (all : List Try). NotesTries failure c.args.limits.point [] [] all) (sym c.requires.none) notes_none;
  least = omega arith;
}

pub examine_all-requires : goal.examine_all-requires
examine_all-requires g c =
    let inv = c.checkpoints.invariant in
    let less : c.checkpoints.index < length c.args.held.now.cpu.slots.saved = omega (arith, c.checkpoints-test.true, c.checkpoints-count.ensures.checkpoints) in
    record { failed = can_still g.R.AccessRule.rule inv.kept inv.ledger c.requires.failed; within = still_within inv.kept less }

pub checkpoints-preserved : goal.checkpoints-preserved
checkpoints-preserved g c =
    let inv = c.checkpoints.invariant in
    let less : c.checkpoints.index < length c.args.held.now.cpu.slots.saved = omega (arith, c.checkpoints-test.true, c.checkpoints-count.ensures.checkpoints) in
    record {
      kept = untried_on inv.kept c.in-Ok.ensures.kept;
      ledger = c.in-Ok.ensures.ledger ∙ inv.ledger;
      notes = λ failure under failed.
          let f = checkpoint_there c.args.held.now.cpu.slots.saved failure.ring failed.has.saved less in
          notes_checkpoint c.checkpoints.index f.1 (inv.notes failure under failed)
          (c.in-Ok.ensures.notes failure f.0 (still_under g.R.AccessRule.rule failure inv.kept under) (still_failed inv.kept inv.ledger failed) f.1);
      least = let low = inv.least in let more = c.in-Ok.ensures.least in omega (arith, low, more);
    }

pub returns-clause-table : goal.returns-clause-table
returns-clause-table g c failure under failed =
    let inv = c.checkpoints.invariant in
    let all = ring_length c.args.held.now.cpu.slots.saved failure.ring failed.has.saved in
    notes_table {tries = c.checkpoints.tries.items} (omega (arith, c.checkpoints-test.false, c.checkpoints-count.ensures.checkpoints, all)) (inv.notes failure under failed)

pub returns-clause-kept : goal.returns-clause-kept
returns-clause-kept g c = untried_settled c.discard.new.self c.checkpoints.invariant.kept

pub returns-clause-ledger : goal.returns-clause-ledger
returns-clause-ledger g c = c.discard.ensures ∙ c.checkpoints.invariant.ledger

pub returns-in-Err-clause-kept : goal.returns-in-Err-clause-kept
returns-in-Err-clause-kept g c = untried_on c.checkpoints.invariant.kept c.in-Err.ensures.kept
