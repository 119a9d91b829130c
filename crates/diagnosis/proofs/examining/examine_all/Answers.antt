use Rattle.diagnosis.proofs.Terms.{arith, refl, ◌∙◌, can_still, still_failed, still_under, still_within, untried_on, untried_same}
use Rattle.diagnosis.proofs.ExaminedLemmas.{notes_none, notes_env, notes_envs}
use Rattle.diagnosis.proofs.examining.examine_all.Goals as goal

pub environments-init : goal.environments-init
environments-init g c = record {
  kept = untried_same;
  ledger = refl;
  notes = λ failure checkpoint under failed found. notes_none;
  least = omega arith;
}

pub examine_one-requires : goal.examine_one-requires
examine_one-requires g c =
    let inv = c.environments.invariant in
    record { failed = can_still g.R.AccessRule.rule inv.kept inv.ledger c.requires.failed; within = still_within inv.kept c.requires.within }

pub environments-preserved : goal.environments-preserved
environments-preserved g c =
    let inv = c.environments.invariant in
    record {
      kept = untried_on inv.kept c.in-Ok.ensures.kept;
      ledger = c.in-Ok.ensures.ledger ∙ inv.ledger;
      notes = λ failure checkpoint under failed found.
          notes_env c.environments.place c.environment-env.ensures (inv.notes failure checkpoint under failed found)
          (c.in-Ok.ensures.notes failure checkpoint (still_under g.R.AccessRule.rule failure inv.kept under) (still_failed inv.kept inv.ledger failed) found);
      least = let low = inv.least in let more = c.in-Ok.ensures.least in omega (arith, low, more);
    }

pub returns-clause-notes : goal.returns-clause-notes
returns-clause-notes g c failure checkpoint under failed found =
    let past = c.environments-test.false in
    let most = c.environments.auto.place-end in
    notes_envs {new = c.environments.tries.items} (omega (arith, past, most)) (c.environments.invariant.notes failure checkpoint under failed found)

pub returns-in-Err-clause-kept : goal.returns-in-Err-clause-kept
returns-in-Err-clause-kept g c = untried_on c.environments.invariant.kept c.in-Err.ensures.kept
