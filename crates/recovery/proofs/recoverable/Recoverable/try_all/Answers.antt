use Rattle.recovery.proofs.Terms.{List, Option, arith, subst, ◌∙◌, take_all, Ok, Env, chances_at, environments, Adopted, FailedSome, LedgerBy, OneBy}
use Rattle.recovery.proofs.WalkLemmas.{failed_env, begun_env, adopted_env}
use Rattle.recovery.proofs.HeldLemmas.{can_still, still_failed, still_under, untried_on}
use Rattle.recovery.proofs.recoverable.Recoverable.try_all.Goals as goal

pub try_one-requires-clause-failed : goal.try_one-requires-clause-failed
try_one-requires-clause-failed g c = can_still g.R.AccessRule.rule c.environments.invariant.kept c.environments.invariant.ledger c.requires.failed

pub environments-preserved : goal.environments-preserved
environments-preserved g c =
    let inv = c.environments.invariant in
    record {
      kept = untried_on inv.kept c.in-Ok-None.ensures.kept;
      ledger = (subst (λ (o : Option Adopted). LedgerBy c.environments.self.replies c.try_one.new.self.replies (Ok o)) c.in-Ok-None.field-0-is c.in-Ok-None.ensures.ledger) ∙ inv.ledger;
      tried = λ failure checkpoint under failed found.
          failed_env c.environments.place c.environment-env.ensures (inv.tried failure checkpoint under failed found)
          (subst (λ (o : Option Adopted). OneBy failure c.args.limits.point (record { checkpoint = checkpoint; env = c.environment-env.result }) c.try_one.new.self.cpu c.try_one.new.own.items c.try_one.new.self.replies c.environments.tries.items c.try_one.new.tries.items c.environments.steps c.try_one.new.steps (Ok o)) c.in-Ok-None.field-0-is
          (c.in-Ok-None.ensures.tries failure checkpoint (still_under g.R.AccessRule.rule failure inv.kept under) (still_failed inv.kept inv.ledger failed) found));
      least = let low = inv.least in let more = c.in-Ok-None.ensures.least in omega (arith, low, more);
    }

pub returns-in-Ok-Some-clause-tries : goal.returns-in-Ok-Some-clause-tries
returns-in-Ok-Some-clause-tries g c failure checkpoint under failed found =
    let inv = c.environments.invariant in
    adopted_env c.environments.place c.environment-env.ensures
    (inv.tried failure checkpoint under failed found)
    (subst (λ (o : Option Adopted). OneBy failure c.args.limits.point (record { checkpoint = checkpoint; env = c.environment-env.result }) c.try_one.new.self.cpu c.try_one.new.own.items c.try_one.new.self.replies c.environments.tries.items c.try_one.new.tries.items c.environments.steps c.try_one.new.steps (Ok o)) c.in-Ok-Some.field-0-is
    (c.in-Ok-Some.ensures.tries failure checkpoint (still_under g.R.AccessRule.rule failure inv.kept under) (still_failed inv.kept inv.ledger failed) found))

pub returns-in-Err-clause-tries : goal.returns-in-Err-clause-tries
returns-in-Err-clause-tries g c failure checkpoint under failed found =
    let inv = c.environments.invariant in
    begun_env c.environments.place c.environment-env.ensures (inv.tried failure checkpoint under failed found)
    (c.in-Err.ensures.tries failure checkpoint (still_under g.R.AccessRule.rule failure inv.kept under) (still_failed inv.kept inv.ledger failed) found)

pub returns-clause-tries : goal.returns-clause-tries
returns-clause-tries g c failure checkpoint under failed found =
    let past = c.environments-test.false in
    let most = c.environments.auto.place-end in
    subst (λ (envs : List Env). FailedSome failure c.args.limits.point (chances_at checkpoint envs) c.args.tries.now.items c.environments.tries.items c.args.steps.now c.environments.steps) (take_all c.environments.place environments (omega (arith, past, most)))
    (c.environments.invariant.tried failure checkpoint under failed found)
