use Rattle.recovery.proofs.Terms.{arith, subst, ◌<◌, ◌∙◌, ComesIf, IsLaterIf}
use Rattle.recovery.proofs.Running.{base_on, trying_room}
use Rattle.recovery.proofs.Ending.{under_saved}
use Rattle.recovery.proofs.Looping.{tries_now}
use Rattle.recovery.proofs.HeldLemmas.{rest_on}
use Rattle.recovery.proofs.recoverable.Recoverable.go_on.Goals as goal

pub turns-preserved : goal.turns-preserved
turns-preserved g c =
    let before = c.turns.invariant.counted in
    record {
      tries = λ failure checkpoint under t.
          subst (λ found. ComesIf failure c.args.limits.point checkpoint c.args.env c.turn.new.self.cpu c.turn.new.own.items c.turn.new.self.log c.turn.new.self.replies found) c.in-Ok-None.field-0-is
          (c.in-Ok-None.ensures.comes failure checkpoint (under_saved g.R.AccessRule.rule failure c.turns.invariant.base.saved under) (c.turns.invariant.tries failure checkpoint under t));
      base = base_on c.turns.invariant.base c.in-Ok-None.ensures.kept;
      rest = rest_on c.args.self.now c.turns.self c.turn.new.self c.turns.invariant.rest c.in-Ok-None.ensures.rest;
      ledger = c.in-Ok-None.ensures.ledger ∙ c.turns.invariant.ledger;
      counted = omega (arith, before, c.in-Ok-None.ensures.counted);
      least = let low = c.turns.invariant.least in let more = c.in-Ok-None.ensures.least in omega (arith, low, more);
    }

pub turn-requires : goal.turn-requires
turn-requires g c = record { tries = tries_now g.R.AccessRule.rule c.turns.invariant c.requires.tries }

pub turns-smaller : goal.turns-smaller
turns-smaller g c =
    let later : c.turns.self.cpu.slots.live.steps < c.turn.new.self.cpu.slots.live.steps =
    subst (λ found. IsLaterIf found c.turns.self.cpu.slots.live.steps c.turn.new.self.cpu.slots.live.steps) c.in-Ok-None.field-0-is c.in-Ok-None.ensures.later in
    omega (arith, trying_room (tries_now g.R.AccessRule.rule c.turns.invariant c.requires.tries).trying, later)

pub returns-in-Ok-Some-clause-comes : goal.returns-in-Ok-Some-clause-comes
returns-in-Ok-Some-clause-comes g c failure checkpoint under t =
    subst (λ found. ComesIf failure c.args.limits.point checkpoint c.args.env c.turn.new.self.cpu c.turn.new.own.items c.turn.new.self.log c.turn.new.self.replies found) c.in-Ok-Some.field-0-is
    (c.in-Ok-Some.ensures.comes failure checkpoint (under_saved g.R.AccessRule.rule failure c.turns.invariant.base.saved under) (c.turns.invariant.tries failure checkpoint under t))
