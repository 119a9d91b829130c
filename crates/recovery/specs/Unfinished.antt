-- A walk that memory broke off: what it had tried so far.
use Rattle.std.specs.Prelude.{◌≡◌, ℕ, ◌+◌, ◌-◌, List, [], ◌∷◌, false, Option, None, Some, IfSome}
use Rattle.recovery.specs.Terms.{Item, Send, Limits, Override, Path, Served, survives, Chance, IsRight, Trial, plan_of_trial}
use Rattle.recovery.specs.Trying.{steps_of}

-- a trial that was begun, as data: what was tried, and where it had come
pub record Attempt : Type 0 where
  pub chance : Chance
  pub path : Path

-- the trials that failed, and the one that was begun behind them, if one was
pub record Unfinished : Type 0 where
  pub trials : List Trial
  pub last : Option Attempt

-- how many instructions the last one did
abbrev pub steps_of_last : Option Attempt → ℕ
steps_of_last None = 0
steps_of_last (Some attempt) = attempt.path.steps - attempt.chance.checkpoint.steps

-- and how many all did, each from its checkpoint
abbrev pub steps_unfinished : Unfinished → ℕ
steps_unfinished unfinished = steps_of unfinished.trials + steps_of_last unfinished.last

-- The first of some chances was tried, by the plan that is in force before the failure, and the trial had come here.
pub record IsAttempt (limits : Limits) (items : List Item) (plan : List Override) (point : ℕ) (chances : List Chance) (attempt : Attempt) : Type 0 where
  pub others : List Chance
  pub first : chances ≡ attempt.chance ∷ others
  pub from : Served limits items (plan_of_trial limits.keep plan attempt.chance.checkpoint.state.machine.taken attempt.chance.env point) attempt.chance.checkpoint attempt.path

-- What a walk over a table had tried: its first chances in order, each with its result, of which none survived; and the next one, if a trial of it was begun.
abbrev pub BeginsOver : Limits → List Item → List Override → List Send → ℕ → List Chance → List Trial → Option Attempt → Type 0
BeginsOver limits items plan pieces point chances [] last = IfSome last (IsAttempt limits items plan point chances)
BeginsOver limits items plan pieces point [] (trial ∷ trials) last = ⊥
BeginsOver limits items plan pieces point (chance ∷ chances) (trial ∷ trials) last =
    (trial.chance ≡ chance) × IsRight limits items plan pieces point trial × (survives trial.result ≡ false) × BeginsOver limits items plan pieces point chances trials last
