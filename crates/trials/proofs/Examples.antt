-- What the definitions compute at values.
use Rattle.session_notes.specs.declared.episode.Tried.TheVariants.{Asks, Behind}
use Rattle.trials.proofs.Terms.{List, None, Some, [], ap, map, refl, ℕ, ◌+◌, ◌∷◌, ◌≡◌, option_map, All, Delay, Isolate, Pad, Plain, Zero, Hang, Override, Path, env_at, Rules, plan_of_trial, Chance, Trial, survivor_in, table, Recovery, adopted_by, episode_of}

-- a plan that is in force before a failure: Delay from the start on, up to 5 items
abbrev delayed : List Override
delayed = record { low = 0; until = 5; env = Delay } ∷ []

-- a trial from the start, after a failure with 3 items taken: its environment from the first instruction on, with up to 6 items taken
from_start : map (env_at Plain (plan_of_trial 4 delayed 0 Pad 3)) (0 ∷ 1 ∷ 2 ∷ 3 ∷ 4 ∷ 5 ∷ 6 ∷ 7 ∷ 8 ∷ []) ≡ Pad ∷ Pad ∷ Pad ∷ Pad ∷ Pad ∷ Pad ∷ Pad ∷ Plain ∷ Plain ∷ []
from_start = refl

-- one from a checkpoint with 2 items taken: up to there the earlier plan, and behind it not even where that one goes on
from_second : map (env_at Plain (plan_of_trial 4 delayed 2 Zero 3)) (0 ∷ 1 ∷ 2 ∷ 3 ∷ 4 ∷ 5 ∷ 6 ∷ 7 ∷ 8 ∷ []) ≡ Delay ∷ Delay ∷ Delay ∷ Zero ∷ Zero ∷ Zero ∷ Zero ∷ Plain ∷ Plain ∷ []
from_second = refl

-- one from the checkpoint at which the run failed
from_last : map (env_at Plain (plan_of_trial 4 delayed 3 All 3)) (2 ∷ 3 ∷ 4 ∷ 6 ∷ 7 ∷ []) ≡ Delay ∷ Delay ∷ All ∷ All ∷ Plain ∷ []
from_last = refl

-- as the second, where an environment is kept for one item: Zero with 3 items taken alone
kept_for_one : map (env_at Plain (plan_of_trial 1 delayed 2 Zero 3)) (0 ∷ 1 ∷ 2 ∷ 3 ∷ 4 ∷ 5 ∷ []) ≡ Delay ∷ Delay ∷ Delay ∷ Zero ∷ Plain ∷ Plain ∷ []
kept_for_one = refl

-- a run that took so many items
abbrev standing : ℕ → Path
standing taken = record {
  state =
      record {
        machine = record { pc = 0; registers = []; memory = []; heap_start = 0; heap_end = 0; blocks = []; allocations = 0; taken = taken; connections = []; since = 0 };
        sends = [];
        ended = None;
      };
  heap = record { start = 0; end = 0; blocks = []; freed = [] };
  choices = [];
  steps = 0;
}

-- the table of two checkpoints: the newest first, and of each the five environments
two_checkpoints : map (λ (chance : Chance). chance.checkpoint.state.machine.taken) (table (standing 5 ∷ standing 0 ∷ [])) ≡ 5 ∷ 5 ∷ 5 ∷ 5 ∷ 5 ∷ 0 ∷ 0 ∷ 0 ∷ 0 ∷ 0 ∷ []
two_checkpoints = refl

their_environments : map (λ (chance : Chance). chance.env) (table (standing 5 ∷ standing 0 ∷ [])) ≡ Pad ∷ Zero ∷ Isolate ∷ Delay ∷ All ∷ Pad ∷ Zero ∷ Isolate ∷ Delay ∷ All ∷ []
their_environments = refl

-- a run that failed with 5 items taken, of which the first trial, from the newest checkpoint, is behind, and the next one asks for the item
abbrev recovery : Recovery
recovery = record {
  survivor = record { plan = []; begun = standing 0; now = standing 5 };
  cause = Hang;
  ring = standing 3 ∷ standing 0 ∷ [];
  trials = record { chance = record { checkpoint = standing 3; env = Pad }; path = standing 4; result = Behind } ∷ record { chance = record { checkpoint = standing 3; env = Zero }; path = standing 5; result = Asks } ∷ [];
}

reported : episode_of recovery ≡
    record {
      point = 5;
      cause = Hang;
      pc = 0;
      tries = record { checkpoint = 3; env = Pad; tried = Behind } ∷ record { checkpoint = 3; env = Zero; tried = Asks } ∷ [];
    }
reported = refl

-- the second one is adopted, and its environment is in force behind 3 items, up to 8
adopted : (rules : Rules) → rules.limits.keep ≡ 4 → option_map (λ (trial : Trial). (adopted_by rules recovery trial).plan) (survivor_in recovery.trials) ≡ Some (record { low = 4; until = 9; env = Zero } ∷ [])
adopted rules four = ap (λ (keep : ℕ). Some (record { low = 4; until = 5 + keep; env = Zero } ∷ [])) four
