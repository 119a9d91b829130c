-- In which order trials are made after a failure.
use Rattle.std.specs.Prelude.{◌≡◌, ℕ, List, [], ◌∷◌, ◌++◌, map, true, Option, None, Some, option_map, slice_get, MatchBool, if◌then◌else◌}
use Rattle.session_notes.specs.declared.episode.Try.{Try}
use Rattle.trials.specs.Terms.{Item, Send, Env, All, Delay, Isolate, Pad, Zero, Limits, Override, Path, Tried, survives}
use Rattle.trials.specs.Trials.{plan_of_trial, IsTrial}

-- the environments in which a program is tried, in their order
abbrev pub environments : List Env
environments = Pad ∷ Zero ∷ Isolate ∷ Delay ∷ All ∷ []

-- what can be tried: to go on from a checkpoint in an environment
pub record Chance : Type 0 where
  pub checkpoint : Path
  pub env : Env

abbrev pub chances_at : Path → List Env → List Chance
chances_at checkpoint envs = map (λ env. record { checkpoint = checkpoint; env = env }) envs

-- the table of the checkpoints of a ring, which stand here from the newest to the oldest: each of them in each environment
abbrev pub table : List Path → List Chance
table [] = []
table (newest ∷ older) = chances_at newest environments ++ table older

-- the chance at a checkpoint of a ring, counted from the newest, and in an environment
abbrev pub chance_at : List Path → ℕ → Env → Option Chance
chance_at ring index env = option_map (λ checkpoint. record { checkpoint = checkpoint; env = env }) (slice_get ring index)

-- a trial as data: what was tried, where it has come, and with what result
pub record Trial : Type 0 where
  pub chance : Chance
  pub path : Path
  pub result : Tried

-- a trial as it is reported
abbrev pub try_of : Trial → Try
try_of trial = record { checkpoint = trial.chance.checkpoint.state.machine.taken; env = trial.chance.env; tried = trial.result }

-- its chance was tried, by the plan that is in force before the failure
abbrev pub IsRight : Limits → List Item → List Override → List Send → ℕ → Trial → Type 0
IsRight limits items plan pieces point trial =
    IsTrial limits items (plan_of_trial limits.keep plan trial.chance.checkpoint.state.machine.taken trial.chance.env point) trial.chance.checkpoint pieces point trial.path trial.result

-- The trials of a walk over a table: its chances in order, each with its result, up to the first that survives; or all of them.
abbrev pub WalksOver : Limits → List Item → List Override → List Send → ℕ → List Chance → List Trial → Type 0
WalksOver limits items plan pieces point [] [] = Unit {0}
WalksOver limits items plan pieces point [] (trial ∷ trials) = ⊥
WalksOver limits items plan pieces point (chance ∷ chances) [] = ⊥
WalksOver limits items plan pieces point (chance ∷ chances) (trial ∷ trials) =
    (trial.chance ≡ chance) × IsRight limits items plan pieces point trial
    × MatchBool (survives trial.result) (trials ≡ []) (WalksOver limits items plan pieces point chances trials)

-- the trial that survives, if one does
abbrev pub survivor_in : List Trial → Option Trial
survivor_in [] = None
survivor_in (trial ∷ trials) = if survives trial.result then Some trial else survivor_in trials

-- a trial of a walk is its last one: it survives, and those before it don't; it goes on from a checkpoint of the ring
pub record IsAdopted (limits : Limits) (items : List Item) (plan : List Override) (pieces : List Send) (point : ℕ) (ring : List Path) (trials : List Trial) (trial : Trial) : Type 0 where
  pub right : IsRight limits items plan pieces point trial
  pub survives_it : survives trial.result ≡ true
  pub failing : List Trial
  pub last : trials ≡ failing ++ trial ∷ []
  pub none : survivor_in failing ≡ None
  pub index : ℕ
  pub checkpoint : slice_get ring index ≡ Some trial.chance.checkpoint
