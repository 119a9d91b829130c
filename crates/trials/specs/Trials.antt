-- What comes of a trial: a program that failed runs again from a checkpoint, in another environment.
use Rattle.std.specs.Prelude.{◌≡◌, ℕ, ◌+◌, ◌<◌, ◌≤◌, List, ◌∷◌, false, ◌⊎◌, Some, IsSome, if◌then◌else◌, ◌==◌}
use Rattle.session_notes.specs.declared.episode.Tried.TheVariants as tried
use Rattle.trials.specs.Terms.{Item, Send, sent_to, Env, agree, State, output, AsksFor, FailsBy, Limits, Override, Path, Served, planned_next, Agrees, Covers, CoversBefore, IsFeasible, Tried}

-- The plan of a trial, which stays in force if the trial is adopted. Up to the checkpoint, where so many items were taken, the earlier
-- plan; from the next item on, or from the start where the checkpoint is the start, the trial's environment, until so many items more
-- were taken than at the failure as an environment is kept; then the base is.
abbrev pub plan_of_trial : ℕ → List Override → ℕ → Env → ℕ → List Override
plan_of_trial keep plan checkpoint env point = record { low = if checkpoint == 0 then 0 else checkpoint + 1; until = point + keep; env = env } ∷ plan

-- A trial is unharmed so far: no byte that it emits differs from the passed byte at its place, it took no item before it had emitted each
-- byte that was passed before that item was received, and it took no more items than the run that failed.
pub record IsUnharmed (pieces : List Send) (point : ℕ) (state : State) : Type 0 where
  pub agrees : Agrees pieces state
  pub feasible : IsFeasible pieces state
  pub early : state.machine.taken ≤ point

-- it has just emitted a byte that differs from the passed byte at its place
pub record IsContradicted (limits : Limits) (items : List Item) (plan : List Override) (checkpoint : Path) (pieces : List Send) (point : ℕ) (path : Path) : Type 0 where
  pub before : Path
  pub from : Served limits items plan checkpoint before
  pub unharmed : IsUnharmed pieces point before.state
  pub next : planned_next limits items plan before ≡ Some path
  pub no_item : path.state.machine.taken ≡ before.state.machine.taken
  pub conn : ℕ
  pub differs : agree (output path.state conn) (sent_to conn pieces) ≡ false

-- it asks for an item that the run that failed had taken, and hasn't emitted each byte that was passed before that item was received
pub record IsBehindAt (limits : Limits) (plan : List Override) (pieces : List Send) (point : ℕ) (path : Path) (item : ℕ) : Type 0 where
  pub early : item < point
  pub asks : AsksFor limits plan path item
  pub behind : ¬ CoversBefore item pieces path.state

-- it has come past the failure: it asks for the item that the run that failed never took, or has ended itself
abbrev pub IsPast : Limits → List Override → ℕ → Path → Type 0
IsPast limits plan point path = AsksFor limits plan path point ⊎ IsSome path.state.ended

-- What came of a trial that goes on from a checkpoint under a plan and now stands here, by what was passed to connections and by the
-- point, the number of items that the run that failed had taken.
abbrev pub ComesTo : Limits → List Item → List Override → Path → List Send → ℕ → Path → Tried → Type 0
ComesTo limits items plan checkpoint pieces point path tried.Asks = IsUnharmed pieces point path.state × AsksFor limits plan path point × Covers pieces path.state
ComesTo limits items plan checkpoint pieces point path (tried.Exits code) = IsUnharmed pieces point path.state × (path.state.ended ≡ Some code) × Covers pieces path.state
ComesTo limits items plan checkpoint pieces point path (tried.Failed cause) = IsUnharmed pieces point path.state × FailsBy limits plan path cause
ComesTo limits items plan checkpoint pieces point path tried.Contradicts = IsContradicted limits items plan checkpoint pieces point path
ComesTo limits items plan checkpoint pieces point path tried.Behind =
    IsUnharmed pieces point path.state × (((item : ℕ) × IsBehindAt limits plan pieces point path item) ⊎ (IsPast limits plan point path × (¬ Covers pieces path.state)))

-- a trial from a checkpoint has come here, and this is its result
pub record IsTrial (limits : Limits) (items : List Item) (plan : List Override) (checkpoint : Path) (pieces : List Send) (point : ℕ) (path : Path) (result : Tried) : Type 0 where
  pub from : Served limits items plan checkpoint path
  pub comes : ComesTo limits items plan checkpoint pieces point path result
