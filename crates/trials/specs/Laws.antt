-- What holds of all trials, and of a run that is adopted.
use Rattle.std.specs.Prelude.{◌≡◌, ℕ, ◌+◌, ◌<◌, ◌≤◌, List, [], ◌∷◌, ◌++◌, drop, map, false, None, Some, slice_get}
use Rattle.trials.specs.Terms.{Item, Send, Env, Image, AsksFor, Limits, Override, Path, Served, origin, AreBetween, Covers, IsFeasible, Tried, survives}
use Rattle.trials.specs.Trials.{plan_of_trial, IsUnharmed, IsTrial}
use Rattle.trials.specs.Tables.{Trial, table, WalksOver, IsRight, survivor_in, IsAdopted}
use Rattle.trials.specs.Chains.{IsCheckpoint, AreCheckpoints, AreChained}

-- the environment of a trial, for all counts of items from the start on
abbrev pub everywhere : ℕ → Env → ℕ → List Override
everywhere keep env point = record { low = 0; until = point + keep; env = env } ∷ []

-- Whether a run asks for an item depends on no plan.
abbrev pub AsksUnderAll : Type 0
AsksUnderAll = (limits : Limits) (plan other : List Override) (path : Path) (item : ℕ) → AsksFor limits plan path item → AsksFor limits other path item

-- A run from a checkpoint in one environment is one under the plan of the trial, up to so many items more than the point: at the checkpoint
-- nothing is asked of the allocator before the next item.
abbrev pub TrialServes : Type 0
TrialServes =
    (limits : Limits) (items : List Item) (image : Image) (plan : List Override) (env : Env) (point : ℕ) (checkpoint path : Path) → IsCheckpoint limits image checkpoint → path.state.machine.taken < point + limits.keep →
    Served limits items (everywhere limits.keep env point) checkpoint path → Served limits items (plan_of_trial limits.keep plan checkpoint.state.machine.taken env point) checkpoint path

-- so is its result
abbrev pub TrialComes : Type 0
TrialComes =
    (limits : Limits) (items : List Item) (image : Image) (plan : List Override) (env : Env) (point : ℕ) (checkpoint path : Path) (pieces : List Send) (result : Tried) → 1 ≤ limits.keep → IsCheckpoint limits image checkpoint →
    IsTrial limits items (everywhere limits.keep env point) checkpoint pieces point path result → IsTrial limits items (plan_of_trial limits.keep plan checkpoint.state.machine.taken env point) checkpoint pieces point path result

-- What came of a trial is one: no other result of it is right, and it is found in one place.
abbrev pub OneResult : Type 0
OneResult =
    (limits : Limits) (items : List Item) (plan : List Override) (checkpoint first second : Path) (pieces : List Send) (point : ℕ) (result other : Tried) →
    AreBetween 0 checkpoint.state.machine.taken checkpoint.state.sends →
    IsTrial limits items plan checkpoint pieces point first result → IsTrial limits items plan checkpoint pieces point second other → (first ≡ second) × (result ≡ other)

-- A checkpoint of a ring: the run that failed goes on from it, and it goes on from the start.
abbrev pub ChainedAt : Type 0
ChainedAt =
    (limits : Limits) (items : List Item) (plan : List Override) (image : Image) (later : Path) (ring : List Path) (index : ℕ) (checkpoint : Path) → AreChained limits items plan image later ring → slice_get ring index ≡ Some checkpoint →
    Served limits items plan checkpoint later × Served limits items plan (origin image) checkpoint

-- The oldest checkpoint may be dropped.
abbrev pub ChainedDrop : Type 0
ChainedDrop =
    (limits : Limits) (items : List Item) (plan : List Override) (image : Image) (later oldest : Path) (ring : List Path) → AreChained limits items plan image later (ring ++ oldest ∷ []) → AreChained limits items plan image later ring

-- A trial that is adopted: the checkpoints up to its own and the trial are a chain under its plan.
abbrev pub ChainedAdopt : Type 0
ChainedAdopt =
    (limits : Limits) (items : List Item) (plan : List Override) (image : Image) (env : Env) (point : ℕ) (later path : Path) (ring : List Path) (index : ℕ) (checkpoint : Path) → AreChained limits items plan image later ring →
    AreCheckpoints limits image ring → slice_get ring index ≡ Some checkpoint → Served limits items (plan_of_trial limits.keep plan checkpoint.state.machine.taken env point) checkpoint path →
    AreChained limits items (plan_of_trial limits.keep plan checkpoint.state.machine.taken env point) image path (drop index ring) × AreCheckpoints limits image (drop index ring)

-- The run that failed is unharmed at each of its checkpoints, where it emits what was passed, and in time.
abbrev pub CheckpointUnharmed : Type 0
CheckpointUnharmed =
    (limits : Limits) (items : List Item) (plan : List Override) (checkpoint failed : Path) (pieces : List Send) → AreBetween 0 checkpoint.state.machine.taken checkpoint.state.sends → Served limits items plan checkpoint failed →
    Covers pieces failed.state → IsFeasible pieces failed.state → IsUnharmed pieces failed.state.machine.taken checkpoint.state

-- Where no trial of a whole table survives, none can: each chance of it, tried again, has the result that it had.
abbrev pub NoneSurvives : Type 0
NoneSurvives =
    (limits : Limits) (items : List Item) (plan : List Override) (pieces : List Send) (point : ℕ) (ring : List Path) (trials : List Trial) →
    ((checkpoint : Path) (index : ℕ) → slice_get ring index ≡ Some checkpoint → AreBetween 0 checkpoint.state.machine.taken checkpoint.state.sends) →
    WalksOver limits items plan pieces point (table ring) trials → ((trial : Trial) (index : ℕ) → slice_get trials index ≡ Some trial → survives trial.result ≡ false) →
    (other : Trial) (index : ℕ) → slice_get (table ring) index ≡ Some other.chance → IsRight limits items plan pieces point other → survives other.result ≡ false

-- A walk over a table has one list of trials.
abbrev pub OneWalk : Type 0
OneWalk =
    (limits : Limits) (items : List Item) (plan : List Override) (pieces : List Send) (point : ℕ) (ring : List Path) (trials others : List Trial) →
    ((checkpoint : Path) (index : ℕ) → slice_get ring index ≡ Some checkpoint → AreBetween 0 checkpoint.state.machine.taken checkpoint.state.sends) →
    WalksOver limits items plan pieces point (table ring) trials → WalksOver limits items plan pieces point (table ring) others → trials ≡ others

-- It ends with a trial that survives, behind others that don't; or at the end of the table, with none.
abbrev pub WalkAdopts : Type 0
WalkAdopts =
    (limits : Limits) (items : List Item) (plan : List Override) (pieces : List Send) (point : ℕ) (ring : List Path) (trials : List Trial) (trial : Trial) → WalksOver limits items plan pieces point (table ring) trials →
    survivor_in trials ≡ Some trial → IsAdopted limits items plan pieces point ring trials trial

abbrev pub WalkGivesUp : Type 0
WalkGivesUp =
    (limits : Limits) (items : List Item) (plan : List Override) (pieces : List Send) (point : ℕ) (ring : List Path) (trials : List Trial) → WalksOver limits items plan pieces point (table ring) trials → survivor_in trials ≡ None →
    (map (λ (trial : Trial). trial.chance) trials ≡ table ring) × ((trial : Trial) (index : ℕ) → slice_get trials index ≡ Some trial → survives trial.result ≡ false)
