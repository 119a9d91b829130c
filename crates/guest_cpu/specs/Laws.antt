-- What holds of every guest and of the run that it is.
use Rattle.std.specs.Prelude.{◌≡◌, ℕ, Bool, List, Some, None, Result, slice_get}
use Rattle.guest_cpu.specs.Terms.{AllocError, Item, Env, Image, Wants, does, AsksFor, Limits, Override, Path, env_at, origin, Event}
use Rattle.guest_cpu.specs.declared.event.Event.TheVariants as event
use Rattle.guest_cpu.specs.Cpus.{start_standing}
use Rattle.guest_cpu.specs.Receiving.{received_range}
use Rattle.guest_cpu.specs.Running.{RunsBy}
use Rattle.guest_cpu.specs.Serving.{standing_of}
use Rattle.guest_cpu.specs.Standing.{Live, turn, with_range}
use Rattle.guest_cpu.specs.Runs.{IsBounded, RunsOn, TakesOn}
use Rattle.guest_cpu.specs.Writing.{Writes, RunsWriting, TakesWriting}

-- a guest at its start is the run of no instruction
pub record IsStart (image : Image) (budget : ℕ) : Type 0 where
  pub stands : standing_of (origin image) ≡ start_standing image
  pub lives : (origin image).state.ended ≡ None
  pub bounded : IsBounded budget (origin image)

-- that is so of each image and budget
abbrev pub RunsStart : Type 0
RunsStart = (image : Image) (budget : ℕ) → IsStart image budget

-- a guest that runs to its next event in the environment in force is a run that goes on, whatever items were received
abbrev pub RunsServe : Type 0
RunsServe =
    (limits : Limits) (items : List Item) (plan : List Override) (env : Env) (base : ℕ) (first : Path) (old new : Live) (result : Result Event AllocError) →
    first.state.ended ≡ None → env_at limits.base plan first.state.machine.taken ≡ env → old.standing ≡ standing_of first → RunsBy event.Emits (turn limits env) base old result new →
    RunsOn limits items plan first result new.standing

-- and its flags are those of the pages that the run writes
abbrev pub RunsWrite : Type 0
RunsWrite =
    (limits : Limits) (items : List Item) (plan : List Override) (env : Env) (base : ℕ) (first : Path) (old new : Live) (result : Result Event AllocError) →
    first.state.ended ≡ None → env_at limits.base plan first.state.machine.taken ≡ env → old.standing ≡ standing_of first → RunsBy event.Emits (turn limits env) base old result new →
    RunsWriting limits items plan base first old.written result new

-- a run writes the same pages in whatever environments it went from one place to another
abbrev pub WritesOnce : Type 0
WritesOnce =
    (limits : Limits) (items : List Item) (base : ℕ) (first : Path) (before : List Bool) (second : Path) (one other : List Bool) →
    Writes limits items base first before second one → Writes limits items base first before second other → one ≡ other

-- a guest that asks for the item of a number takes it
abbrev pub TakesServe : Type 0
TakesServe =
    (limits : Limits) (items : List Item) (plan : List Override) (first : Path) (item : Item) →
    AsksFor limits plan first first.state.machine.taken → slice_get items first.state.machine.taken ≡ Some item → TakesOn limits items plan first item

-- and writes its bytes
abbrev pub TakesWrite : Type 0
TakesWrite =
    (limits : Limits) (items : List Item) (plan : List Override) (base : ℕ) (first : Path) (before : List Bool) (item : Item) →
    AsksFor limits plan first first.state.machine.taken → slice_get items first.state.machine.taken ≡ Some item →
    TakesWriting limits items plan base first before item (with_range base (received_range item first.state.machine) before)

-- where a run asks for an item, its guest's instruction is a recv whose buffer may be written
abbrev pub AsksWants : Type 0
AsksWants = (limits : Limits) (plan : List Override) (path : Path) (number : ℕ) → AsksFor limits plan path number → does None None path.state.machine ≡ Wants
