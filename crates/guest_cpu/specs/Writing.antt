-- Which pages of its window a run writes.
use Rattle.std.specs.Prelude.{◌≡◌, ℕ, Bool, List, [], ◌∷◌, Option, Some, None, Result, slice_get}
use Rattle.guest_cpu.specs.Terms.{AllocError, Item, Env, Effect, Goes, Machine, Wants, Grant, Limits, Override, Path, grant, guest_of, served_next, serves, Range, instruction_at, Event}
use Rattle.guest_cpu.specs.Receiving.{received_range}
use Rattle.guest_cpu.specs.Standing.{Live, with_range, written_with}
use Rattle.guest_cpu.specs.Runs.{RunsOn, TakesOn}

-- The bytes that an instruction writes, by what it does without an item: those of the item that it takes, of a new block that are set, or a store's.
abbrev pub written_by : Effect → Option Item → Option Grant → Machine → Option Range
written_by Wants (Some item) granted m = received_range item m
written_by (Goes after) item (Some granted) m = written_with granted.chosen (instruction_at m) m
written_by _ item granted m = None

-- so a run's next instruction in an environment
abbrev pub writes : Limits → List Item → Env → Path → Option Range
writes limits items env path = written_by (serves limits env None (guest_of path)) (slice_get items path.state.machine.taken) (grant env (guest_of path)) path.state.machine

-- A run goes on by one instruction in each of these environments. For each page of a window from a base on it is told whether a byte of it was written:
-- by these flags before, and by those then.
abbrev pub WritesIn : Limits → List Item → ℕ → List Env → Path → List Bool → Path → List Bool → Type 0
WritesIn limits items base [] first before second after = (second ≡ first) × (after ≡ before)
WritesIn limits items base (env ∷ envs) first before second after =
    (next : Path) × (served_next limits items env first ≡ Some next) × WritesIn limits items base envs next (with_range base (writes limits items env first) before) second after

-- so in some environments
pub record Writes (limits : Limits) (items : List Item) (base : ℕ) (first : Path) (before : List Bool) (second : Path) (after : List Bool) : Type 0 where
  pub envs : List Env
  pub goes : WritesIn limits items base envs first before second after

-- a guest has run to an event, and its flags are those of the run that goes on
pub record RunsWriting (limits : Limits) (items : List Item) (plan : List Override) (base : ℕ) (first : Path) (before : List Bool) (result : Result Event AllocError) (new : Live) : Type 0 where
  pub ran : RunsOn limits items plan first result new.standing
  pub wrote : Writes limits items base first before ran.now new.written

-- so where a run takes an item
pub record TakesWriting (limits : Limits) (items : List Item) (plan : List Override) (base : ℕ) (first : Path) (before : List Bool) (item : Item) (new : List Bool) : Type 0 where
  pub took : TakesOn limits items plan first item
  pub wrote : Writes limits items base first before took.now new
