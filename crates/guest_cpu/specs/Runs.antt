-- What the calls of a guest do to the run that it is.
use Rattle.std.specs.Prelude.{◌≡◌, ℕ, ◌+◌, ◌*◌, ◌<◌, ◌≤◌, List, [], ◌∷◌, ◌++◌, length, true, Some, None, Result, Ok, Err}
use Rattle.guest_cpu.specs.Terms.{AllocError, Item, connections_after, may_send, AsksFor, FailsBy, Limits, Override, Path, Event}
use Rattle.guest_cpu.specs.declared.event.Event.TheVariants as event
use Rattle.run_history.specs.Served.{Served}
use Rattle.guest_cpu.specs.Receiving.{taken_standing}
use Rattle.guest_cpu.specs.Serving.{standing_of}
use Rattle.guest_cpu.specs.Standing.{Standing}

-- A run that hasn't ended is bounded: since its last item it has no more instructions than the budget, and in all no more than that
-- and one recv for each item, and those since the last one.
pub record IsBounded (budget : ℕ) (path : Path) : Type 0 where
  pub since : path.state.machine.since ≤ budget
  pub steps : path.steps ≤ path.state.machine.taken * (budget + 1) + path.state.machine.since

-- a run goes on under a plan, and takes no item
pub record GoesOn (limits : Limits) (items : List Item) (plan : List Override) (first second : Path) : Type 0 where
  pub served : Served limits items plan first second
  pub taken : second.state.machine.taken ≡ first.state.machine.taken
  pub connections : second.state.machine.connections ≡ first.state.machine.connections
  pub later : first.steps ≤ second.steps
  pub bounded : second.state.ended ≡ None → IsBounded limits.budget first → IsBounded limits.budget second

-- nothing was sent, and no answer of the allocator was used
pub record IsSilent (first second : Path) : Type 0 where
  pub choices : second.choices ≡ first.choices
  pub sends : second.state.sends ≡ first.state.sends

-- What an event of a guest says of its run: by the first run, which comes to this event, and the second, which it then is.
abbrev pub ComesTo : Limits → List Override → Path → Event → Path → Type 0
ComesTo limits plan first event.Asks second = IsSilent first second × AsksFor limits plan second first.state.machine.taken
ComesTo limits plan first (event.Emits conn bytes) second =
    (second.choices ≡ first.choices) × (second.state.sends ≡ first.state.sends ++ record { conn = conn; bytes = bytes; taken = first.state.machine.taken } ∷ [])
    × (may_send first.state.machine conn ≡ true) × (0 < length bytes) × (length bytes ≤ 65535) × (second.state.ended ≡ None) × (first.steps < second.steps)
ComesTo limits plan first (event.Chooses choice) second =
    (second.choices ≡ first.choices ++ choice ∷ []) × (second.state.sends ≡ first.state.sends) × (second.state.ended ≡ None) × (first.steps < second.steps)
ComesTo limits plan first (event.Exits code) second = IsSilent first second × (second.state.ended ≡ Some code)
ComesTo limits plan first (event.Failed cause) second = IsSilent first second × FailsBy limits plan second cause

-- at Ok it came to an event; after an Err it goes on still, and sent nothing
abbrev pub ComesBy : Limits → List Override → Path → Result Event AllocError → Path → Type 0
ComesBy limits plan first (Ok event) second = ComesTo limits plan first event second
ComesBy limits plan first (Err fault) second = IsSilent first second × (second.state.ended ≡ None)

-- a guest that stood where a run stands has run to an event, and stands where a run stands that goes on from there
pub record RunsOn (limits : Limits) (items : List Item) (plan : List Override) (first : Path) (result : Result Event AllocError) (standing : Standing) : Type 0 where
  pub now : Path
  pub stands : standing_of now ≡ standing
  pub goes : GoesOn limits items plan first now
  pub comes : ComesBy limits plan first result now

-- a run takes an item: one more instruction
pub record TakesOn (limits : Limits) (items : List Item) (plan : List Override) (first : Path) (item : Item) : Type 0 where
  pub now : Path
  pub stands : standing_of now ≡ taken_standing item (standing_of first)
  pub served : Served limits items plan first now
  pub silent : IsSilent first now
  pub lives : now.state.ended ≡ None
  pub taken : now.state.machine.taken ≡ first.state.machine.taken + 1
  pub connections : now.state.machine.connections ≡ connections_after item first.state.machine.connections
  pub steps : now.steps ≡ first.steps + 1
  pub bounded : IsBounded limits.budget first → IsBounded limits.budget now
