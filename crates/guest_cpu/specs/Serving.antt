-- The turns of a guest are a served run.
use Rattle.std.specs.Prelude.{◌≡◌, [], ◌∷◌, ◌++◌, length, Option, Some, None}
use Rattle.guest_cpu.specs.Terms.{Env, Limits, Path, guest_of, served_next, Event}
use Rattle.guest_cpu.specs.declared.event.Event.TheVariants as event
use Rattle.guest_cpu.specs.Standing.{Standing, Turn, turn}

-- where the guest of a run stands
abbrev pub standing_of : Path → Standing
standing_of path = record { guest = guest_of path; sends = length path.state.sends; steps = path.steps; ended = path.state.ended }

-- what a turn that is this event adds to a run, of which it is one more instruction; one that asks or fails adds nothing
abbrev pub Adds : Limits → Env → Path → Option Event → Path → Type 0
Adds limits env path None next = (served_next limits [] env path ≡ Some next) × (next.choices ≡ path.choices) × (next.state.sends ≡ path.state.sends)
Adds limits env path (Some (event.Chooses choice)) next = (served_next limits [] env path ≡ Some next) × (next.choices ≡ path.choices ++ choice ∷ []) × (next.state.sends ≡ path.state.sends)
Adds limits env path (Some (event.Emits conn bytes)) next =
    (served_next limits [] env path ≡ Some next) × (next.choices ≡ path.choices)
    × (next.state.sends ≡ path.state.sends ++ record { conn = conn; bytes = bytes; taken = path.state.machine.taken } ∷ [])
Adds limits env path (Some (event.Exits code)) next = (served_next limits [] env path ≡ Some next) × (next.choices ≡ path.choices) × (next.state.sends ≡ path.state.sends)
Adds limits env path (Some _) next = next ≡ path

-- from a run that goes on, a turn leads to where the run then stands
pub record Follows (limits : Limits) (env : Env) (path : Path) (t : Turn Event) : Type 0 where
  pub next : Path
  pub adds : Adds limits env path t.event next
  pub stands : standing_of next ≡ t.standing

-- that is so of each turn of a run that goes on, in each environment
abbrev pub TurnsServe : Type 0
TurnsServe = (limits : Limits) (env : Env) (path : Path) (t : Turn Event) → path.state.ended ≡ None → turn limits env (standing_of path) ≡ Some t → Follows limits env path t
