-- What a turn wrote is what the run's instruction writes.
use Rattle.guest_cpu.proofs.Terms.{List, None, Option, Some, refl, subst, ◌≡◌, none-some, same_Some, option_map, slice_get, Item, Choice, Env, Chooses, Effect, Emits, Ends, Fails, Goes, Wants, Grant, Limits, Path, grant, guest_of, serves, Range, instruction_at, Event, Standing, Turn, turn, turn_of, written_with, standing_of, writes, written_by}
use Rattle.guest_cpu.specs.declared.event.Event.TheVariants as event

-- what was written where a turn is this event, beside what an instruction writes: nothing where none was done
abbrev pub WritesAs : Option Event → Option Range → Option Range → Type 0
WritesAs (Some event.Asks) wrote range = wrote ≡ None
WritesAs (Some (event.Failed cause)) wrote range = wrote ≡ None
WritesAs _ wrote range = wrote ≡ range

-- an instruction that goes on, and is an answer of the allocator or no event
goes_as : (chosen : Option Choice) (range : Option Range) → WritesAs (option_map event.Chooses chosen) range range
goes_as None range = refl
goes_as (Some choice) range = refl

-- a turn by what the allocator answers and what it does
written_as : (s : Standing) (given : Option Grant) (e : Effect) (item : Option Item) (t : Turn Event) → turn_of (instruction_at s.guest.machine) s given e ≡ Some t → WritesAs t.event t.written (written_by e item given s.guest.machine)
written_as s (Some given) (Goes m) item t turns =
    subst (λ (u : Turn Event). WritesAs u.event u.written (written_with given.chosen (instruction_at s.guest.machine) s.guest.machine)) (same_Some _ t turns)
    (goes_as given.chosen (written_with given.chosen (instruction_at s.guest.machine) s.guest.machine))
written_as s (Some given) (Emits conn bytes m) item t turns = subst (λ (u : Turn Event). WritesAs u.event u.written None) (same_Some _ t turns) refl
written_as s (Some given) (Ends code) item t turns = subst (λ (u : Turn Event). WritesAs u.event u.written None) (same_Some _ t turns) refl
written_as s None (Ends code) item t turns = subst (λ (u : Turn Event). WritesAs u.event u.written None) (same_Some _ t turns) refl
written_as s (Some given) Wants item t turns = subst (λ (u : Turn Event). WritesAs u.event u.written (written_by Wants item (Some given) s.guest.machine)) (same_Some _ t turns) refl
written_as s None Wants item t turns = subst (λ (u : Turn Event). WritesAs u.event u.written (written_by Wants item None s.guest.machine)) (same_Some _ t turns) refl
written_as s (Some given) (Fails cause) item t turns = subst (λ (u : Turn Event). WritesAs u.event u.written None) (same_Some _ t turns) refl
written_as s None (Fails cause) item t turns = subst (λ (u : Turn Event). WritesAs u.event u.written None) (same_Some _ t turns) refl
written_as s (Some given) (Chooses ask) item t turns = absurd (none-some t turns)
written_as s None (Chooses ask) item t turns = absurd (none-some t turns)
written_as s None (Goes m) item t turns = absurd (none-some t turns)
written_as s None (Emits conn bytes m) item t turns = absurd (none-some t turns)

pub turn_writes : (limits : Limits) (items : List Item) (env : Env) (path : Path) (t : Turn Event) → turn limits env (standing_of path) ≡ Some t → WritesAs t.event t.written (writes limits items env path)
unfolding turn
turn_writes limits items env path t turns =
    written_as (standing_of path) (grant env (guest_of path)) (serves limits env None (guest_of path)) (slice_get items path.state.machine.taken) t turns
