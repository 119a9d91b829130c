-- What one more instruction that takes no item changes of a run, and what it keeps.
use Rattle.run_history.proofs.Shapes.{Keeps}
use Rattle.guest_cpu.proofs.Terms.{Bool, None, Option, Some, [], ap, cond, false, sym, true, ◌+◌, ◌<◌, ◌∙◌, ◌≡◌, none-some, same_Some, Ask, Choice, is_allowed, Env, allocated_keeps, serves_to, Alone, Picks, Same, Shape, Takes, does_shape, allocated, chooses, Chooses, Effect, Emits, Ends, Fails, Goes, Machine, State, Wants, after, does, Limits, Path, served_next}

-- what it changes of a state
pub record Moves (s t : State) : Type 0 where
  pub taken : t.machine.taken ≡ s.machine.taken
  pub connections : t.machine.connections ≡ s.machine.connections
  pub since : t.ended ≡ None → t.machine.since ≡ s.machine.since + 1

machine_moves : (s t : State) (new : Machine) (steps : Keeps s.machine new 1) → t.machine ≡ new → Moves s t
machine_moves s t new keeps is = record {
  taken = ap (λ (m : Machine). m.taken) is ∙ keeps.taken;
  connections = ap (λ (m : Machine). m.connections) is ∙ keeps.connections;
  since = λ lives. ap (λ (m : Machine). m.since) is ∙ keeps.since;
}

-- after what an instruction does
alone_moves : (s t : State) (e : Effect) → Alone s.machine e → after s e ≡ Some t → Moves s t
alone_moves s t (Goes new) alone h = machine_moves s t new alone (sym (ap (λ (v : State). v.machine) (same_Some _ t h)))
alone_moves s t (Emits conn bytes new) alone h = machine_moves s t new alone.0 (sym (ap (λ (v : State). v.machine) (same_Some _ t h)))
alone_moves s t (Ends code) alone h =
    let machine : t.machine ≡ s.machine = sym (ap (λ (v : State). v.machine) (same_Some _ t h)) in
    let ended : t.ended ≡ Some code = sym (ap (λ (v : State). v.ended) (same_Some _ t h)) in
    record { taken = ap (λ (m : Machine). m.taken) machine; connections = ap (λ (m : Machine). m.connections) machine; since = λ lives. absurd (none-some code (sym lives ∙ ended)) }
alone_moves s t Wants alone h = absurd alone
alone_moves s t (Chooses ask) alone h = absurd alone
alone_moves s t (Fails cause) alone h = absurd (none-some t h)

-- after an ask
chosen_moves : (s t : State) (ask : Ask) (choice : Option Choice) → after s (chooses ask s.machine choice) ≡ Some t → Moves s t
chosen_moves s t ask None h = absurd (none-some t h)
chosen_moves s t ask (Some choice) h = of_test (is_allowed s.machine.heap_start s.machine.heap_end s.machine.blocks ask choice) h
  where
    of_test : (b : Bool) → after s (cond b (Goes (allocated choice s.machine)) (Chooses ask)) ≡ Some t → Moves s t
    of_test true is =
        let keeps = allocated_keeps choice s.machine in
        let machine : t.machine ≡ allocated choice s.machine = sym (ap (λ (v : State). v.machine) (same_Some _ t is)) in
        record {
          taken = ap (λ (m : Machine). m.taken) machine ∙ keeps.taken;
          connections = ap (λ (m : Machine). m.connections) machine ∙ keeps.connections;
          since = λ lives. ap (λ (m : Machine). m.since) machine ∙ keeps.since;
        }
    of_test false is = absurd (none-some t is)

does_moves : (s t : State) (choice : Option Choice) → after s (does None choice s.machine) ≡ Some t → Moves s t
does_moves s t choice goes = of_shape (does_shape s.machine)
  where
    of_shape : Shape s.machine (λ item choice. does item choice s.machine) → Moves s t
    of_shape (Same e alone is) = alone_moves s t e alone (ap (after s) (sym (is None choice)) ∙ goes)
    of_shape (Takes may is) = absurd (none-some t (ap (after s) (sym (is None choice)) ∙ goes))
    of_shape (Picks ask good is) = chosen_moves s t ask choice (ap (after s) (sym (is None choice)) ∙ goes)

-- one more instruction of a run, without items
pub record OneMore (limits : Limits) (path next : Path) : Type 0 where
  pub lives : path.state.ended ≡ None
  pub early : path.state.machine.since < limits.budget
  pub moves : Moves path.state next.state
  pub steps : next.steps ≡ path.steps + 1

pub one_more : (limits : Limits) (env : Env) (path next : Path) → served_next limits [] env path ≡ Some next → OneMore limits path next
one_more limits env path next goes =
    let parts = serves_to limits [] env path next goes in
    record { lives = parts.lives; early = parts.early; moves = does_moves path.state next.state parts.given.chosen parts.goes; steps = parts.steps }
