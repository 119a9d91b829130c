-- The turns of a guest are a served run.
use Rattle.guest_cpu.proofs.Terms.{Bool, List, None, Option, Some, [], ap, append-nil, cond, false, leb, length, length-append, refl, subst, sym, true, ℕ, ◌++◌, ◌+◌, ◌∙◌, ◌∷◌, ◌≡◌, same_Some, option_map, Ask, Choice, is_allowed, is_defined, Heap, Env, Instr, BadFree, frees, allocates, allocated, allocation, chooses, Chooses, Effect, Emits, Ends, Fails, Goes, Machine, Wants, after, does, Allocate, Free, Grant, Guest, Limits, Nothing, Path, Request, does_with, grant, granted, guest_of, is_refused, listed, longer, request_of, served_next, serves, site_of, instruction_at, touched, Event, Turn, moved, turn, turn_of, turn_to, written_with, Follows, TurnsServe, standing_of}
use Rattle.guest_cpu.specs.declared.event.Event.TheVariants as event

-- one more instruction, by what the allocator answers and what it does
next_by : (limits : Limits) (env : Env) (path : Path) (given : Option Grant) (e : Effect) → path.state.ended ≡ None → grant env (guest_of path) ≡ given → serves limits env None (guest_of path) ≡ e
    → served_next limits [] env path ≡ option_map (longer path given) (after path.state e)
unfolding served_next
next_by limits env path given e lives gives does_so = rw (lives, gives, does_so) refl

-- an effect that is no failure, and by which the machine doesn't go on
record IsOther (e : Effect) : Type 0 where
  no_failure : (cause : _) → Fails cause ≡ e → ⊥
  no_going : (new : Machine) → Goes new ≡ e → ⊥
  no_wish : (ask : Ask) → Chooses ask ≡ e → ⊥

emits_other : (conn : ℕ) (bytes : List ℕ) (new : Machine) → IsOther (Emits conn bytes new)
emits_other conn bytes new = record { no_failure = λ cause h. cc; no_going = λ m h. cc; no_wish = λ ask h. cc }

ends_other : (code : ℕ) → IsOther (Ends code)
ends_other code = record { no_failure = λ cause h. cc; no_going = λ m h. cc; no_wish = λ ask h. cc }

-- it is what the instruction does
other_of : (b c : Bool) (cause other : _) (inner e : Effect) → ((why : _) → Fails why ≡ e → ⊥) → cond b (Fails cause) (cond c (Fails other) inner) ≡ e → inner ≡ e
other_of true c cause other inner e never h = absurd (never cause h)
other_of false true cause other inner e never h = absurd (never other h)
other_of false false cause other inner e never h = h

other_does : (limits : Limits) (env : Env) (guest : Guest) (e : Effect) → IsOther e → serves limits env None guest ≡ e → does_with (grant env guest) None guest.machine ≡ e
unfolding serves
other_does limits env guest e other h = other_of (leb limits.budget guest.machine.since) (is_refused limits guest.heap (touched guest.machine)) _ _ _ e other.no_failure h

-- no answer of the allocator does it
never_chosen : (m : Machine) (ask : Ask) (choice : Option Choice) (e : Effect) → IsOther e → chooses ask m choice ≡ e → ⊥
never_chosen m ask None e other h = other.no_wish ask h
never_chosen m ask (Some choice) e other h = by (is_allowed m.heap_start m.heap_end m.blocks ask choice) h
  where
    by : (b : Bool) → cond b (Goes (allocated choice m)) (Chooses ask) ≡ e → ⊥
    by true acts = other.no_going (allocated choice m) acts
    by false acts = other.no_wish ask acts

-- nor is it what becomes of an ask
never_asked : (m : Machine) (ask : Ask) (choice : Option Choice) (e : Effect) → IsOther e → allocation ask choice m ≡ e → ⊥
never_asked m ask choice e other h = by (is_defined m.blocks ask) h
  where
    by : (b : Bool) → cond b (chooses ask m choice) (Fails BadFree) ≡ e → ⊥
    by true acts = never_chosen m ask choice e other acts
    by false acts = other.no_failure BadFree acts

-- so nothing was asked of the allocator
idle : (env : Env) (guest : Guest) (given : Grant) (e : Effect) (request : Request) → IsOther e → request_of (instruction_at guest.machine) guest.machine ≡ request → granted env guest.heap (site_of guest.machine) request ≡ Some given
    → does None given.chosen guest.machine ≡ e → given ≡ record { chosen = None; heap = guest.heap }
idle env guest given e (Allocate ask) other asks gives acts =
    absurd (never_asked guest.machine ask given.chosen e other (sym (allocates guest.machine ask asks None given.chosen) ∙ acts))
idle env guest given e (Free at) other asks gives acts = absurd (other.no_going _ (sym (frees guest.machine at asks None given.chosen) ∙ acts))
idle env guest given e Nothing other asks gives acts = sym (same_Some _ given gives)

idle_by : (limits : Limits) (env : Env) (guest : Guest) (given : Grant) (e : Effect) → IsOther e → grant env guest ≡ Some given → serves limits env None guest ≡ e → given ≡ record { chosen = None; heap = guest.heap }
unfolding grant
idle_by limits env guest given e other gives h =
    idle env guest given e (request_of (instruction_at guest.machine) guest.machine) other refl gives
    (subst (λ g. does_with g None guest.machine ≡ e) gives (other_does limits env guest e other h))

-- an instruction that goes on, and is an answer of the allocator or no event
goes_turn : (limits : Limits) (env : Env) (path : Path) (found : Option Instr) (chosen : Option Choice) (heap : Heap) (m : Machine)
    → served_next limits [] env path ≡ Some (longer path (Some (record { chosen = chosen; heap = heap })) (record path.state { machine = m }))
    → Follows limits env path (turn_to (option_map event.Chooses chosen) (moved m heap (standing_of path)) (written_with chosen found path.state.machine))
goes_turn limits env path found None heap m next = record { next = _; adds = (next, append-nil path.choices, refl); stands = refl }
goes_turn limits env path found (Some choice) heap m next = record { next = _; adds = (next, refl, refl); stands = refl }

-- a send
emits_turn : (limits : Limits) (env : Env) (path : Path) (given : Grant) (conn : ℕ) (bytes : List ℕ) (m : Machine) → given ≡ record { chosen = None; heap = path.heap }
    → served_next limits [] env path ≡ Some (longer path (Some given) (record path.state { machine = m; sends = path.state.sends ++ record { conn = conn; bytes = bytes; taken = path.state.machine.taken } ∷ [] }))
    → Follows limits env path (turn_to (Some (event.Emits conn bytes)) (record (moved m given.heap (standing_of path)) { sends = length path.state.sends + 1 }) None)
emits_turn limits env path given conn bytes m none next = record {
  next = _;
  adds = (next, ap (λ (g : Grant). path.choices ++ listed g.chosen) none ∙ append-nil path.choices, refl);
  stands = rw (length-append path.state.sends (record { conn = conn; bytes = bytes; taken = path.state.machine.taken } ∷ [])) refl;
}

-- an exit
ends_turn : (limits : Limits) (env : Env) (path : Path) (given : Grant) (code : ℕ) → given ≡ record { chosen = None; heap = path.heap }
    → served_next limits [] env path ≡ Some (longer path (Some given) (record path.state { ended = Some code }))
    → Follows limits env path (turn_to (Some (event.Exits code)) (record (standing_of path) { steps = path.steps + 1; ended = Some code }) None)
ends_turn limits env path given code none next = record {
  next = _;
  adds = (next, ap (λ (g : Grant). path.choices ++ listed g.chosen) none ∙ append-nil path.choices, refl);
  stands = rw none refl;
}

-- a turn by what the allocator answers and what it does
turn_by : (limits : Limits) (env : Env) (path : Path) (found : Option Instr) (given : Option Grant) (e : Effect) (t : Turn Event) → path.state.ended ≡ None → grant env (guest_of path) ≡ given
    → serves limits env None (guest_of path) ≡ e → served_next limits [] env path ≡ option_map (longer path given) (after path.state e) → turn_of found (standing_of path) given e ≡ Some t → Follows limits env path t
turn_by limits env path found (Some given) (Goes m) t lives gives does_so next turns = subst (Follows limits env path) (same_Some _ t turns) (goes_turn limits env path found given.chosen given.heap m next)
turn_by limits env path found (Some given) (Emits conn bytes m) t lives gives does_so next turns =
    subst (Follows limits env path) (same_Some _ t turns) (emits_turn limits env path given conn bytes m (idle_by limits env (guest_of path) given _ (emits_other conn bytes m) gives does_so) next)
turn_by limits env path found (Some given) (Ends code) t lives gives does_so next turns =
    subst (Follows limits env path) (same_Some _ t turns) (ends_turn limits env path given code (idle_by limits env (guest_of path) given _ (ends_other code) gives does_so) next)
turn_by limits env path found None (Ends code) t lives gives does_so next turns = subst (Follows limits env path) (same_Some _ t turns) (record { next = _; adds = (next, refl, refl); stands = refl })
turn_by limits env path found (Some given) Wants t lives gives does_so next turns = subst (Follows limits env path) (same_Some _ t turns) (record { next = path; adds = refl; stands = refl })
turn_by limits env path found None Wants t lives gives does_so next turns = subst (Follows limits env path) (same_Some _ t turns) (record { next = path; adds = refl; stands = refl })
turn_by limits env path found (Some given) (Fails cause) t lives gives does_so next turns = subst (Follows limits env path) (same_Some _ t turns) (record { next = path; adds = refl; stands = refl })
turn_by limits env path found None (Fails cause) t lives gives does_so next turns = subst (Follows limits env path) (same_Some _ t turns) (record { next = path; adds = refl; stands = refl })
turn_by limits env path found (Some given) (Chooses ask) t lives gives does_so next turns = cc
turn_by limits env path found None (Chooses ask) t lives gives does_so next turns = cc
turn_by limits env path found None (Goes m) t lives gives does_so next turns = cc
turn_by limits env path found None (Emits conn bytes m) t lives gives does_so next turns = cc

pub turns_serve : TurnsServe
unfolding turn
turns_serve limits env path t lives turns =
    turn_by limits env path (instruction_at path.state.machine) (grant env (guest_of path)) (serves limits env None (guest_of path)) t lives refl refl
    (next_by limits env path (grant env (guest_of path)) (serves limits env None (guest_of path)) lives refl refl) turns
