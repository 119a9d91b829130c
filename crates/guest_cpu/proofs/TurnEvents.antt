-- What the event of a turn says of what is served, and of the end of the guest.
use Rattle.guest_cpu.proofs.Terms.{Bool, List, None, Option, Some, cond, false, leb, refl, subst, sym, true, ℕ, ◌∙◌, ◌≡◌, none-some, same_Some, option_map, Ask, Choice, is_allowed, Heap, Env, Instr, Cause, BadAccess, Hang, Alone, MaySend, Picks, Same, Shape, Takes, does_shape, allocated, chooses, Chooses, Effect, Emits, Ends, Fails, Goes, Machine, Wants, does, Grant, Guest, Limits, does_with, grant, is_refused, serves, instruction_at, touched, Event, Standing, Turn, moved, turn, turn_of}
use Rattle.guest_cpu.specs.declared.event.Event.TheVariants as event

-- what is served where a turn is this event, and whether the guest has ended behind it
abbrev pub Means : Limits → Env → Standing → Option Event → Standing → Type 0
Means limits env old (Some event.Asks) new = serves limits env None old.guest ≡ Wants
Means limits env old (Some (event.Emits conn bytes)) new = (MaySend old.guest.machine conn bytes) × (new.ended ≡ old.ended)
Means limits env old (Some (event.Exits code)) new = new.ended ≡ Some code
Means limits env old (Some (event.Failed cause)) new = serves limits env None old.guest ≡ Fails cause
Means limits env old _ new = new.ended ≡ old.ended

-- what is served is what the instruction does, unless it fails before
pub served_does : (limits : Limits) (env : Env) (guest : Guest) (e : Effect) → ((cause : Cause) → Fails cause ≡ e → ⊥) → serves limits env None guest ≡ e
    → (given : Grant) × (grant env guest ≡ Some given) × (does None given.chosen guest.machine ≡ e) × (leb limits.budget guest.machine.since ≡ false) × (is_refused limits guest.heap (touched guest.machine) ≡ false)
unfolding serves
served_does limits env guest e never h = of_late (leb limits.budget guest.machine.since) (is_refused limits guest.heap (touched guest.machine)) (grant env guest) h
  where
    of_late : (late refused : Bool) (given : Option Grant) → cond late (Fails Hang) (cond refused (Fails BadAccess) (does_with given None guest.machine)) ≡ e
        → (found : Grant) × (given ≡ Some found) × (does None found.chosen guest.machine ≡ e) × (late ≡ false) × (refused ≡ false)
    of_late true refused given was = absurd (never Hang was)
    of_late false true given was = absurd (never BadAccess was)
    of_late false false None was = absurd (never _ was)
    of_late false false (Some found) was = (found, refl, was, refl, refl)

-- an instruction that emits does so with any answer of the allocator, and may send
emits_may : (m new : Machine) (chosen : Option Choice) (conn : ℕ) (bytes : List ℕ) → does None chosen m ≡ Emits conn bytes new → MaySend m conn bytes
emits_may m new chosen conn bytes acts = of_shape (does_shape m)
  where
    of_alone : (e : Effect) → Alone m e → e ≡ Emits conn bytes new → MaySend m conn bytes
    of_alone e alone is = (subst (Alone m) is alone).1

    of_chosen : (ask : Ask) (choice : Option Choice) → chooses ask m choice ≡ Emits conn bytes new → ⊥
    of_chosen ask None h = cc
    of_chosen ask (Some choice) h = of_test (is_allowed m.heap_start m.heap_end m.blocks ask choice) h
      where
        of_test : (b : Bool) → cond b (Goes (allocated choice m)) (Chooses ask) ≡ Emits conn bytes new → ⊥
        of_test true is = cc
        of_test false is = cc

    of_shape : Shape m (λ item choice. does item choice m) → MaySend m conn bytes
    of_shape (Same e alone is) = of_alone e alone (sym (is None chosen) ∙ acts)
    of_shape (Takes may is) = let wants : Wants ≡ Emits conn bytes new = sym (is None chosen) ∙ acts in absurd (cc)
    of_shape (Picks ask good is) = absurd (of_chosen ask chosen (sym (is None chosen) ∙ acts))

served_may : (limits : Limits) (env : Env) (guest : Guest) (new : Machine) (conn : ℕ) (bytes : List ℕ) → serves limits env None guest ≡ Emits conn bytes new → MaySend guest.machine conn bytes
served_may limits env guest new conn bytes h =
    let parts = served_does limits env guest (Emits conn bytes new) (λ cause e. cc) h in emits_may guest.machine new parts.0.chosen conn bytes parts.2

-- an instruction that goes on, and is an answer of the allocator or no event
goes_means : (limits : Limits) (env : Env) (s : Standing) (found : Option Instr) (chosen : Option Choice) (heap : Heap) (m : Machine)
    → Means limits env s (option_map event.Chooses chosen) (moved m heap s)
goes_means limits env s found None heap m = refl
goes_means limits env s found (Some choice) heap m = refl

-- a turn by what the allocator answers and what it does
means_by : (limits : Limits) (env : Env) (s : Standing) (found : Option Instr) (given : Option Grant) (e : Effect) (t : Turn Event) → serves limits env None s.guest ≡ e → turn_of found s given e ≡ Some t
    → Means limits env s t.event t.standing
means_by limits env s found (Some given) (Goes m) t does_so turns = subst (λ (u : Turn Event). Means limits env s u.event u.standing) (same_Some _ t turns) (goes_means limits env s found given.chosen given.heap m)
means_by limits env s found (Some given) (Emits conn bytes m) t does_so turns =
    subst (λ (u : Turn Event). Means limits env s u.event u.standing) (same_Some _ t turns) (served_may limits env s.guest m conn bytes does_so, refl)
means_by limits env s found (Some given) (Ends code) t does_so turns = subst (λ (u : Turn Event). Means limits env s u.event u.standing) (same_Some _ t turns) refl
means_by limits env s found None (Ends code) t does_so turns = subst (λ (u : Turn Event). Means limits env s u.event u.standing) (same_Some _ t turns) refl
means_by limits env s found (Some given) Wants t does_so turns = subst (λ (u : Turn Event). Means limits env s u.event u.standing) (same_Some _ t turns) does_so
means_by limits env s found None Wants t does_so turns = subst (λ (u : Turn Event). Means limits env s u.event u.standing) (same_Some _ t turns) does_so
means_by limits env s found (Some given) (Fails cause) t does_so turns = subst (λ (u : Turn Event). Means limits env s u.event u.standing) (same_Some _ t turns) does_so
means_by limits env s found None (Fails cause) t does_so turns = subst (λ (u : Turn Event). Means limits env s u.event u.standing) (same_Some _ t turns) does_so
means_by limits env s found (Some given) (Chooses ask) t does_so turns = absurd (none-some t turns)
means_by limits env s found None (Chooses ask) t does_so turns = absurd (none-some t turns)
means_by limits env s found None (Goes m) t does_so turns = absurd (none-some t turns)
means_by limits env s found None (Emits conn bytes m) t does_so turns = absurd (none-some t turns)

pub turn_means : (limits : Limits) (env : Env) (s : Standing) (t : Turn Event) → turn limits env s ≡ Some t → Means limits env s t.event t.standing
unfolding turn
turn_means limits env s t turns = means_by limits env s (instruction_at s.guest.machine) (grant env s.guest) (serves limits env None s.guest) t refl turns
