-- What a guest does next in an environment, by what its instruction comes to.
use Rattle.guest_cpu.proofs.Terms.{Bool, None, Option, Some, ap, arith, cond, false, leb, refl, subst, sym, true, ◌<◌, ◌∙◌, ◌≡◌, ◌≤◌, none-some, same_Some, Choice, Heap, Env, Instr, Ecall, Cause, BadAccess, Hang, frees, allocates, allocation, free, Chooses, Effect, Fails, Machine, does, Allocate, Free, Grant, Limits, Nothing, Request, does_with, grant, granted, is_refused, request_of, serves, site_of, Range, instruction_at, touched, GuestPages, AreWindows, limits_of, Event, Met, Standing, Turn, turn, turn_of, turn_to, IsSend, Turned, Wrote, meeting, meeting_by, meeting_of, allocating, answered_with, freeing}
use Rattle.guest_cpu.specs.declared.event.Event.TheVariants as event
use Rattle.guest_space.specs.declared.window.Windows.{Windows}
use Rattle.guest_cpu.specs.declared.event.Met.TheVariants as met

-- the windows of a memory that is as it was
pub windows_there : {old new : GuestPages} {windows : Windows} → new ≡ old → AreWindows old windows → AreWindows new windows
windows_there {windows} same holds = subst (λ (space : GuestPages). AreWindows space windows) (sym same) holds

-- a cause fails, whatever the allocator answered
turn_failed : (found : Option Instr) (s : Standing) (given : Option Grant) (cause : Cause) → turn_of found s given (Fails cause) ≡ Some (turn_to (Some (event.Failed cause)) s None)
turn_failed found s None cause = refl
turn_failed found s (Some grant) cause = refl

pub turn_hangs : (limits : Limits) (env : Env) (s : Standing) → limits.budget ≤ s.guest.machine.since → turn limits env s ≡ Some (turn_to (Some (event.Failed Hang)) s None)
unfolding turn serves
turn_hangs limits env s late =
    let past : leb limits.budget s.guest.machine.since ≡ true = grind arith in
    rw past (turn_failed (instruction_at s.guest.machine) s (grant env s.guest) Hang)

-- the turn of what an instruction comes to
abbrev pub in_env : Env → Standing → Option Met → Turn Met → Option (Turn Event)
in_env env s None t = Some (turn_to None t.standing t.written)
in_env env s (Some met.Asks) t = Some (turn_to (Some event.Asks) t.standing t.written)
in_env env s (Some (met.Emits conn bytes)) t = Some (turn_to (Some (event.Emits conn bytes)) t.standing t.written)
in_env env s (Some (met.Allocates ask)) t = allocating env s ask
in_env env s (Some (met.Frees at)) t = freeing env s at
in_env env s (Some (met.Exits code)) t = Some (turn_to (Some (event.Exits code)) t.standing t.written)
in_env env s (Some (met.Failed cause)) t = Some (turn_to (Some (event.Failed cause)) t.standing t.written)

-- it is that one
is_in_env : (env : Env) (s : Standing) {first t : Turn Met} → Some first ≡ Some t → in_env env s first.event first ≡ in_env env s t.event t
is_in_env env s {first = first} {t = t} h = ap (λ (one : Turn Met). in_env env s one.event one) (same_Some first t h)

-- what asks of the allocator is a call
pub asks_at : (found : Option Instr) (m : Machine) (request : Request) → request_of found m ≡ request → (Nothing ≡ request → ⊥) → found ≡ Some Ecall
asks_at None m request is never = absurd (never is)
asks_at (Some Ecall) m request is never = refl
asks_at (Some _) m request is never = absurd (never is)

-- what it does with the answer
with_answer : (s : Standing) (given : Option Grant) (acts : Option Choice → Effect) → ((choice : Option Choice) → does None choice s.guest.machine ≡ acts choice)
    → turn_of (Some Ecall) s given (does_with given None s.guest.machine) ≡ answered_with given acts s
with_answer s None acts does_so = refl
with_answer s (Some given) acts does_so = ap (turn_of (Some Ecall) s (Some given)) (does_so given.chosen)

asked_turn : (env : Env) (s : Standing) (request : Request) (acts : Option Choice → Effect) → request_of (instruction_at s.guest.machine) s.guest.machine ≡ request → (Nothing ≡ request → ⊥)
    → ((choice : Option Choice) → does None choice s.guest.machine ≡ acts choice)
    → turn_of (instruction_at s.guest.machine) s (granted env s.guest.heap (site_of s.guest.machine) request) (does_with (granted env s.guest.heap (site_of s.guest.machine) request) None s.guest.machine) ≡ answered_with (granted env s.guest.heap (site_of s.guest.machine) request) acts s
asked_turn env s request acts is never does_so =
    rw (asks_at (instruction_at s.guest.machine) s.guest.machine request is never) (with_answer s (granted env s.guest.heap (site_of s.guest.machine) request) acts does_so)

-- an instruction that asks nothing
unasked_turn : (env : Env) (s : Standing) (found : Option Instr) (e : Effect) (t : Turn Met) → meeting_of found s e ≡ Some t → turn_of found s (granted env s.guest.heap (site_of s.guest.machine) Nothing) e ≡ in_env env s t.event t
unasked_turn env s found (Chooses ask) t h = absurd (none-some t h)
unasked_turn env s found _ t h = is_in_env env s h

by_request : (env : Env) (s : Standing) (t : Turn Met) (request : Request) → request_of (instruction_at s.guest.machine) s.guest.machine ≡ request
    → meeting_by (instruction_at s.guest.machine) request s (does None None s.guest.machine) ≡ Some t
    → turn_of (instruction_at s.guest.machine) s (granted env s.guest.heap (site_of s.guest.machine) request) (does_with (granted env s.guest.heap (site_of s.guest.machine) request) None s.guest.machine) ≡ in_env env s t.event t
by_request env s t (Allocate ask) is h =
    asked_turn env s (Allocate ask) (λ choice. allocation ask choice s.guest.machine) is (λ (e : Nothing ≡ Allocate ask). cc) (allocates s.guest.machine ask is None) ∙ is_in_env env s h
by_request env s t (Free at) is h =
    asked_turn env s (Free at) (λ choice. free s.guest.machine) is (λ (e : Nothing ≡ Free at). cc) (frees s.guest.machine at is None) ∙ is_in_env env s h
by_request env s t Nothing is h = unasked_turn env s (instruction_at s.guest.machine) (does None None s.guest.machine) t h

-- a rule refuses by what it permits alone
refused_as : (limits : Limits) (heap : Heap) (range : Option Range) → is_refused limits heap range ≡ is_refused (limits_of 0 limits.permits) heap range
refused_as limits heap None = refl
refused_as limits heap (Some range) = refl

by_rule : (limits : Limits) (env : Env) (s : Standing) (t : Turn Met) (bars : Bool) → is_refused (limits_of 0 limits.permits) s.guest.heap (touched s.guest.machine) ≡ bars → meeting limits.permits s ≡ Some t
    → turn_of (instruction_at s.guest.machine) s (grant env s.guest) (cond (is_refused limits s.guest.heap (touched s.guest.machine)) (Fails BadAccess) (does_with (grant env s.guest) None s.guest.machine)) ≡ in_env env s t.event t
unfolding grant meeting
by_rule limits env s t true is h =
    rw (refused_as limits s.guest.heap (touched s.guest.machine) ∙ is) (turn_failed (instruction_at s.guest.machine) s (grant env s.guest) BadAccess ∙ is_in_env env s (rw is at h))
by_rule limits env s t false is h =
    rw (refused_as limits s.guest.heap (touched s.guest.machine) ∙ is) (by_request env s t (request_of (instruction_at s.guest.machine) s.guest.machine) refl (rw is at h))

-- within the budget
turn_early : (limits : Limits) (env : Env) (s : Standing) → s.guest.machine.since < limits.budget
    → turn limits env s ≡ turn_of (instruction_at s.guest.machine) s (grant env s.guest) (cond (is_refused limits s.guest.heap (touched s.guest.machine)) (Fails BadAccess) (does_with (grant env s.guest) None s.guest.machine))
unfolding turn serves
turn_early limits env s early = let within : leb limits.budget s.guest.machine.since ≡ false = grind arith in rw within refl

turn_meets : (limits : Limits) (env : Env) (s : Standing) (t : Turn Met) → s.guest.machine.since < limits.budget → meeting limits.permits s ≡ Some t → turn limits env s ≡ in_env env s t.event t
turn_meets limits env s t early h = turn_early limits env s early ∙ by_rule limits env s t (is_refused (limits_of 0 limits.permits) s.guest.heap (touched s.guest.machine)) refl h

-- so is what it came to, or what the allocator answers then
pub turned_in : (limits : Limits) (env : Env) (s : Standing) {after new : Standing} {was : Option Met} {came : Option Event} {old_space met_space new_space : GuestPages} → s.guest.machine.since < limits.budget
    → Turned (meeting limits.permits s) was after old_space met_space
    → ((written : Option Range) → Wrote written old_space met_space → Turned (in_env env s was (turn_to was after written)) came new old_space new_space) → Turned (turn limits env s) came new old_space new_space
turned_in limits env s early turned answer =
    let answered = answer turned.written turned.wrote in
    record { written = answered.written; turns = turn_meets limits env s _ early turned.turns ∙ answered.turns; wrote = answered.wrote }

-- or it is a send
pub sends_in : (limits : Limits) (env : Env) (s : Standing) → s.guest.machine.since < limits.budget → IsSend met.Emits (meeting limits.permits s) → IsSend event.Emits (turn limits env s)
sends_in limits env s early send = record {
  conn = send.conn;
  bytes = send.bytes;
  turn = turn_to (Some (event.Emits send.conn send.bytes)) send.turn.standing send.turn.written;
  turns = turn_meets limits env s send.turn early send.turns ∙ ap (λ came. in_env env s came send.turn) send.is;
  is = refl;
}
