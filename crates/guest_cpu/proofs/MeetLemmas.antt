-- What an instruction comes to before the allocator is asked.
use Rattle.std.proofs.Common.{Err, Ok}
use Rattle.call_gate.specs.declared.call.Call.TheVariants as kind
use Rattle.call_gate.proofs.CallLemmas.{CallIs, CheckSays, call_is, check_says, recv_takes, send_sends, allowed_never, does_call}
use Rattle.call_gate.specs.declared.call.Call.{Call}
use Rattle.call_gate.specs.Calls.{called}
use Rattle.call_gate.specs.Checks.{checked}
use Rattle.guest_cpu.proofs.Terms.{AllocError, Bool, None, Option, Result, Some, ap, cond, false, inl, inr, refl, sym, true, ℕ, ◌+◌, ◌∙◌, ◌≡◌, ◌≢◌, cases_Bool, Heap, Instr, Ecall, row, execute, permitted, Cause, AssertFailed, BadAccess, BadInstruction, allocation, call, free, Effect, Ends, Fails, Machine, Wants, register, does, instruction, word_at, Allocate, Free, Nothing, Request, is_refused, request_of, call_buffer, instruction_at, touched, touched_by, GuestPages, fetched, or_bad, limits_of, under, Met, Standing, Turn, turn_to, MetStays, Turned, meeting, meeting_by, meeting_of, sends}
use Rattle.guest_cpu.specs.declared.event.Met.TheVariants as met

-- a call that has no memory to change
pub met_stays : (result : Result (Option Met) AllocError) (space : GuestPages) → MetStays result space space
met_stays (Ok None) space = tt
met_stays (Ok (Some met.Asks)) space = refl
met_stays (Ok (Some (met.Emits conn bytes))) space = refl
met_stays (Ok (Some (met.Allocates ask))) space = tt
met_stays (Ok (Some (met.Frees at))) space = tt
met_stays (Ok (Some (met.Exits code))) space = tt
met_stays (Ok (Some (met.Failed cause))) space = tt
met_stays (Err e) space = tt

-- a turn that wrote nothing
pub still : {E : Type 0} {next : Option (Turn E)} {event : Option E} {new : Standing} {space : GuestPages} → next ≡ Some (turn_to event new None) → Turned next event new space space
still turns = record { written = None; turns = turns; wrote = refl }

-- the instruction that is fetched, and what it does
pub record IsAt (m : Machine) (found : Option Instr) (does_so : Effect) : Type 0 where
  pub found_is : instruction_at m ≡ found
  pub does_it : does None None m ≡ does_so

abbrev refused : Result Instr Cause
refused = Err BadAccess

-- the instruction at the program counter, by what is fetched
pub is_at : (m : Machine) (instr : Instr) → fetched (record { pc = m.pc; x = m.registers }) m.memory ≡ Ok instr → IsAt m (Some instr) (instruction instr None None m)
unfolding does instruction_at
is_at m instr h =
    elim (cases_Bool (permitted execute m.memory m.pc 4)) [
      | inl may ↦ of_row may (row (word_at m)) refl (rw may at h)
      | inr not_may ↦ absurd (never (rw not_may at h))
    ]
  where
    never : refused ≡ Ok instr → ⊥
    never e = cc

    of_row : permitted execute m.memory m.pc 4 ≡ true → (found : Option Instr) → row (word_at m) ≡ found → or_bad found ≡ Ok instr → IsAt m (Some instr) (instruction instr None None m)
    of_row may None is e = cc
    of_row may (Some other) is e =
        let same : other ≡ instr = cc in
        record {
          found_is = rw (may, is, same) refl;
          does_it = rw (may, is, same) refl;
        }

is_at_none : (m : Machine) (cause : Cause) → fetched (record { pc = m.pc; x = m.registers }) m.memory ≡ Err cause → IsAt m None (Fails cause)
unfolding does instruction_at
is_at_none m cause h =
    elim (cases_Bool (permitted execute m.memory m.pc 4)) [
      | inl may ↦ of_row may (row (word_at m)) refl (rw may at h)
      | inr not_may ↦ let same : BadAccess ≡ cause = bad (rw not_may at h) in record { found_is = rw not_may refl; does_it = rw (not_may, ← same) refl }
    ]
  where
    bad : refused ≡ Err cause → BadAccess ≡ cause
    bad e = cc

    of_row : permitted execute m.memory m.pc 4 ≡ true → (found : Option Instr) → row (word_at m) ≡ found → or_bad found ≡ Err cause → IsAt m None (Fails cause)
    of_row may None is e =
        let same : BadInstruction ≡ cause = cc in
        record { found_is = rw (may, is) refl; does_it = rw (may, is, same) refl }
    of_row may (Some other) is e = cc

-- there is no instruction
pub meets_unfetched : (rule : Heap → ℕ → ℕ → Bool) (s : Standing) (cause : Cause) → fetched (record { pc = s.guest.machine.pc; x = s.guest.machine.registers }) s.guest.machine.memory ≡ Err cause
    → meeting rule s ≡ Some (turn_to (Some (met.Failed cause)) s None)
unfolding meeting touched
meets_unfetched rule s cause is = let stands = is_at_none s.guest.machine cause is in rw (stands.found_is, stands.does_it) refl

-- an instruction that is no call asks nothing
asks_nothing : (instr : Instr) (m : Machine) → instr ≢ Ecall → request_of (Some instr) m ≡ Nothing
asks_nothing Ecall m other = absurd (other refl)
asks_nothing _ m other = refl

-- so it does what it does, unless the rule refuses it
pub meets_instr : (rule : Heap → ℕ → ℕ → Bool) (s : Standing) (instr : Instr) → fetched (record { pc = s.guest.machine.pc; x = s.guest.machine.registers }) s.guest.machine.memory ≡ Ok instr → instr ≢ Ecall
    → meeting rule s ≡ meeting_of (Some instr) s (under (limits_of 0 rule) s.guest.heap instr s.guest.machine)
unfolding meeting touched
meets_instr rule s instr is other =
    let stands = is_at s.guest.machine instr is in
    rw (stands.found_is, stands.does_it, asks_nothing instr s.guest.machine other) (by_rule (is_refused (limits_of 0 rule) s.guest.heap (touched_by instr s.guest.machine)))
  where
    by_rule : (bars : Bool)
        → cond bars (Some (turn_to (Some (met.Failed BadAccess)) s None)) (meeting_of (Some instr) s (instruction instr None None s.guest.machine))
        ≡ meeting_of (Some instr) s (cond bars (Fails BadAccess) (instruction instr None None s.guest.machine))
    by_rule true = refl
    by_rule false = refl

-- a call whose buffer the rule doesn't refuse, by what it asks and does
meets_acts : (rule : Heap → ℕ → ℕ → Bool) (s : Standing) (request : Request) (e : Effect) → instruction_at s.guest.machine ≡ Some Ecall
    → is_refused (limits_of 0 rule) s.guest.heap (call_buffer (register s.guest.machine 17) s.guest.machine) ≡ false → request_of (Some Ecall) s.guest.machine ≡ request
    → call (register s.guest.machine 17) None None s.guest.machine ≡ e → meeting rule s ≡ meeting_by (Some Ecall) request s e
unfolding meeting touched
meets_acts rule s request e is kept asks acts = rw (is, kept, asks, does_call s.guest.machine None None is ∙ acts) refl

-- the turn of a call that its check allows
abbrev pub meeting_at : Standing → Call → Option (Turn Met)
meeting_at s (kind.Recv at len) = Some (turn_to (Some met.Asks) s None)
meeting_at s (kind.Send conn at len) = meeting_of (Some Ecall) s (sends s.guest.machine conn at len)
meeting_at s (kind.Allocate ask) = Some (turn_to (Some (met.Allocates ask)) s None)
meeting_at s (kind.Free at) = Some (turn_to (Some (met.Frees at)) s None)
meeting_at s (kind.Exit code) = Some (turn_to (Some (met.Exits code)) (record s { steps = s.steps + 1; ended = Some code }) None)
meeting_at s (kind.Assert code) = Some (turn_to (Some (met.Failed (AssertFailed code))) s None)

meets_called : (rule : Heap → ℕ → ℕ → Bool) (s : Standing) (made : Call) → instruction_at s.guest.machine ≡ Some Ecall → called s.guest.machine.registers ≡ Ok made
    → CallIs (register s.guest.machine 17) s.guest.machine (Ok made) → CheckSays (limits_of 0 rule) s.guest.heap s.guest.machine made (Ok tt) → meeting rule s ≡ meeting_at s made
meets_called rule s (kind.Recv at len) is made (a, l, c) (may, kept) = meets_acts rule s Nothing Wants is kept c.asks (c.does None None ∙ recv_takes s.guest.machine at len made may None)
meets_called rule s (kind.Send conn at len) is made (n, a, l, c) (may, kept) = meets_acts rule s Nothing (sends s.guest.machine conn at len) is kept c.asks (c.does None None ∙ send_sends s.guest.machine conn at len made may)
meets_called rule s (kind.Allocate ask) is made c (may, kept) = meets_acts rule s (Allocate ask) (allocation ask None s.guest.machine) is kept c.asks (c.does None None)
meets_called rule s (kind.Free at) is made (a, c) (may, kept) = meets_acts rule s (Free at) (free s.guest.machine) is kept c.asks (c.does None None)
meets_called rule s (kind.Exit code) is made (a, c) (may, kept) = meets_acts rule s Nothing (Ends code) is kept c.asks (c.does None None)
meets_called rule s (kind.Assert code) is made (a, c) (may, kept) = meets_acts rule s Nothing (Fails (AssertFailed code)) is kept c.asks (c.does None None)

-- the same, by what was read and what the check answered
pub meets_made : (rule : Heap → ℕ → ℕ → Bool) (s : Standing) {read : Result Call Cause} {call made : Call} {result : Result (Unit {0}) Cause} → instruction_at s.guest.machine ≡ Some Ecall
    → read ≡ called s.guest.machine.registers → read ≡ Ok call → call ≡ made
    → result ≡ checked rule s.guest.heap s.guest.machine.memory s.guest.machine.connections call → result ≡ Ok tt → meeting rule s ≡ meeting_at s made
meets_made rule s {made = made} is is_read read_is made_so is_checked ok =
    let now : called s.guest.machine.registers ≡ Ok made = sym is_read ∙ read_is ∙ ap (λ c. Ok c) made_so in
    meets_called rule s made is now (call_is s.guest.machine (Ok made) now)
    (check_says (limits_of 0 rule) s.guest.heap s.guest.machine made (Ok tt) now
    (ap (λ c. checked rule s.guest.heap s.guest.machine.memory s.guest.machine.connections c) (sym made_so) ∙ sym is_checked ∙ ok))

-- a call that there isn't
pub meets_badly : (rule : Heap → ℕ → ℕ → Bool) (s : Standing) (cause : Cause) → instruction_at s.guest.machine ≡ Some Ecall → called s.guest.machine.registers ≡ Err cause → meeting rule s ≡ Some (turn_to (Some (met.Failed cause)) s None)
meets_badly rule s cause is made =
    let c = (call_is s.guest.machine (Err cause) made).1 in
    meets_acts rule s Nothing (Fails cause) is (ap (is_refused (limits_of 0 rule) s.guest.heap) c.touches) c.asks (c.does None None)

-- a call whose check refuses it asks nothing
refused_asks : (rule : Heap → ℕ → ℕ → Bool) (s : Standing) (made : Call) (cause : Cause) → CallIs (register s.guest.machine 17) s.guest.machine (Ok made)
    → checked rule s.guest.heap s.guest.machine.memory s.guest.machine.connections made ≡ Err cause → request_of (Some Ecall) s.guest.machine ≡ Nothing
refused_asks rule s (kind.Recv at len) cause (a, l, c) h = c.asks
refused_asks rule s (kind.Send conn at len) cause (n, a, l, c) h = c.asks
refused_asks rule s _ cause c h = absurd (allowed_never cause h)

meets_barred : (rule : Heap → ℕ → ℕ → Bool) (s : Standing) → instruction_at s.guest.machine ≡ Some Ecall → is_refused (limits_of 0 rule) s.guest.heap (call_buffer (register s.guest.machine 17) s.guest.machine) ≡ true
    → meeting rule s ≡ Some (turn_to (Some (met.Failed BadAccess)) s None)
unfolding meeting touched
meets_barred rule s is bars = rw (is, bars) refl

-- it fails
meets_denied : (rule : Heap → ℕ → ℕ → Bool) (s : Standing) (made : Call) (cause : Cause) → instruction_at s.guest.machine ≡ Some Ecall → request_of (Some Ecall) s.guest.machine ≡ Nothing
    → CheckSays (limits_of 0 rule) s.guest.heap s.guest.machine made (Err cause) → meeting rule s ≡ Some (turn_to (Some (met.Failed cause)) s None)
meets_denied rule s made cause is asks (why, inl bars) = meets_barred rule s is bars ∙ ap (λ c. Some (turn_to (Some (met.Failed c)) s None)) (sym why)
meets_denied rule s made cause is asks (why, inr (kept, fails)) = meets_acts rule s Nothing (Fails BadAccess) is kept asks (fails None None) ∙ ap (λ c. Some (turn_to (Some (met.Failed c)) s None)) (sym why)

pub meets_refused : (rule : Heap → ℕ → ℕ → Bool) (s : Standing) (made : Call) (cause : Cause) → instruction_at s.guest.machine ≡ Some Ecall → called s.guest.machine.registers ≡ Ok made
    → checked rule s.guest.heap s.guest.machine.memory s.guest.machine.connections made ≡ Err cause → meeting rule s ≡ Some (turn_to (Some (met.Failed cause)) s None)
meets_refused rule s made cause is read h =
    meets_denied rule s made cause is (refused_asks rule s made cause (call_is s.guest.machine (Ok made) read) h) (check_says (limits_of 0 rule) s.guest.heap s.guest.machine made (Err cause) read h)
