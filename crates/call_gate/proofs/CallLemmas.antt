-- What a machine does at a call, by the call that its registers make and by what the check of its buffer says.
use Rattle.std.proofs.Common.{Bool, Err, List, None, Ok, Option, Result, Some, ap, cond, eqb, false, inl, inr, ltb, not, refl, subst, sym, true, ℕ, ◌∙◌, ◌≡◌}
use Rattle.std.proofs.lemmas.Bool.{cases_Bool, cond_both, eqb-true, true≢false}
use Rattle.std.proofs.lemmas.Option.{none-some}
use Rattle.std.specs.Prelude.{◌&&◌, ◌||◌, ◌⊎◌}
use Rattle.rx_base.specs.declared.item.Item.{Item}
use Rattle.block_book.specs.declared.choice.Ask.TheVariants.{Calloc, Malloc, Realloc}
use Rattle.block_book.specs.declared.choice.Choice.{Choice}
use Rattle.block_book.specs.Heap.{Heap}
use Rattle.rv_isa.specs.declared.instr.Instr.{Instr}
use Rattle.rv_isa.specs.declared.instr.Instr.TheVariants.{Ecall}
use Rattle.rv_isa.specs.Table.{row}
use Rattle.guest_image.specs.Memory.{Area, bytes_at, execute, permitted, read, write}
use Rattle.run_history.specs.Run.{does, executed, instruction, word_at}
use Rattle.run_history.specs.declared.answer.Cause.{Cause}
use Rattle.run_history.specs.declared.answer.Cause.TheVariants.{AssertFailed, BadAccess, BadCall}
use Rattle.run_history.specs.Call.{allocation, answered, call, free, may_send, recv, send, takes}
use Rattle.run_history.specs.Machine.{Effect, Emits, Ends, Fails, Goes, Machine, register}
use Rattle.run_history.specs.Served.{Allocate, Free, Limits, Nothing, Request, call_request, is_refused}
use Rattle.run_history.specs.Touching.{Range, buffer, call_buffer, instruction_at}
use Rattle.call_gate.specs.declared.call.Call.{Call}
use Rattle.call_gate.specs.declared.call.Call.TheVariants as kind
use Rattle.call_gate.specs.Calls.{called}
use Rattle.call_gate.specs.Checks.{Buffer, buffer_of, checked, is_permitted}

-- a machine at a call of a number: what it does, what it asks of the allocator, and which bytes it touches
pub record Acts (n : ℕ) (m : Machine) (acts : Option Item → Option Choice → Effect) (request : Request) (range : Option Range) : Type 0 where
  pub does : (item : Option Item) (choice : Option Choice) → call n item choice m ≡ acts item choice
  pub asks : call_request n m ≡ request
  pub touches : call_buffer n m ≡ range

-- the bytes of a send, unless it is answered before they are looked at
abbrev pub sent : Machine → ℕ → ℕ → ℕ → Option Range
sent m conn at len = cond (ltb 65535 len || not (may_send m conn)) None (buffer at len)

-- the arguments of a call, and what a machine does at it
abbrev pub CallIs : ℕ → Machine → Result Call Cause → Type 0
CallIs n m (Ok (kind.Recv at len)) = (at ≡ register m 10) × (len ≡ register m 11) × Acts n m (λ item choice. recv item m) Nothing (buffer at len)
CallIs n m (Ok (kind.Send conn at len)) = (conn ≡ register m 10) × (at ≡ register m 11) × (len ≡ register m 12) × Acts n m (λ item choice. send m) Nothing (sent m conn at len)
CallIs n m (Ok (kind.Allocate ask)) = Acts n m (λ item choice. allocation ask choice m) (Allocate ask) None
CallIs n m (Ok (kind.Free at)) = (at ≡ register m 10) × Acts n m (λ item choice. free m) (Free at) None
CallIs n m (Ok (kind.Exit code)) = (code ≡ register m 10) × Acts n m (λ item choice. Ends code) Nothing None
CallIs n m (Ok (kind.Assert code)) = (code ≡ register m 10) × Acts n m (λ item choice. Fails (AssertFailed code)) Nothing None
CallIs n m (Err cause) = (cause ≡ BadCall) × Acts n m (λ item choice. Fails cause) Nothing None

-- a number that no call has
acts_badly : (n : ℕ) (m : Machine) → eqb n 1 ≡ false → eqb n 2 ≡ false → eqb n 3 ≡ false → eqb n 4 ≡ false → eqb n 5 ≡ false → eqb n 6 ≡ false → eqb n 7 ≡ false → eqb n 8 ≡ false → Acts n m (λ item choice. Fails BadCall) Nothing None
acts_badly n m one two three four five six seven eight = record {
  does = (λ item choice. rw (one, two, three, four, five, six, seven, eight) refl);
  asks = rw (three, four, seven, eight) refl;
  touches = rw (one, two) refl;
}

-- the call of a number is what the definition of calls says
call_of : (n : ℕ) (m : Machine)
    → CallIs n m
    (cond (eqb n 1) (Ok (kind.Recv (register m 10) (register m 11)))
    (cond (eqb n 2) (Ok (kind.Send (register m 10) (register m 11) (register m 12)))
    (cond (eqb n 3) (Ok (kind.Allocate (Malloc (register m 10))))
    (cond (eqb n 4) (Ok (kind.Free (register m 10)))
    (cond (eqb n 5) (Ok (kind.Exit (register m 10)))
    (cond (eqb n 6) (Ok (kind.Assert (register m 10)))
    (cond (eqb n 7) (Ok (kind.Allocate (Calloc (register m 10) (register m 11)))) (cond (eqb n 8) (Ok (kind.Allocate (Realloc (register m 10) (register m 11)))) (Err BadCall)))))))))
call_of n m =
    cond_both (eqb n 1) _ _ (CallIs n m)
    (λ is. (refl, refl, subst (λ n. Acts n m (λ item choice. recv item m) Nothing (buffer (register m 10) (register m 11))) (sym (eqb-true n 1 is)) (record { does = (λ item choice. refl); asks = refl; touches = refl })))
    (λ one. cond_both (eqb n 2) _ _ (CallIs n m)
    (λ is. (refl, refl, refl, subst (λ n. Acts n m (λ item choice. send m) Nothing (sent m (register m 10) (register m 11) (register m 12))) (sym (eqb-true n 2 is)) (record { does = (λ item choice. refl); asks = refl; touches = refl })))
    (λ two. cond_both (eqb n 3) _ _ (CallIs n m)
    (λ is. subst (λ n. Acts n m (λ item choice. allocation (Malloc (register m 10)) choice m) (Allocate (Malloc (register m 10))) None) (sym (eqb-true n 3 is)) (record { does = (λ item choice. refl); asks = refl; touches = refl }))
    (λ three. cond_both (eqb n 4) _ _ (CallIs n m)
    (λ is. (refl, subst (λ n. Acts n m (λ item choice. free m) (Free (register m 10)) None) (sym (eqb-true n 4 is)) (record { does = (λ item choice. refl); asks = refl; touches = refl })))
    (λ four. cond_both (eqb n 5) _ _ (CallIs n m)
    (λ is. (refl, subst (λ n. Acts n m (λ item choice. Ends (register m 10)) Nothing None) (sym (eqb-true n 5 is)) (record { does = (λ item choice. refl); asks = refl; touches = refl })))
    (λ five. cond_both (eqb n 6) _ _ (CallIs n m)
    (λ is. (refl, subst (λ n. Acts n m (λ item choice. Fails (AssertFailed (register m 10))) Nothing None) (sym (eqb-true n 6 is)) (record { does = (λ item choice. refl); asks = refl; touches = refl })))
    (λ six. cond_both (eqb n 7) _ _ (CallIs n m)
    (λ is. subst (λ n. Acts n m (λ item choice. allocation (Calloc (register m 10) (register m 11)) choice m) (Allocate (Calloc (register m 10) (register m 11))) None) (sym (eqb-true n 7 is)) (record { does = (λ item choice. refl); asks = refl; touches = refl }))
    (λ seven. cond_both (eqb n 8) _ _ (CallIs n m)
    (λ is. subst (λ n. Acts n m (λ item choice. allocation (Realloc (register m 10) (register m 11)) choice m) (Allocate (Realloc (register m 10) (register m 11))) None) (sym (eqb-true n 8 is)) (record { does = (λ item choice. refl); asks = refl; touches = refl }))
    (λ eight. (refl, acts_badly n m one two three four five six seven eight)))))))))

-- the call that the registers make
pub call_is : (m : Machine) (result : Result Call Cause) → called m.registers ≡ result → CallIs (register m 17) m result
call_is m result is = subst (CallIs (register m 17) m) is (call_of (register m 17) m)

-- the bytes of a buffer, if it has any
abbrev pub range_of : Option Buffer → Option Range
range_of None = None
range_of (Some b) = buffer b.at b.count

-- the areas permit all of a buffer
abbrev pub areas_permit : List Area → Option Buffer → Bool
areas_permit memory None = true
areas_permit memory (Some b) = permitted b.flag memory b.at b.count

-- a call touches the bytes of the buffer that it looks at
pub call_touches : (m : Machine) (made : Call) → called m.registers ≡ Ok made → call_buffer (register m 17) m ≡ range_of (buffer_of m.connections made)
call_touches m (kind.Recv at len) is = (call_is m _ is).2.touches
call_touches m (kind.Send conn at len) is = (call_is m _ is).3.touches ∙ answered_early (ltb 65535 len || not (may_send m conn))
  where
    answered_early : (early : Bool) → cond early None (buffer at len) ≡ range_of (cond early None (Some (record { flag = read; at = at; count = len })))
    answered_early true = refl
    answered_early false = refl
call_touches m (kind.Allocate ask) is = (call_is m _ is).touches
call_touches m (kind.Free at) is = (call_is m _ is).1.touches
call_touches m (kind.Exit code) is = (call_is m _ is).1.touches
call_touches m (kind.Assert code) is = (call_is m _ is).1.touches

-- a test that is turned twice
not_twice : (b : Bool) → b ≡ not (not b)
not_twice true = refl
not_twice false = refl

-- a buffer is permitted where the areas permit it and the rule doesn't refuse its bytes
pub permitted_parts : (limits : Limits) (heap : Heap) (memory : List Area) (b : Option Buffer) → is_permitted limits.permits heap memory b ≡ (areas_permit memory b && not (is_refused limits heap (range_of b)))
permitted_parts limits heap memory None = refl
permitted_parts limits heap memory (Some b) =
    elim (cases_Bool (eqb b.count 0)) [
      | inl is ↦ rw is refl
      | inr some ↦ rw some (ap (λ x. permitted b.flag memory b.at b.count && x) (not_twice (limits.permits heap b.at b.count)))
    ]

-- a recv into a buffer that the areas permit takes the item, or wants it, and else it fails
recv_as : (m : Machine) (item : Option Item) (at len : ℕ) (may : Bool) → at ≡ register m 10 → len ≡ register m 11 → permitted write m.memory at len ≡ may → recv item m ≡ cond may (takes m item) (Fails BadAccess)
recv_as m item at len may a l h =
    let same : permitted write m.memory (register m 10) (register m 11) ≡ may = cc in ap (λ b. cond b (takes m item) (Fails BadAccess)) same

-- what a send does, by its arguments and by whether the areas permit its bytes
abbrev pub send_by : Machine → ℕ → ℕ → ℕ → Bool → Effect
send_by m conn at len may =
    cond (ltb 65535 len) (Goes (answered 2 m))
    (cond (not (may_send m conn)) (Goes (answered 1 m)) (cond (not may) (Fails BadAccess) (cond (eqb len 0) (Goes (answered 0 m)) (Emits conn (bytes_at read m.memory at len) (answered 0 m)))))

-- a send of a machine, by its arguments
send_as : (m : Machine) (conn at len : ℕ) → conn ≡ register m 10 → at ≡ register m 11 → len ≡ register m 12 → send m ≡ send_by m conn at len (permitted read m.memory at len)
send_as m conn at len c a l =
    let at_len : send m ≡ send_by m (register m 10) (register m 11) len (permitted read m.memory (register m 11) len) =
    ap (λ x. send_by m (register m 10) (register m 11) x (permitted read m.memory (register m 11) x)) (sym l) in
    let at_at : send m ≡ send_by m (register m 10) at len (permitted read m.memory at len) =
    at_len ∙ ap (λ x. send_by m (register m 10) x len (permitted read m.memory x len)) (sym a) in
    at_at ∙ ap (λ x. send_by m x at len (permitted read m.memory at len)) (sym c)

-- of a send that isn't answered before, the areas permit the bytes or not; of one that is they aren't looked at
sent_by : (m : Machine) (conn at len : ℕ) (large closed may : Bool) → areas_permit m.memory (cond (large || closed) None (Some (record { flag = read; at = at; count = len }))) ≡ may
    → cond large (Goes (answered 2 m)) (cond closed (Goes (answered 1 m)) (cond (not (permitted read m.memory at len)) (Fails BadAccess) (cond (eqb len 0) (Goes (answered 0 m)) (Emits conn (bytes_at read m.memory at len) (answered 0 m)))))
    ≡ cond may (cond large (Goes (answered 2 m)) (cond closed (Goes (answered 1 m)) (cond (eqb len 0) (Goes (answered 0 m)) (Emits conn (bytes_at read m.memory at len) (answered 0 m))))) (Fails BadAccess)
sent_by m conn at len true closed true h = refl
sent_by m conn at len true closed false h = absurd (true≢false h)
sent_by m conn at len false true true h = refl
sent_by m conn at len false true false h = absurd (true≢false h)
sent_by m conn at len false false true h = rw h refl
sent_by m conn at len false false false h = rw h refl

-- where the areas refuse its buffer, a call fails
pub call_fails : (m : Machine) (made : Call) → called m.registers ≡ Ok made → areas_permit m.memory (buffer_of m.connections made) ≡ false
    → (item : Option Item) (choice : Option Choice) → call (register m 17) item choice m ≡ Fails BadAccess
call_fails m (kind.Recv at len) is bars item choice =
    let c = call_is m _ is in c.2.does item choice ∙ recv_as m item at len false c.0 c.1 bars
call_fails m (kind.Send conn at len) is bars item choice =
    let c = call_is m _ is in
    c.3.does item choice ∙ send_as m conn at len c.0 c.1 c.2 ∙ sent_by m conn at len (ltb 65535 len) (not (may_send m conn)) false bars
call_fails m (kind.Allocate ask) is bars item choice = absurd (true≢false bars)
call_fails m (kind.Free at) is bars item choice = absurd (true≢false bars)
call_fails m (kind.Exit code) is bars item choice = absurd (true≢false bars)
call_fails m (kind.Assert code) is bars item choice = absurd (true≢false bars)

-- what a send does whose bytes the areas permit, unless it is answered before
abbrev pub sends : Machine → ℕ → ℕ → ℕ → Effect
sends m conn at len =
    cond (ltb 65535 len) (Goes (answered 2 m))
    (cond (not (may_send m conn)) (Goes (answered 1 m)) (cond (eqb len 0) (Goes (answered 0 m)) (Emits conn (bytes_at read m.memory at len) (answered 0 m))))

-- a recv whose buffer the areas permit takes the item, or wants it
pub recv_takes : (m : Machine) (at len : ℕ) → called m.registers ≡ Ok (kind.Recv at len) → permitted write m.memory at len ≡ true → (item : Option Item) → recv item m ≡ takes m item
recv_takes m at len is may item =
    let c = call_is m _ is in recv_as m item at len true c.0 c.1 may

-- a send whose buffer the areas permit, unless it is answered before
pub send_sends : (m : Machine) (conn at len : ℕ) → called m.registers ≡ Ok (kind.Send conn at len) → areas_permit m.memory (buffer_of m.connections (kind.Send conn at len)) ≡ true → send m ≡ sends m conn at len
send_sends m conn at len is may =
    let c = call_is m _ is in send_as m conn at len c.0 c.1 c.2 ∙ sent_by m conn at len (ltb 65535 len) (not (may_send m conn)) true may

-- what the check of a call says: that its buffer may be touched, or else why not
abbrev pub CheckSays : Limits → Heap → Machine → Call → Result (Unit {0}) Cause → Type 0
CheckSays limits heap m made (Ok done) = (areas_permit m.memory (buffer_of m.connections made) ≡ true) × (is_refused limits heap (call_buffer (register m 17) m) ≡ false)
CheckSays limits heap m made (Err cause) =
    (cause ≡ BadAccess) × ((is_refused limits heap (call_buffer (register m 17) m) ≡ true)
    ⊎ ((is_refused limits heap (call_buffer (register m 17) m) ≡ false) × ((item : Option Item) (choice : Option Choice) → call (register m 17) item choice m ≡ Fails BadAccess)))

-- by what the areas and the rule say
says_refused : (limits : Limits) (heap : Heap) (m : Machine) (made : Call) → called m.registers ≡ Ok made → (areas refused : Bool)
    → areas_permit m.memory (buffer_of m.connections made) ≡ areas → is_refused limits heap (call_buffer (register m 17) m) ≡ refused → CheckSays limits heap m made (cond (areas && not refused) (Ok tt) (Err BadAccess))
says_refused limits heap m made is true false a r = (a, r)
says_refused limits heap m made is true true a r = (refl, inl r)
says_refused limits heap m made is false true a r = (refl, inl r)
says_refused limits heap m made is false false a r = (refl, inr (r, call_fails m made is a))

-- what the check answers is what it says
pub check_says : (limits : Limits) (heap : Heap) (m : Machine) (made : Call) (result : Result (Unit {0}) Cause) → called m.registers ≡ Ok made → checked limits.permits heap m.memory m.connections made ≡ result → CheckSays limits heap m made result
check_says limits heap m made result is h =
    let areas = areas_permit m.memory (buffer_of m.connections made) in
    let refused = is_refused limits heap (call_buffer (register m 17) m) in
    let same = ap (λ range. areas && not (is_refused limits heap range)) (sym (call_touches m made is)) in
    let parts : is_permitted limits.permits heap m.memory (buffer_of m.connections made) ≡ (areas && not refused) =
    permitted_parts limits heap m.memory (buffer_of m.connections made) ∙ same in
    subst (CheckSays limits heap m made) (ap (λ may. cond may (Ok tt) (Err BadAccess)) (sym parts) ∙ h) (says_refused limits heap m made is areas refused refl refl)

-- a check that allows isn't one that fails
abbrev allowed : Result (Unit {0}) Cause
allowed = Ok tt

pub allowed_never : (cause : Cause) → allowed ≡ Err cause → ⊥
allowed_never cause e = cc

-- an ECALL that may be fetched is done by its number
pub does_call : (m : Machine) (item : Option Item) (choice : Option Choice) → instruction_at m ≡ Some Ecall → does item choice m ≡ call (register m 17) item choice m
unfolding does instruction_at instruction
does_call m item choice is = of_row (permitted execute m.memory m.pc 4) (row (word_at m)) is
  where
    of_row : (may : Bool) (found : Option Instr) → cond may found None ≡ Some Ecall → cond may (executed found item choice m) (Fails BadAccess) ≡ call (register m 17) item choice m
    of_row true found e = ap (λ f. executed f item choice m) e
    of_row false found e = absurd (none-some Ecall e)
