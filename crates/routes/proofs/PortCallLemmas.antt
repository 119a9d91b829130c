-- What calls on a port moved, accepted and closed, and what they made of its connections.
use Rattle.std.proofs.Common.{not, ◌&&◌}
use Rattle.std.proofs.lemmas.Bool.{eqb-true, or_cases}
use Rattle.std.proofs.lemmas.List.Sums.{sum_by-cons}
use Rattle.ports.specs.declared.port_calls.Awaited.{Awaited}
use Rattle.ports.specs.declared.port_calls.Ready.TheVariants.{Accepts, Reads, Stops}
use Rattle.port_link.specs.Served.{IsOver, awaited_of}
use Rattle.port_link.specs.declared.place.Stage.{Stage}
use Rattle.port_link.specs.declared.place.Stage.TheVariants.{Broken, Closed, Dropped, Ended, Open, Unopened}
use Rattle.port_link.proofs.GiveLemmas.{goes_same}
use Rattle.routes.proofs.Terms.{Bool, List, [], ap, append-nil, append_assoc, arith, cond, false, if◌then◌else◌, inl, inr, length, nat_lt, refl, subst, suc, sym, true, zero, ℕ, ◌++◌, ◌+◌, ◌<◌, ◌==◌, ◌∙◌, ◌∷◌, ◌≡◌, ◌≤◌, ◌⊎◌, and_parts, ltb-true, flat_map-append, count_by, flat_map, Entry, LinkEvent, events_in-append, gave, gave_to, took, events_in, bytes_from, received_from, PortEntry, PortLimits, AreCalls, GoesOn, IsCall, Served, after_call, closed_entries, entries_of, fresh_served, gives_all, gives_part, served_after, takes_bytes, with_part, with_ends, OpenAtMost, bytes_given, bytes_taken, is_accept, is_close, taken_of, EndsAfter}
use Rattle.routes.specs.PortCalls.{WasStopped, given_to, is_stopping}
use Rattle.session_history.specs.declared.ends.SessionEnd.TheVariants as session_end
use Rattle.links.specs.declared.journal.Entry.TheVariants as entry
use Rattle.links.specs.declared.journal.LinkEvent.TheVariants as event
use Rattle.ports.specs.declared.port_calls.FailedCall.TheVariants as call
use Rattle.ports.specs.declared.port_calls.PortEntry.TheVariants as made

abbrev here : Bool → List ℕ → List ℕ
here is bytes = if is then bytes else []

here_none : (is : Bool) (bytes : List ℕ) → bytes ≡ bytes ++ here is []
here_none true bytes = sym (append-nil bytes)
here_none false bytes = sym (append-nil bytes)

here_two : (is : Bool) (all first second : List ℕ) → all ++ here is (first ++ second) ≡ (all ++ here is first) ++ here is second
here_two true all first second = sym (append_assoc all first second)
here_two false all first second = sym (append-nil (all ++ []))

-- one entry more
gave_one : (conn : ℕ) (entries : List Entry) (one : Entry) → gave conn (entries ++ one ∷ []) ≡ gave conn entries ++ gave_to conn one
gave_one conn entries one = flat_map-append (gave_to conn) entries (one ∷ []) ∙ ap (λ (l : List ℕ). gave conn entries ++ l) (append-nil (gave_to conn one))

took_one : (conn : ℕ) (entries : List Entry) (taken : LinkEvent) → took conn (entries ++ entry.Took taken ∷ []) ≡ took conn entries ++ bytes_from conn taken
took_one conn entries taken =
    ap (received_from conn) (events_in-append entries (entry.Took taken ∷ [])) ∙ flat_map-append (bytes_from conn) (events_in entries) (events_in (entry.Took taken ∷ []))
    ∙ ap (λ (l : List ℕ). took conn entries ++ l) (alone taken)
  where
    alone : (one : LinkEvent) → received_from conn (events_in (entry.Took one ∷ [])) ≡ bytes_from conn one
    alone (event.Opens of) = refl
    alone (event.Piece of bytes) = append-nil (bytes_from conn (event.Piece of bytes))
    alone (event.Closes of) = refl
    alone event.Settles = refl
    alone event.Ends = refl

took_gave : (conn : ℕ) (entries : List Entry) (to : ℕ) (bytes : List ℕ) (gone : Bool) → took conn (entries ++ entry.Gave to bytes gone ∷ []) ≡ took conn entries
took_gave conn entries to bytes gone = ap (received_from conn) (events_in-append entries (entry.Gave to bytes gone ∷ []) ∙ append-nil (events_in entries))

-- of a piece the part that went out counts as given, and the next give is of the same piece
part_gave : (conn : ℕ) (entries : List Entry) (was to : ℕ) (part : List ℕ) → GoesOn part was to → gave conn (with_part entries was part) ≡ gave conn entries ++ here (to == conn) part
part_gave conn entries was to [] goes = here_none (to == conn) (gave conn entries)
part_gave conn entries was to (byte ∷ part) goes =
    gave_one conn entries (entry.Gave was (byte ∷ part) false) ∙ ap (λ (n : ℕ). gave conn entries ++ here (n == conn) (byte ∷ part)) goes

part_took : (conn : ℕ) (entries : List Entry) (to : ℕ) (part : List ℕ) → took conn (with_part entries to part) ≡ took conn entries
part_took conn entries to [] = refl
part_took conn entries to (byte ∷ part) = took_gave conn entries to (byte ∷ part) false

-- what each call makes of what was given
gave_more : (conn to : ℕ) (served : Served) (bytes : List ℕ) (gone : Bool) → GoesOn served.part served.to to
    → gave conn (served.entries ++ entry.Gave to (served.part ++ bytes) gone ∷ []) ≡ gave conn (entries_of served) ++ here (to == conn) bytes
gave_more conn to served bytes gone goes =
    gave_one conn served.entries (entry.Gave to (served.part ++ bytes) gone) ∙ here_two (to == conn) (gave conn served.entries) served.part bytes
    ∙ ap (λ (l : List ℕ). l ++ here (to == conn) bytes) (sym (part_gave conn served.entries served.to to served.part goes))

gave_part : (conn to : ℕ) (served : Served) (bytes : List ℕ) → GoesOn served.part served.to to → gave conn (entries_of (gives_part to bytes served)) ≡ gave conn (entries_of served) ++ here (to == conn) bytes
gave_part conn to served [] goes = here_none (to == conn) (gave conn (entries_of served))
gave_part conn to served (byte ∷ bytes) goes =
    part_gave conn served.entries to to (served.part ++ byte ∷ bytes) (goes_same (served.part ++ byte ∷ bytes) to) ∙ here_two (to == conn) (gave conn served.entries) served.part (byte ∷ bytes)
    ∙ ap (λ (l : List ℕ). l ++ here (to == conn) (byte ∷ bytes)) (sym (part_gave conn served.entries served.to to served.part goes))

gave_by : (conn to : ℕ) (cut : Bool) (bytes : List ℕ) (served : Served) → GoesOn served.part served.to to
    → gave conn (entries_of (if cut then gives_part to bytes served else gives_all to bytes served)) ≡ gave conn (entries_of served) ++ here (to == conn) bytes
gave_by conn to true bytes served goes = gave_part conn to served bytes goes
gave_by conn to false bytes served goes = gave_more conn to served bytes false goes

gave_taken : (conn of : ℕ) (bytes : List ℕ) (served : Served) → gave conn (entries_of (takes_bytes of bytes served)) ≡ gave conn (entries_of served) ++ []
gave_taken conn of [] served = gave_one conn (entries_of served) (entry.Took (event.Closes of))
gave_taken conn of (byte ∷ bytes) served = gave_one conn (entries_of served) (entry.Took (event.Piece of (byte ∷ bytes)))

gave_closed : (conn of : ℕ) (stage : Stage) (entries : List Entry) → gave conn (closed_entries stage of entries) ≡ gave conn entries ++ []
gave_closed conn of Broken entries = gave_one conn entries (entry.Took (event.Closes of))
gave_closed conn of Unopened entries = sym (append-nil (gave conn entries))
gave_closed conn of Open entries = sym (append-nil (gave conn entries))
gave_closed conn of Ended entries = sym (append-nil (gave conn entries))
gave_closed conn of Dropped entries = sym (append-nil (gave conn entries))
gave_closed conn of Closed entries = sym (append-nil (gave conn entries))

gave_step : (limits : PortLimits) (conn : ℕ) (served : Served) (next : PortEntry) → IsCall limits served next → gave conn (entries_of (after_call served next)) ≡ gave conn (entries_of served) ++ bytes_given conn next
unfolding after_call
gave_step limits conn served (made.Bound number) is = absurd is
gave_step limits conn served (made.Waited awaited ready) is = sym (append-nil (gave conn (entries_of served)))
gave_step limits conn served (made.Accepted of) is = gave_one conn (entries_of served) (entry.Took (event.Opens of))
gave_step limits conn served (made.Took of bytes room) is = gave_taken conn of bytes served
gave_step limits conn served (made.Gave to bytes offered) is = gave_by conn to (nat_lt (length bytes) offered) bytes served is.2
gave_step limits conn served (made.Closed of) is = gave_closed conn of (served.stages of) (entries_of served)
gave_step limits conn served (made.Failed call.Bind) is = absurd is
gave_step limits conn served (made.Failed call.Wait) is = sym (append-nil (gave conn (entries_of served)))
gave_step limits conn served (made.Failed call.Accept) is = sym (append-nil (gave conn (entries_of served)))
gave_step limits conn served (made.Failed (call.Take of)) is = gave_taken conn of [] served
gave_step limits conn served (made.Failed (call.Give to)) is =
    gave_more conn to served [] true is.1 ∙ sym (here_none (to == conn) (gave conn (entries_of served))) ∙ sym (append-nil (gave conn (entries_of served)))

-- and of what was taken
took_more : (conn to : ℕ) (served : Served) (bytes : List ℕ) (gone : Bool) → took conn (served.entries ++ entry.Gave to bytes gone ∷ []) ≡ took conn (entries_of served) ++ []
took_more conn to served bytes gone =
    took_gave conn served.entries to bytes gone ∙ sym (part_took conn served.entries served.to served.part) ∙ sym (append-nil (took conn (entries_of served)))

took_part : (conn to : ℕ) (served : Served) (bytes : List ℕ) → took conn (entries_of (gives_part to bytes served)) ≡ took conn (entries_of served) ++ []
took_part conn to served [] = sym (append-nil (took conn (entries_of served)))
took_part conn to served (byte ∷ bytes) =
    part_took conn served.entries to (served.part ++ byte ∷ bytes) ∙ sym (part_took conn served.entries served.to served.part) ∙ sym (append-nil (took conn (entries_of served)))

took_by : (conn to : ℕ) (cut : Bool) (bytes : List ℕ) (served : Served) → took conn (entries_of (if cut then gives_part to bytes served else gives_all to bytes served)) ≡ took conn (entries_of served) ++ []
took_by conn to true bytes served = took_part conn to served bytes
took_by conn to false bytes served = took_more conn to served (served.part ++ bytes) false

took_taken : (conn of : ℕ) (bytes : List ℕ) (served : Served) → took conn (entries_of (takes_bytes of bytes served)) ≡ took conn (entries_of served) ++ here (of == conn) bytes
took_taken conn of [] served = took_one conn (entries_of served) (event.Closes of) ∙ append-nil (took conn (entries_of served)) ∙ here_none (of == conn) (took conn (entries_of served))
took_taken conn of (byte ∷ bytes) served = took_one conn (entries_of served) (event.Piece of (byte ∷ bytes))

took_closed : (conn of : ℕ) (stage : Stage) (entries : List Entry) → took conn (closed_entries stage of entries) ≡ took conn entries ++ []
took_closed conn of Broken entries = took_one conn entries (event.Closes of)
took_closed conn of Unopened entries = sym (append-nil (took conn entries))
took_closed conn of Open entries = sym (append-nil (took conn entries))
took_closed conn of Ended entries = sym (append-nil (took conn entries))
took_closed conn of Dropped entries = sym (append-nil (took conn entries))
took_closed conn of Closed entries = sym (append-nil (took conn entries))

took_step : (limits : PortLimits) (conn : ℕ) (served : Served) (next : PortEntry) → IsCall limits served next → took conn (entries_of (after_call served next)) ≡ took conn (entries_of served) ++ bytes_taken conn next
unfolding after_call
took_step limits conn served (made.Bound number) is = absurd is
took_step limits conn served (made.Waited awaited ready) is = sym (append-nil (took conn (entries_of served)))
took_step limits conn served (made.Accepted of) is = took_one conn (entries_of served) (event.Opens of)
took_step limits conn served (made.Took of bytes room) is = took_taken conn of bytes served
took_step limits conn served (made.Gave to bytes offered) is = took_by conn to (nat_lt (length bytes) offered) bytes served
took_step limits conn served (made.Closed of) is = took_closed conn of (served.stages of) (entries_of served)
took_step limits conn served (made.Failed call.Bind) is = absurd is
took_step limits conn served (made.Failed call.Wait) is = sym (append-nil (took conn (entries_of served)))
took_step limits conn served (made.Failed call.Accept) is = sym (append-nil (took conn (entries_of served)))
took_step limits conn served (made.Failed (call.Take of)) is =
    took_taken conn of [] served ∙ sym (here_none (of == conn) (took conn (entries_of served))) ∙ sym (append-nil (took conn (entries_of served)))
took_step limits conn served (made.Failed (call.Give to)) is = took_more conn to served (served.part ++ []) true

-- calls move what each of them moves
moved : (of : PortEntry → List ℕ) (sum : List Entry → List ℕ) (limits : PortLimits)
    → ((served : Served) (next : PortEntry) → IsCall limits served next → sum (entries_of (after_call served next)) ≡ sum (entries_of served) ++ of next)
    → (served : Served) (calls : List PortEntry) → AreCalls limits served calls → sum (entries_of (served_after served calls)) ≡ sum (entries_of served) ++ flat_map of calls
unfolding served_after AreCalls
moved of sum limits step served [] are = sym (append-nil (sum (entries_of served)))
moved of sum limits step served (next ∷ calls) are =
    moved of sum limits step (after_call served next) calls are.1
    ∙ ap (λ (l : List ℕ). l ++ flat_map of calls) (step served next are.0)
    ∙ append_assoc (sum (entries_of served)) (of next) (flat_map of calls)

-- the end moves nothing
stays : (sum : List Entry → List ℕ) → ((entries : List Entry) → sum (entries ++ entry.Took event.Ends ∷ []) ≡ sum entries) → (n : ℕ) (entries : List Entry) → sum (with_ends n entries) ≡ sum entries
stays sum ends zero entries = refl
stays sum ends (suc n) entries = ends (with_ends n entries) ∙ stays sum ends n entries

-- what calls gave and took is what entries did that they made
pub given_is : (limits : PortLimits) (conn ends : ℕ) (calls : List PortEntry) → AreCalls limits fresh_served calls → given_to conn calls ≡ gave conn (with_ends ends (entries_of (served_after fresh_served calls)))
given_is limits conn ends calls are = sym (
    stays (gave conn) (λ entries. gave_one conn entries (entry.Took event.Ends) ∙ append-nil (gave conn entries)) ends (entries_of (served_after fresh_served calls))
    ∙ moved (bytes_given conn) (gave conn) limits (gave_step limits conn) fresh_served calls are
    )

pub taken_is : (limits : PortLimits) (conn ends : ℕ) (calls : List PortEntry) → AreCalls limits fresh_served calls → taken_of conn calls ≡ took conn (with_ends ends (entries_of (served_after fresh_served calls)))
taken_is limits conn ends calls are = sym (
    stays (took conn) (λ entries. took_one conn entries event.Ends ∙ append-nil (took conn entries)) ends (entries_of (served_after fresh_served calls))
    ∙ moved (bytes_taken conn) (took conn) limits (took_step limits conn) fresh_served calls are
    )

-- how many connections calls accept, and how many they close
abbrev one_if : Bool → ℕ
one_if is = cond is 1 0

accepted_taken : (of : ℕ) (bytes : List ℕ) (served : Served) → (takes_bytes of bytes served).accepted ≡ served.accepted
accepted_taken of [] served = refl
accepted_taken of (byte ∷ bytes) served = refl

closed_taken : (of : ℕ) (bytes : List ℕ) (served : Served) → (takes_bytes of bytes served).closed ≡ served.closed
closed_taken of [] served = refl
closed_taken of (byte ∷ bytes) served = refl

accepted_given : (cut : Bool) (to : ℕ) (bytes : List ℕ) (served : Served) → (if cut then gives_part to bytes served else gives_all to bytes served).accepted ≡ served.accepted
accepted_given true to [] served = refl
accepted_given true to (byte ∷ bytes) served = refl
accepted_given false to bytes served = refl

closed_given : (cut : Bool) (to : ℕ) (bytes : List ℕ) (served : Served) → (if cut then gives_part to bytes served else gives_all to bytes served).closed ≡ served.closed
closed_given true to [] served = refl
closed_given true to (byte ∷ bytes) served = refl
closed_given false to bytes served = refl

accepted_step : (limits : PortLimits) (served : Served) (next : PortEntry) → IsCall limits served next → (after_call served next).accepted ≡ served.accepted + one_if (is_accept next)
unfolding after_call
accepted_step limits served (made.Bound number) is = absurd is
accepted_step limits served (made.Waited awaited ready) is = omega arith
accepted_step limits served (made.Accepted of) is = refl
accepted_step limits served (made.Took of bytes room) is = let same = accepted_taken of bytes served in omega arith
accepted_step limits served (made.Gave to bytes offered) is = let same = accepted_given (nat_lt (length bytes) offered) to bytes served in omega arith
accepted_step limits served (made.Closed of) is = omega arith
accepted_step limits served (made.Failed call.Bind) is = absurd is
accepted_step limits served (made.Failed call.Wait) is = omega arith
accepted_step limits served (made.Failed call.Accept) is = omega arith
accepted_step limits served (made.Failed (call.Take of)) is = omega arith
accepted_step limits served (made.Failed (call.Give to)) is = omega arith

closed_step : (limits : PortLimits) (served : Served) (next : PortEntry) → IsCall limits served next → (after_call served next).closed ≡ served.closed + one_if (is_close next)
unfolding after_call
closed_step limits served (made.Bound number) is = absurd is
closed_step limits served (made.Waited awaited ready) is = omega arith
closed_step limits served (made.Accepted of) is = omega arith
closed_step limits served (made.Took of bytes room) is = let same = closed_taken of bytes served in omega arith
closed_step limits served (made.Gave to bytes offered) is = let same = closed_given (nat_lt (length bytes) offered) to bytes served in omega arith
closed_step limits served (made.Closed of) is = refl
closed_step limits served (made.Failed call.Bind) is = absurd is
closed_step limits served (made.Failed call.Wait) is = omega arith
closed_step limits served (made.Failed call.Accept) is = omega arith
closed_step limits served (made.Failed (call.Take of)) is = omega arith
closed_step limits served (made.Failed (call.Give to)) is = omega arith

counted : (count : Served → ℕ) (is_one : PortEntry → Bool) (limits : PortLimits)
    → ((served : Served) (next : PortEntry) → IsCall limits served next → count (after_call served next) ≡ count served + one_if (is_one next))
    → (served : Served) (calls : List PortEntry) → AreCalls limits served calls → count (served_after served calls) ≡ count served + count_by is_one calls
unfolding served_after AreCalls
counted count is_one limits step served [] are = omega arith
counted count is_one limits step served (next ∷ calls) are =
    let rest = counted count is_one limits step (after_call served next) calls are.1 in
    let one = step served next are.0 in
    let more : count_by is_one (next ∷ calls) ≡ one_if (is_one next) + count_by is_one calls = sum_by-cons (λ (made_call : PortEntry). cond (is_one made_call) 1 0) next calls in
    omega arith

-- so many connections were accepted, and so many closed
pub accepted_counted : (limits : PortLimits) (calls : List PortEntry) → AreCalls limits fresh_served calls → (served_after fresh_served calls).accepted ≡ count_by is_accept calls
accepted_counted limits calls are = let all = counted (λ served. served.accepted) is_accept limits (accepted_step limits) fresh_served calls are in omega arith

pub closed_counted : (limits : PortLimits) (calls : List PortEntry) → AreCalls limits fresh_served calls → (served_after fresh_served calls).closed ≡ count_by is_close calls
closed_counted limits calls are = let all = counted (λ served. served.closed) is_close limits (closed_step limits) fresh_served calls are in omega arith

-- a stop stays
stopped_taken : (of : ℕ) (bytes : List ℕ) (served : Served) → (takes_bytes of bytes served).stopped ≡ served.stopped
stopped_taken of [] served = refl
stopped_taken of (byte ∷ bytes) served = refl

stopped_given : (cut : Bool) (to : ℕ) (bytes : List ℕ) (served : Served) → (if cut then gives_part to bytes served else gives_all to bytes served).stopped ≡ served.stopped
stopped_given true to [] served = refl
stopped_given true to (byte ∷ bytes) served = refl
stopped_given false to bytes served = refl

-- one that was answered was awaited, and so may be
stop_asked : (limits : PortLimits) (served : Served) (awaited : Awaited) → awaited ≡ awaited_of limits served → awaited.stop ≡ true → limits.stops ≡ true
stop_asked limits served awaited is stop = (and_parts limits.stops (not served.stopped) (sym (ap (λ (a : Awaited). a.stop) is) ∙ stop)).0

stopped_step : (limits : PortLimits) (served : Served) (next : PortEntry) → IsCall limits served next → (after_call served next).stopped ≡ true → (served.stopped ≡ true) ⊎ ((limits.stops ≡ true) × (is_stopping next ≡ true))
unfolding after_call
stopped_step limits served (made.Bound number) is stops = absurd is
stopped_step limits served (made.Waited awaited Accepts) is stops = inl stops
stopped_step limits served (made.Waited awaited (Reads conn)) is stops = inl stops
stopped_step limits served (made.Waited awaited Stops) is stops = inr (stop_asked limits served awaited is.1 is.2, refl)
stopped_step limits served (made.Accepted of) is stops = inl stops
stopped_step limits served (made.Took of bytes room) is stops = inl (sym (stopped_taken of bytes served) ∙ stops)
stopped_step limits served (made.Gave to bytes offered) is stops = inl (sym (stopped_given (nat_lt (length bytes) offered) to bytes served) ∙ stops)
stopped_step limits served (made.Closed of) is stops = inl stops
stopped_step limits served (made.Failed call.Bind) is stops = absurd is
stopped_step limits served (made.Failed call.Wait) is stops = inl stops
stopped_step limits served (made.Failed call.Accept) is stops = inl stops
stopped_step limits served (made.Failed (call.Take of)) is stops = inl stops
stopped_step limits served (made.Failed (call.Give to)) is stops = inl stops

stopped_by : (limits : PortLimits) (served : Served) (calls : List PortEntry) → AreCalls limits served calls → (served_after served calls).stopped ≡ true → (served.stopped ≡ true) ⊎ WasStopped limits calls
unfolding served_after AreCalls
stopped_by limits served [] are stops = inl stops
stopped_by limits served (next ∷ calls) are stops = elim (stopped_by limits (after_call served next) calls are.1 stops) [
  | inl here ↦ by (stopped_step limits served next are.0 here)
  | inr later ↦ inr (later.0, let sum = more in let some = later.1 in omega arith)
]
  where
    more : count_by is_stopping (next ∷ calls) ≡ one_if (is_stopping next) + count_by is_stopping calls
    more = sum_by-cons (λ (made_call : PortEntry). cond (is_stopping made_call) 1 0) next calls

    by : (served.stopped ≡ true) ⊎ ((limits.stops ≡ true) × (is_stopping next ≡ true)) → (served.stopped ≡ true) ⊎ WasStopped limits (next ∷ calls)
    by (inl before) = inl before
    by (inr now) = inr (now.0, (let sum = more in let one : one_if (is_stopping next) ≡ 1 = ap one_if now.1 in omega arith))

-- what is over ends so
pub ends_over : (limits : PortLimits) (calls : List PortEntry) → AreCalls limits fresh_served calls → IsOver limits (served_after fresh_served calls).accepted (served_after fresh_served calls).closed (served_after fresh_served calls).stopped
    → EndsAfter limits calls session_end.Finished
ends_over limits calls are over = (
  sym (closed_counted limits calls are) ∙ over.0 ∙ accepted_counted limits calls are,
  elim (or_cases ((served_after fresh_served calls).accepted == limits.conns) (served_after fresh_served calls).stopped over.1) [
    | inl last ↦ inl (sym (accepted_counted limits calls are) ∙ eqb-true (served_after fresh_served calls).accepted limits.conns last)
    | inr stop ↦ by (stopped_by limits fresh_served calls are stop)
  ],
)
  where
    by : (false ≡ true) ⊎ WasStopped limits calls → (count_by is_accept calls ≡ limits.conns) ⊎ WasStopped limits calls
    by (inl never) = absurd (let wrong : ⊥ = cc in wrong)
    by (inr was) = inr was

-- at each call no more are open than may be
few_step : (limits : PortLimits) (served : Served) (next : PortEntry) → IsCall limits served next → served.accepted ≤ served.closed + limits.at_once → one_if (is_accept next) + served.accepted ≤ served.closed + limits.at_once
few_step limits served (made.Accepted of) is few =
    let less : served.accepted < served.closed + limits.at_once = ltb-true served.accepted (served.closed + limits.at_once) (and_parts (nat_lt served.accepted limits.conns) (nat_lt served.accepted (served.closed + limits.at_once))
    (and_parts (not served.stopped) (nat_lt served.accepted limits.conns && nat_lt served.accepted (served.closed + limits.at_once)) is.1).1).1 in omega (arith, less)
few_step limits served (made.Bound number) is few = absurd is
few_step limits served (made.Waited awaited ready) is few = omega arith
few_step limits served (made.Took of bytes room) is few = omega arith
few_step limits served (made.Gave to bytes offered) is few = omega arith
few_step limits served (made.Closed of) is few = omega arith
few_step limits served (made.Failed failed) is few = omega arith

few_after : (limits : PortLimits) (served : Served) (calls : List PortEntry) → AreCalls limits served calls → served.accepted ≤ served.closed + limits.at_once
    → (served_after served calls).accepted ≤ (served_after served calls).closed + limits.at_once
unfolding served_after AreCalls
few_after limits served [] are few = few
few_after limits served (next ∷ calls) are few =
    let accepts = accepted_step limits served next are.0 in
    let closes = closed_step limits served next are.0 in
    let step = few_step limits served next are.0 few in
    few_after limits (after_call served next) calls are.1 (omega arith)

are_front : (limits : PortLimits) (served : Served) (front rest : List PortEntry) → AreCalls limits served (front ++ rest) → AreCalls limits served front
unfolding AreCalls
are_front limits served [] rest are = tt
are_front limits served (next ∷ front) rest are = (are.0, are_front limits (after_call served next) front rest are.1)

pub open_at_most : (limits : PortLimits) (calls : List PortEntry) → AreCalls limits fresh_served calls → OpenAtMost limits.at_once calls
open_at_most limits calls are = λ front within.
    let there : AreCalls limits fresh_served front = are_front limits fresh_served front within.0 (subst (AreCalls limits fresh_served) (sym within.1) are) in
    let accepts = accepted_counted limits front there in
    let closes = closed_counted limits front there in
    let few = few_after limits fresh_served front there (omega arith) in
    omega arith
