-- The end is answered only behind the last connection.
use Rattle.links.specs.declared.journal.Entry.TheVariants as entry
use Rattle.links.specs.declared.journal.LinkEvent.TheVariants as event
use Rattle.ports.specs.declared.port_calls.PortEntry.TheVariants as made
use Rattle.ports.specs.declared.port_calls.FailedCall.TheVariants as call
use Rattle.port_link.proofs.Terms.{Bool, List, Option, Some, [], ap, arith, false, if◌then◌else◌, length, nat_lt, refl, suc, sym, true, unwrap_or, zero, ℕ, ◌||◌, ◌++◌, ◌<◌, ◌==◌, ◌∙◌, ◌∷◌, ◌≡◌, Entry, LinkEvent, HasEnded, last_taken, PortEntry, Place, PortLimits, Stage, Broken, Closed, Dropped, Ended, Open, Unopened, IsAt, IsOver, Served, after_call, closed_entries, entries_of, fresh_served, gives_all, gives_part, served_after, served_of, takes_bytes, with_part, Stands, link_journal, with_ends}

took_last : (entries : List Entry) (taken : LinkEvent) → last_taken (entries ++ entry.Took taken ∷ []) ≡ Some taken
took_last [] taken = refl
took_last (entry.Gave conn bytes gone ∷ entries) taken = took_last entries taken
took_last (entry.Took first ∷ entries) taken = ap (λ (found : Option LinkEvent). Some (unwrap_or found first)) (took_last entries taken)

gave_last : (entries : List Entry) (conn : ℕ) (bytes : List ℕ) (gone : Bool) → last_taken (entries ++ entry.Gave conn bytes gone ∷ []) ≡ last_taken entries
gave_last [] conn bytes gone = refl
gave_last (entry.Gave to first lost ∷ entries) conn bytes gone = gave_last entries conn bytes gone
gave_last (entry.Took first ∷ entries) conn bytes gone = ap (λ (found : Option LinkEvent). Some (unwrap_or found first)) (gave_last entries conn bytes gone)

part_last : (entries : List Entry) (conn : ℕ) (part : List ℕ) → last_taken (with_part entries conn part) ≡ last_taken entries
part_last entries conn [] = refl
part_last entries conn (byte ∷ part) = gave_last entries conn (byte ∷ part) false

abbrev NotEnded : List Entry → Type 0
NotEnded entries = HasEnded entries → ⊥

took_opens : (entries : List Entry) (conn : ℕ) → NotEnded (entries ++ entry.Took (event.Opens conn) ∷ [])
took_opens entries conn = λ ended. let same : Some (event.Opens conn) ≡ Some event.Ends = sym (took_last entries (event.Opens conn)) ∙ ended in cc

took_piece : (entries : List Entry) (conn : ℕ) (bytes : List ℕ) → NotEnded (entries ++ entry.Took (event.Piece conn bytes) ∷ [])
took_piece entries conn bytes = λ ended. let same : Some (event.Piece conn bytes) ≡ Some event.Ends = sym (took_last entries (event.Piece conn bytes)) ∙ ended in cc

took_closes : (entries : List Entry) (conn : ℕ) → NotEnded (entries ++ entry.Took (event.Closes conn) ∷ [])
took_closes entries conn = λ ended. let same : Some (event.Closes conn) ≡ Some event.Ends = sym (took_last entries (event.Closes conn)) ∙ ended in cc

took_bytes : (conn : ℕ) (bytes : List ℕ) (served : Served) → NotEnded (takes_bytes conn bytes served).entries
took_bytes conn [] served = took_closes (entries_of served) conn
took_bytes conn (byte ∷ bytes) served = took_piece (entries_of served) conn (byte ∷ bytes)

closed_last : (stage : Stage) (conn : ℕ) (entries : List Entry) → NotEnded entries → NotEnded (closed_entries stage conn entries)
closed_last Unopened conn entries not = not
closed_last Open conn entries not = not
closed_last Ended conn entries not = not
closed_last Broken conn entries not = took_closes entries conn
closed_last Dropped conn entries not = not
closed_last Closed conn entries not = not

with_last : (entries : List Entry) (conn : ℕ) (part : List ℕ) → NotEnded entries → NotEnded (with_part entries conn part)
with_last entries conn part not = λ ended. not (sym (part_last entries conn part) ∙ ended)

part_not : (conn : ℕ) (bytes : List ℕ) (served : Served) → NotEnded served.entries → NotEnded (gives_part conn bytes served).entries
part_not conn [] served not = not
part_not conn (byte ∷ bytes) served not = not

gave_not : (test : Bool) (conn : ℕ) (bytes : List ℕ) (served : Served) → NotEnded served.entries → NotEnded (if test then gives_part conn bytes served else gives_all conn bytes served).entries
gave_not true conn bytes served not = part_not conn bytes served not
gave_not false conn bytes served not = λ ended. not (sym (gave_last served.entries conn (served.part ++ bytes) false) ∙ ended)

after_not : (served : Served) (next : PortEntry) → NotEnded served.entries → NotEnded (after_call served next).entries
unfolding after_call
after_not served (made.Bound number) not = λ ended. cc
after_not served (made.Waited awaited ready) not = not
after_not served (made.Accepted conn) not = took_opens (entries_of served) conn
after_not served (made.Took conn bytes room) not = took_bytes conn bytes served
after_not served (made.Gave conn bytes offered) not = gave_not (nat_lt (length bytes) offered) conn bytes served not
after_not served (made.Closed conn) not = closed_last (served.stages conn) conn (entries_of served) (with_last served.entries served.to served.part not)
after_not served (made.Failed call.Bind) not = not
after_not served (made.Failed call.Wait) not = not
after_not served (made.Failed call.Accept) not = not
after_not served (made.Failed (call.Take conn)) not = took_bytes conn [] served
after_not served (made.Failed (call.Give conn)) not = λ ended. not (sym (gave_last served.entries conn (served.part ++ []) true) ∙ ended)

calls_not : (served : Served) (calls : List PortEntry) → NotEnded served.entries → NotEnded (served_after served calls).entries
unfolding served_after
calls_not served [] not = not
calls_not served (next ∷ calls) not = calls_not (after_call served next) calls (after_not served next not)

some_ends : (ends : ℕ) (entries : List Entry) → NotEnded entries → HasEnded (with_ends ends entries) → 0 < ends
some_ends zero entries not ended = absurd (not ended)
some_ends (suc n) entries not ended = omega arith

-- what is over where a link stands is over where its calls lead
pub over_at : (limits : PortLimits) (place : Place) (served : Served) → IsAt place served → IsOver limits place.accepted place.closed place.stopped → IsOver limits served.accepted served.closed served.stopped
over_at limits place served at over = (
  at.closed ∙ over.0 ∙ sym at.accepted,
  ap (λ (n : ℕ). (n == limits.conns) || served.stopped) at.accepted ∙ ap (λ (stopped : Bool). (place.accepted == limits.conns) || stopped) at.stopped ∙ over.1,
)

-- a link that has ended has answered its end
pub ended_counts : (place : Place) (calls : List PortEntry) → HasEnded (link_journal place (served_of calls)) → 0 < place.ends
unfolding link_journal served_of
ended_counts place calls ended =
    let served : Served = served_after fresh_served calls in
    some_ends place.ends (entries_of served) (with_last served.entries served.to served.part (calls_not fresh_served calls (λ none. cc))) ended

-- all connections that were accepted are closed, and no more are to come
pub ended_whole : (told : Option (List PortEntry)) (connections : List Bool) (limits : PortLimits) (place : Place) (calls : List PortEntry) → Stands told connections limits place → told ≡ Some calls
    → HasEnded (link_journal place (served_of calls)) → IsOver limits (served_of calls).accepted (served_of calls).closed (served_of calls).stopped
ended_whole told connections limits place calls stands is ended = over_at limits place (served_of calls) (stands.agrees calls is) (stands.ended (ended_counts place calls ended))
