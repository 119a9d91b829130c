-- What the calls on a port make of its connections, as the journal of a link.
use Rattle.std.specs.Prelude.{◌≡◌, ℕ, ◌+◌, ◌<◌, nat_lt, ◌==◌, ◌&&◌, ◌||◌, not, Bool, true, false, List, [], ◌∷◌, ◌++◌, length, Option, None, Some, if◌then◌else◌}
use Rattle.port_link.specs.Terms.{Awaited, Entry, LinkEvent, PortEntry, Ready, Accepts, Reads, Stops}
use Rattle.port_link.specs.declared.place.PortLimits.{PortLimits}
use Rattle.port_link.specs.declared.place.Stage.{Stage}
use Rattle.port_link.specs.declared.place.Stage.TheVariants.{Broken, Closed, Dropped, Ended, Open, Unopened}
use Rattle.port_link.specs.Stages.{is_present, broken}
use Rattle.links.specs.declared.journal.Entry.TheVariants as entry
use Rattle.links.specs.declared.journal.LinkEvent.TheVariants as event
use Rattle.ports.specs.declared.port_calls.FailedCall.TheVariants as call
use Rattle.ports.specs.declared.port_calls.PortEntry.TheVariants as made

-- Where calls lead: the stage of each connection; how many were accepted, and how many of these were closed; the journal; what went
-- out of a piece of which not all did yet, with its connection; what the last wait answered, until that is done; and whether a wait answered a stop.
pub record Served : Type 0 where
  pub stages : ℕ → Stage
  pub accepted : ℕ
  pub closed : ℕ
  pub entries : List Entry
  pub to : ℕ
  pub part : List ℕ
  pub ready : Option Ready
  pub stopped : Bool

-- behind a bind
abbrev pub fresh_served : Served
fresh_served = record { stages = λ conn. Unopened; accepted = 0; closed = 0; entries = []; to = 0; part = []; ready = None; stopped = false }

-- the stages with another one for a connection
abbrev pub with_stage : ℕ → Stage → (ℕ → Stage) → ℕ → Stage
with_stage conn stage stages other = if other == conn then stage else stages other

-- a journal with some first bytes of a piece behind it, or with none
abbrev pub with_part : List Entry → ℕ → List ℕ → List Entry
with_part entries conn [] = entries
with_part entries conn (byte ∷ bytes) = entries ++ entry.Gave conn (byte ∷ bytes) false ∷ []

-- all that went in and out
abbrev pub entries_of : Served → List Entry
entries_of served = with_part served.entries served.to served.part

-- an event of a connection is answered
abbrev pub takes_event : ℕ → Stage → LinkEvent → Served → Served
takes_event conn stage taken served = record served { stages = with_stage conn stage served.stages; entries = entries_of served ++ entry.Took taken ∷ []; part = []; ready = None }

-- a connection was accepted
abbrev pub opens : ℕ → Served → Served
opens conn served = record (takes_event conn Open (event.Opens conn) served) { accepted = served.accepted + 1 }

-- bytes that were taken are a piece; none are the end of the connection's input, and so its close
abbrev pub takes_bytes : ℕ → List ℕ → Served → Served
takes_bytes conn [] served = takes_event conn Ended (event.Closes conn) served
takes_bytes conn (byte ∷ bytes) served = record served { entries = entries_of served ++ entry.Took (event.Piece conn (byte ∷ bytes)) ∷ []; part = []; ready = None }

-- all bytes of a piece went out; some first ones did, and more follow; some did, or none, and the connection is gone
abbrev pub gives_all : ℕ → List ℕ → Served → Served
gives_all conn bytes served = record served { entries = served.entries ++ entry.Gave conn (served.part ++ bytes) false ∷ []; to = conn; part = [] }

abbrev pub gives_part : ℕ → List ℕ → Served → Served
gives_part conn [] served = served
gives_part conn (byte ∷ bytes) served = record served { to = conn; part = served.part ++ byte ∷ bytes }

abbrev pub gives_gone : ℕ → List ℕ → Served → Served
gives_gone conn bytes served = record served {
  stages = with_stage conn (broken (served.stages conn)) served.stages;
  entries = served.entries ++ entry.Gave conn (served.part ++ bytes) true ∷ [];
  to = conn;
  part = [];
}

-- behind a failed give a connection's close was answered, if it is closed
abbrev pub closed_entries : Stage → ℕ → List Entry → List Entry
closed_entries Broken conn entries = entries ++ entry.Took (event.Closes conn) ∷ []
closed_entries Unopened conn entries = entries
closed_entries Open conn entries = entries
closed_entries Ended conn entries = entries
closed_entries Dropped conn entries = entries
closed_entries Closed conn entries = entries

-- a connection was closed
abbrev pub closes : ℕ → Served → Served
closes conn served = record served {
  stages = with_stage conn Closed served.stages;
  closed = served.closed + 1;
  entries = closed_entries (served.stages conn) conn (entries_of served);
  part = [];
}

-- a wait or an accept failed: what was answered to the last wait is used up
abbrev pub without_ready : Served → Served
without_ready served = record served { ready = None }

-- whether it is a stop
abbrev pub is_stop : Ready → Bool
is_stop Accepts = false
is_stop (Reads conn) = false
is_stop Stops = true

-- a wait answered this; what was stopped stays so
abbrev pub with_ready : Ready → Served → Served
with_ready ready served = record served { ready = Some ready; stopped = is_stop ready || served.stopped }

-- The call makes this of what was served. A bind begins anew. Of a wait it is kept what it answered, and of a stop for good. The end of a connection's input and a take that fails
-- are its close; a give that fails is a piece whose connection is gone. Gives of the rest of a piece belong to it.
unfoldable pub after_call : Served → PortEntry → Served
after_call served (made.Bound number) = fresh_served
after_call served (made.Waited awaited ready) = with_ready ready served
after_call served (made.Accepted conn) = opens conn served
after_call served (made.Took conn bytes room) = takes_bytes conn bytes served
after_call served (made.Gave conn bytes offered) = if nat_lt (length bytes) offered then gives_part conn bytes served else gives_all conn bytes served
after_call served (made.Closed conn) = closes conn served
after_call served (made.Failed call.Bind) = served
after_call served (made.Failed call.Wait) = without_ready served
after_call served (made.Failed call.Accept) = without_ready served
after_call served (made.Failed (call.Take conn)) = takes_bytes conn [] served
after_call served (made.Failed (call.Give conn)) = gives_gone conn [] served

-- several calls do
unfoldable pub served_after : Served → List PortEntry → Served
served_after served [] = served
served_after served (call ∷ calls) = served_after (after_call served call) calls

-- all calls on a port do
unfoldable pub served_of : List PortEntry → Served
served_of calls = served_after fresh_served calls

-- A connection may be closed: the end of its input was found, or a take or a give of it failed.
abbrev pub is_closable : Stage → Bool
is_closable Unopened = false
is_closable Open = false
is_closable Ended = true
is_closable Broken = true
is_closable Dropped = false
is_closable Closed = false

-- whether a client may be accepted: no stop was asked for, fewer connections than the link has were accepted, and fewer are open than may be at the same time
abbrev pub can_accept : PortLimits → Served → Bool
can_accept limits served = not served.stopped && (nat_lt served.accepted limits.conns && nat_lt served.accepted (served.closed + limits.at_once))

-- what is awaited besides the open connections: a client, where one may be accepted; and a stop, where the link may be stopped, and wasn't
abbrev pub awaited_of : PortLimits → Served → Awaited
awaited_of limits served = record { client = can_accept limits served; stop = limits.stops && not served.stopped }

-- a stop is answered only where it was awaited
abbrev pub StopsAwaited : Awaited → Ready → Type 0
StopsAwaited awaited Accepts = Unit {0}
StopsAwaited awaited (Reads conn) = Unit {0}
StopsAwaited awaited Stops = awaited.stop ≡ true

-- each connection that may be closed was
abbrev pub HasClosed : Served → Type 0
HasClosed served = (conn : ℕ) → is_closable (served.stages conn) ≡ false

-- where some first bytes of a piece went out alone, the next give is of its rest, and so to the same connection
abbrev pub GoesOn : List ℕ → ℕ → ℕ → Type 0
GoesOn [] to conn = Unit {0}
GoesOn (byte ∷ part) to conn = to ≡ conn

-- A link makes such a call there. It waits where each connection that is gone was closed, for a client exactly where one may be accepted, and for a stop
-- exactly where it may be stopped and wasn't. It accepts where the last wait answered that a client can be accepted; it takes into 4096 bytes, from the connection that the last wait answered, whose
-- end wasn't found; it gives to one that isn't closed; it closes one that is gone; it binds never.
abbrev pub IsCall : PortLimits → Served → PortEntry → Type 0
IsCall limits served (made.Bound number) = ⊥
IsCall limits served (made.Waited awaited ready) = HasClosed served × (awaited ≡ awaited_of limits served) × StopsAwaited awaited ready
IsCall limits served (made.Accepted conn) = (conn ≡ served.accepted) × (can_accept limits served ≡ true) × (served.ready ≡ Some Accepts)
IsCall limits served (made.Took conn bytes room) = (served.stages conn ≡ Open) × (room ≡ 4096) × (served.ready ≡ Some (Reads conn))
IsCall limits served (made.Gave conn bytes offered) = (is_present (served.stages conn) ≡ true) × (0 < length bytes) × GoesOn served.part served.to conn
IsCall limits served (made.Closed conn) = is_closable (served.stages conn) ≡ true
IsCall limits served (made.Failed call.Bind) = ⊥
IsCall limits served (made.Failed call.Wait) = HasClosed served
IsCall limits served (made.Failed call.Accept) = (can_accept limits served ≡ true) × (served.ready ≡ Some Accepts)
IsCall limits served (made.Failed (call.Take conn)) = (served.stages conn ≡ Open) × (served.ready ≡ Some (Reads conn))
IsCall limits served (made.Failed (call.Give conn)) = (is_present (served.stages conn) ≡ true) × GoesOn served.part served.to conn

-- all connections that were accepted are closed, and no more are to come: so many were, or the link was stopped
abbrev pub IsOver : PortLimits → ℕ → ℕ → Bool → Type 0
IsOver limits accepted closed stopped = (closed ≡ accepted) × (((accepted == limits.conns) || stopped) ≡ true)

-- such calls, one after another
unfoldable pub AreCalls : PortLimits → Served → List PortEntry → Type 0
AreCalls limits served [] = Unit {0}
AreCalls limits served (call ∷ calls) = IsCall limits served call × AreCalls limits (after_call served call) calls
