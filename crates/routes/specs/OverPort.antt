-- What came and went in a session over a port.
use Rattle.std.specs.Prelude.{◌≡◌, ◌⊎◌, ℕ, ◌<◌, List, ◌++◌, count_by, Option, None, Some, IfSome}
use Rattle.session_history.specs.declared.ends.SessionEnd.TheVariants as session_end
use Rattle.routes.specs.Terms.{sent_to, Entry, events_in, received_from, PortEntry, PortLimits, AreCalls, IsOver, entries_of, fresh_served, served_after, with_ends, SessionEnd, Session, journal_of, Bounds, Rules, passed_in}
use Rattle.routes.specs.PortCalls.{OpenAtMost, WasStopped, given_to, is_accept, is_close, taken_of}

-- All that came and went is what these calls made of the connections. No call tells the end, which is answered only where all that were
-- accepted are closed, and no more are to come: as many as the limits say were accepted, or a stop was asked for.
pub record MadeBy (limits : PortLimits) (calls : List PortEntry) (entries : List Entry) : Type 0 where
  pub ends : ℕ
  pub ended : 0 < ends → IsOver limits (served_after fresh_served calls).accepted (served_after fresh_served calls).closed (served_after fresh_served calls).stopped
  pub entries_are : entries ≡ with_ends ends (entries_of (served_after fresh_served calls))

-- for each connection the gives took what was passed to it, and the takes gave its pieces
pub record MovedBy (bounds : Bounds) (calls : List PortEntry) (entries : List Entry) : Type 0 where
  pub given : (conn : ℕ) → given_to conn calls ≡ sent_to conn (passed_in bounds entries)
  pub taken : (conn : ℕ) → taken_of conn calls ≡ received_from conn (events_in entries)

-- At Finished each connection that was accepted was closed, and as many were accepted as the limits say, unless a stop was asked for.
abbrev pub EndsAfter : PortLimits → List PortEntry → SessionEnd → Type 0
EndsAfter limits calls session_end.Finished = (count_by is_close calls ≡ count_by is_accept calls) × ((count_by is_accept calls ≡ limits.conns) ⊎ WasStopped limits calls)
EndsAfter limits calls end = Unit {0}

-- The calls of a session, behind those that the port told before: each such as a link makes there, where a port was just bound; what they
-- made is all that came and went in the session; and at no time more connections were open than may be at once.
pub record CalledPort (limits : PortLimits) (rules : Rules) (old new : List PortEntry) (session : Session) : Type 0 where
  pub calls : List PortEntry
  pub grew : new ≡ old ++ calls
  pub are : AreCalls limits fresh_served calls
  pub made : MadeBy limits calls (journal_of session)
  pub moved : MovedBy rules.bounds calls (journal_of session)
  pub at_most : OpenAtMost limits.at_once calls
  pub ends : IfSome session.came (EndsAfter limits calls)

-- where the port tells its calls
abbrev pub GoesOverPort : PortLimits → Rules → Option (List PortEntry) → Option (List PortEntry) → Session → Type 0
GoesOverPort limits rules None None session = Unit {0}
GoesOverPort limits rules None (Some new) session = ⊥
GoesOverPort limits rules (Some old) None session = ⊥
GoesOverPort limits rules (Some old) (Some new) session = CalledPort limits rules old new session
