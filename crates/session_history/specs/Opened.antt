-- Which connections a session may give to, by its journal.
use Rattle.std.specs.Prelude.{ℕ, List, [], ◌∷◌, Bool, false, not, ◌&&◌, ◌||◌, ◌==◌}
use Rattle.links.specs.declared.journal.Entry.TheVariants as entry
use Rattle.links.specs.declared.journal.LinkEvent.TheVariants as event
use Rattle.session_history.specs.Terms.{Entry, LinkEvent}
use Rattle.session_history.specs.Heeding.{Bounds, events_of, heeded}

-- whether some events open a connection, and whether they close it
abbrev pub opens : ℕ → List LinkEvent → Bool
opens conn [] = false
opens conn (event.Opens opened ∷ events) = (opened == conn) || opens conn events
opens conn (other ∷ events) = opens conn events

abbrev pub closes : ℕ → List LinkEvent → Bool
closes conn [] = false
closes conn (event.Closes closed ∷ events) = (closed == conn) || closes conn events
closes conn (other ∷ events) = closes conn events

-- whether the link answered to a piece that the connection is gone
abbrev pub is_gone : ℕ → List Entry → Bool
is_gone conn [] = false
is_gone conn (entry.Gave to bytes gone ∷ entries) = ((to == conn) && gone) || is_gone conn entries
is_gone conn (other ∷ entries) = is_gone conn entries

-- whether a connection is open: its opening was heeded, no close of it was, and it isn't gone
abbrev pub is_open : Bounds → List Entry → ℕ → Bool
is_open bounds entries conn =
    opens conn (heeded bounds (events_of bounds entries)) && not (closes conn (heeded bounds (events_of bounds entries))) && not (is_gone conn entries)
