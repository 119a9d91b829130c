-- Where a link stands over a port.
use Rattle.std.specs.Prelude.{◌≡◌, ◌≢◌, ℕ, zero, suc, ◌+◌, ◌<◌, ◌≤◌, Bool, false, List, [], ◌∷◌, ◌++◌, length, Option, None, Some}
use Rattle.port_link.specs.Terms.{Entry, told_by, Phases, Told, PortEntry, Ready, is_open, open_count}
use Rattle.port_link.specs.declared.place.Closing.{Closing}
use Rattle.port_link.specs.declared.place.Closing.TheVariants.{Nothing, Due, Made}
use Rattle.port_link.specs.declared.place.PortLimits.{PortLimits}
use Rattle.port_link.specs.declared.place.Place.{Place}
use Rattle.port_link.specs.declared.place.Stage.{Stage}
use Rattle.port_link.specs.declared.place.Stage.TheVariants.{Dropped, Ended, Unopened}
use Rattle.port_link.specs.Served.{IsOver, Served, fresh_served, entries_of, served_of}
use Rattle.port_link.specs.StageTables.{stage_in}
use Rattle.port_link.specs.Stages.{is_done, is_given, is_present, shown, phase_of}
use Rattle.links.specs.declared.journal.Entry.TheVariants as entry
use Rattle.links.specs.declared.journal.LinkEvent.TheVariants as event

-- the stage of a connection
abbrev pub stage_at : Place → ℕ → Stage
stage_at place conn = stage_in place.stages conn

-- the calls lead to where the link stands
pub record IsAt (place : Place) (served : Served) : Type 0 where
  pub stages : (conn : ℕ) → served.stages conn ≡ shown (stage_at place conn)
  pub accepted : served.accepted ≡ place.accepted
  pub closed : served.closed ≡ place.closed
  pub stopped : served.stopped ≡ place.stopped

abbrev pub Agrees : Option (List PortEntry) → Place → Type 0
Agrees told place = (calls : List PortEntry) → told ≡ Some calls → IsAt place (served_of calls)

-- the last wait answered this, and that wasn't done yet
abbrev pub WasReady : Ready → Option (List PortEntry) → Type 0
WasReady ready told = (calls : List PortEntry) → told ≡ Some calls → (served_of calls).ready ≡ Some ready

-- of no piece a part alone went out last
abbrev pub IsWhole : Option (List PortEntry) → Type 0
IsWhole told = (calls : List PortEntry) → told ≡ Some calls → (served_of calls).part ≡ []

-- a bind was the last call on a port, but for such that change nothing, if it tells its calls
abbrev pub IsJustBound : Option (List PortEntry) → Type 0
IsJustBound told = (calls : List PortEntry) → told ≡ Some calls → served_of calls ≡ fresh_served

-- no other connection is one whose close was answered last
abbrev pub NoOther : ℕ → List Stage → Type 0
NoOther conn stages = (other : ℕ) → other ≢ conn → is_done (stage_in stages other) ≡ false

-- which connection's close was answered last: it is to be closed, or it was closed before
pub record IsClosing (closing : Closing) (stages : List Stage) : Type 0 where
  pub nothing : closing ≡ Nothing → (conn : ℕ) → is_done (stage_in stages conn) ≡ false
  pub due : (conn : ℕ) → closing ≡ Due conn → stage_in stages conn ≡ Ended
  pub due_alone : (conn : ℕ) → closing ≡ Due conn → NoOther conn stages
  pub made : (conn : ℕ) → closing ≡ Made conn → stage_in stages conn ≡ Dropped
  pub made_alone : (conn : ℕ) → closing ≡ Made conn → NoOther conn stages

-- A link over a port that tells these calls, and has these connections. It ends behind so many or behind a stop, and has at most so many open at the same time.
pub record Stands (told : Option (List PortEntry)) (connections : List Bool) (limits : PortLimits) (place : Place) : Type 0 where
  pub agrees : Agrees told place
  pub room : length place.stages ≡ 4096
  pub present : (conn : ℕ) → is_open conn connections ≡ is_present (stage_at place conn)
  pub accepted : length connections ≡ place.accepted
  pub count : open_count connections + place.closed ≡ place.accepted
  pub behind : (conn : ℕ) → place.accepted ≤ conn → stage_at place conn ≡ Unopened
  pub closing : IsClosing place.closing place.stages
  pub most : place.accepted ≤ limits.conns
  pub at_once : place.accepted ≤ place.closed + limits.at_once
  pub ended : 0 < place.ends → IsOver limits place.accepted place.closed place.stopped

-- the end was answered so often
abbrev pub with_ends : ℕ → List Entry → List Entry
with_ends zero entries = entries
with_ends (suc n) entries = with_ends n entries ++ entry.Took event.Ends ∷ []

-- the journal of a link that stands there, over what its calls lead to
unfoldable pub link_journal : Place → Served → List Entry
link_journal place served = with_ends place.ends (entries_of served)

-- what it tells: its journal, where the port tells its calls
unfoldable pub told_at : Option (List PortEntry) → Place → Told
told_at None place = record { events = None; pieces = None; journal = None }
told_at (Some calls) place = told_by (link_journal place (served_of calls))

-- the phase of each connection
abbrev pub phases_at : Place → Phases
phases_at place conn = phase_of (stage_at place conn)

-- to which connections it gives
abbrev pub gives_at : Place → ℕ → Bool
gives_at place conn = is_given (stage_at place conn)
