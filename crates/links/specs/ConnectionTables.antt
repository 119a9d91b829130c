-- The phases of connections as a table, and the order of events as a test.
use Rattle.std.specs.Prelude.{nat_lt, Bool, true, false, ◌&&◌, slice_index_or, if◌then◌else◌}
use Rattle.links.specs.Terms.{LinkEvent}
use Rattle.links.specs.Links.{Phase, Unopened, Open, Closed, Phases}
use Rattle.links.specs.declared.connection_table.ConnectionTable.{ConnectionTable}
use Rattle.links.specs.declared.connection_table.State.{State}
use Rattle.links.specs.declared.connection_table.State.TheVariants as state
use Rattle.links.specs.declared.journal.LinkEvent.TheVariants as event

-- whether a connection never opened
abbrev pub is_unopened : Phase → Bool
is_unopened Unopened = true
is_unopened Open = false
is_unopened Closed = false

-- whether a connection opened and hasn't closed since
abbrev pub is_open : Phase → Bool
is_open Unopened = false
is_open Open = true
is_open Closed = false

-- an event is in order for its connection, which is below 4096
abbrev pub is_in_order : Phases → LinkEvent → Bool
is_in_order phases (event.Opens conn) = nat_lt conn 4096 && is_unopened (phases conn)
is_in_order phases (event.Piece conn bytes) = nat_lt conn 4096 && is_open (phases conn)
is_in_order phases (event.Closes conn) = nat_lt conn 4096 && is_open (phases conn)
is_in_order phases event.Settles = true
is_in_order phases event.Ends = true

-- the phase that a table's entry stands for
abbrev pub phase_of : State → Phase
phase_of state.Unopened = Unopened
phase_of state.Open = Open
phase_of state.Closed = Closed

-- the phases that a table has; connections from 4096 on were never opened
abbrev pub phases_in : ConnectionTable → Phases
phases_in table conn = if nat_lt conn 4096 then phase_of (slice_index_or table.states conn state.Unopened) else Unopened
