-- The calls on a port, by what they moved on each connection, by how many connections they opened and closed, and by whether a stop was asked for.
use Rattle.std.specs.Prelude.{◌≡◌, ℕ, ◌+◌, ◌==◌, ◌<◌, ◌≤◌, Bool, true, false, List, [], count_by, flat_map, if◌then◌else◌}
use Rattle.ports.specs.declared.port_calls.PortEntry.TheVariants as made
use Rattle.routes.specs.Terms.{Prefix, PortEntry, PortLimits, is_stop}

-- whether a call accepted a connection, and whether it closed one
abbrev pub is_accept : PortEntry → Bool
is_accept (made.Accepted conn) = true
is_accept _ = false

abbrev pub is_close : PortEntry → Bool
is_close (made.Closed conn) = true
is_close _ = false

-- whether a wait answered that a stop was asked for
abbrev pub is_stopping : PortEntry → Bool
is_stopping (made.Waited awaited ready) = is_stop ready
is_stopping _ = false

-- a stop was asked for, by limits under which it may be
abbrev pub WasStopped : PortLimits → List PortEntry → Type 0
WasStopped limits calls = (limits.stops ≡ true) × (0 < count_by is_stopping calls)

-- the bytes that a call gave to this connection, and those that it took of it
abbrev pub bytes_given : ℕ → PortEntry → List ℕ
bytes_given conn (made.Gave to bytes offered) = if to == conn then bytes else []
bytes_given conn _ = []

abbrev pub bytes_taken : ℕ → PortEntry → List ℕ
bytes_taken conn (made.Took of bytes room) = if of == conn then bytes else []
bytes_taken conn _ = []

-- all that calls gave to a connection, and all that they took of it
abbrev pub given_to : ℕ → List PortEntry → List ℕ
given_to conn calls = flat_map (bytes_given conn) calls

abbrev pub taken_of : ℕ → List PortEntry → List ℕ
taken_of conn calls = flat_map (bytes_taken conn) calls

-- at no time more than so many connections were open: of those that were accepted all others were closed
abbrev pub OpenAtMost : ℕ → List PortEntry → Type 0
OpenAtMost at_once calls = (front : List PortEntry) → Prefix front calls → count_by is_accept front ≤ count_by is_close front + at_once
