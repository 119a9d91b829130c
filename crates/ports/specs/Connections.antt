-- The connections of a port: of each that was accepted, in order, whether it is open.
use Rattle.std.specs.Prelude.{◌≡◌, ℕ, zero, suc, ◌+◌, Bool, true, false, List, [], ◌∷◌, ◌++◌, length, Result, Ok, Err, slice_index_or, slice_set}
use Rattle.ports.specs.Terms.{Awaited, IoFault, Ready, Accepts, Reads, Stops}

-- how many were accepted
abbrev pub accepted : List Bool → ℕ
accepted connections = length connections

-- whether a connection is open; one that wasn't accepted isn't
abbrev pub is_open : ℕ → List Bool → Bool
is_open conn connections = slice_index_or connections conn false

-- how many are open
abbrev pub open_count : List Bool → ℕ
open_count [] = 0
open_count (true ∷ connections) = suc (open_count connections)
open_count (false ∷ connections) = open_count connections

-- a connection was closed
abbrev pub without : ℕ → List Bool → List Bool
without conn connections = slice_set connections conn false

-- behind a bind none was accepted
abbrev pub IsBoundAfter : List Bool → List Bool → Result (Unit {0}) IoFault → Type 0
IsBoundAfter old new (Ok done) = new ≡ []
IsBoundAfter old new (Err fault) = new ≡ old

-- one more was accepted, and is open
abbrev pub IsConnectedAfter : List Bool → List Bool → Result (Unit {0}) IoFault → Type 0
IsConnectedAfter old new (Ok done) = new ≡ old ++ true ∷ []
IsConnectedAfter old new (Err fault) = new ≡ old

-- an open connection can be read of; or a client was awaited and can be accepted; or a stop was awaited, and somebody asked for it
abbrev pub IsReady : Awaited → List Bool → Ready → Type 0
IsReady awaited connections Accepts = awaited.client ≡ true
IsReady awaited connections (Reads conn) = is_open conn connections ≡ true
IsReady awaited connections Stops = awaited.stop ≡ true
