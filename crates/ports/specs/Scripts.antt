-- What a script makes a port in memory answer.
use Rattle.std.specs.Prelude.{◌≡◌, ℕ, Bool, true, false, List, [], ◌∷◌, Result, Ok, Err, if◌then◌else◌, position, unwrap_or}
use Rattle.ports.specs.Terms.{Awaited, IoFault, Ready, Accepts, Reads, Stops}
use Rattle.ports.specs.Connections.{is_open}

-- no input is left for a connection
abbrev pub no_input : List (List ℕ) → Bool
no_input [] = true
no_input (input ∷ inputs) = false

-- whether this can be answered now
abbrev pub is_ready : Awaited → List Bool → Ready → Bool
is_ready awaited connections Accepts = awaited.client
is_ready awaited connections (Reads conn) = is_open conn connections
is_ready awaited connections Stops = awaited.stop

-- the open connection with the lowest number
abbrev pub first_open : List Bool → ℕ
first_open connections = unwrap_or (position (λ (is : Bool). is) connections) 0

-- a client, where one may be accepted, and else the open connection with the lowest number
abbrev pub first_ready : Awaited → List Bool → Ready
first_ready awaited connections = if awaited.client then Accepts else Reads (first_open connections)

-- what a wait answers: the script's next line, if that can be now
abbrev pub next_ready : Awaited → List Bool → List Ready → Ready
next_ready awaited connections [] = first_ready awaited connections
next_ready awaited connections (line ∷ lines) = if is_ready awaited connections line then line else first_ready awaited connections

-- the script behind its next line
abbrev pub script_rest : List Ready → List Ready
script_rest [] = []
script_rest (line ∷ lines) = lines

-- a wait answered the script's next line; where memory ran out the script is as it was
abbrev pub WaitsNext : Awaited → List Bool → List Ready → List Ready → Result Ready IoFault → Type 0
WaitsNext awaited connections old new (Ok ready) = (ready ≡ next_ready awaited connections old) × (new ≡ script_rest old)
WaitsNext awaited connections old new (Err fault) = new ≡ old
