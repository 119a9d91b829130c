-- What the calls on a port add to the list of calls that it tells.
use Rattle.std.specs.Prelude.{◌≡◌, ℕ, List, [], ◌∷◌, ◌++◌, length, take, Option, Some, None, Result, Ok, Err}
use Rattle.ports.specs.Terms.{Awaited, IoFault, Failed, Memory, PortEntry, Ready}
use Rattle.ports.specs.declared.port_calls.PortEntry.TheVariants as entry
use Rattle.ports.specs.declared.port_calls.FailedCall.{FailedCall}
use Rattle.ports.specs.declared.port_calls.FailedCall.TheVariants as call

-- these entries stand behind those that were told; a port that tells none never does
abbrev pub Logs : Option (List PortEntry) → Option (List PortEntry) → List PortEntry → Type 0
Logs None None entries = Unit {0}
Logs None (Some new) entries = ⊥
Logs (Some old) None entries = ⊥
Logs (Some old) (Some new) entries = new ≡ old ++ entries

-- the entry of a call that wasn't done: none where memory ran out
abbrev pub fault_entry : FailedCall → IoFault → List PortEntry
fault_entry asked Failed = entry.Failed asked ∷ []
fault_entry asked Memory = []

-- a call's entry: none where memory ran out
abbrev pub entry_of : {T : Type 0} → (T → PortEntry) → FailedCall → Result T IoFault → List PortEntry
entry_of done asked (Ok answer) = done answer ∷ []
entry_of done asked (Err fault) = fault_entry asked fault

-- a bind at this port and its answer were told
abbrev pub PortBinds : Option (List PortEntry) → Option (List PortEntry) → ℕ → Result (Unit {0}) IoFault → Type 0
PortBinds old new port result = Logs old new (entry_of (λ _. entry.Bound port) call.Bind result)

-- a wait and its answer were told
abbrev pub PortWaits : Option (List PortEntry) → Option (List PortEntry) → Awaited → Result Ready IoFault → Type 0
PortWaits old new awaited result = Logs old new (entry_of (λ ready. entry.Waited awaited ready) call.Wait result)

-- an accept of the connection with this number and its answer were told
abbrev pub PortAccepts : Option (List PortEntry) → Option (List PortEntry) → ℕ → Result (Unit {0}) IoFault → Type 0
PortAccepts old new conn result = Logs old new (entry_of (λ _. entry.Accepted conn) call.Accept result)

-- at `Ok n` the first n bytes of the buffer were taken of the connection
abbrev pub PortTakes : Option (List PortEntry) → Option (List PortEntry) → ℕ → Result ℕ IoFault → List ℕ → Type 0
PortTakes old new conn result buffer = Logs old new (entry_of (λ n. entry.Took conn (take n buffer) (length buffer)) (call.Take conn) result)

-- at `Ok n` the first n of the bytes were given to the connection
abbrev pub PortGives : Option (List PortEntry) → Option (List PortEntry) → ℕ → Result ℕ IoFault → List ℕ → Type 0
PortGives old new conn result bytes = Logs old new (entry_of (λ n. entry.Gave conn (take n bytes) (length bytes)) (call.Give conn) result)

-- the entry of a close, which can't fail
abbrev pub closed : ℕ → List PortEntry
closed conn = entry.Closed conn ∷ []
