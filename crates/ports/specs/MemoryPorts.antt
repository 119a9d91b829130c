-- What the port in memory of which certain calls fail has, and what its calls do.
use Rattle.std.specs.Prelude.{◌≡◌, ℕ, Bool, true, false, List, Result, Ok, Err}
use Rattle.ports.specs.Terms.{IoFault, PortEntry, Ready}
use Rattle.ports.specs.Connections.{is_open}
use Rattle.ports.specs.PortPlans.{PortPlan, port_fails}
use Rattle.ports.specs.Scripts.{no_input}
use Rattle.ports.specs.TamePorts.{tame_calls, tame_connections, tame_inputs}
use Rattle.ports.specs.declared.port_calls.PortCall.TheVariants as call
use Rattle.ports.specs.declared.memory_port.MemoryPort.{MemoryPort}
use Rattle.ports.specs.declared.tame_port.TamePort.{TamePort}

-- its connections, as of a port that never fails
abbrev pub clients_of : MemoryPort → TamePort
clients_of c = c.port

-- the calls that were made of it, each with its answer, in order
abbrev pub memory_calls : MemoryPort → List PortEntry
memory_calls c = tame_calls (clients_of c)

-- of each connection that was accepted, whether it is open
abbrev pub memory_connections : MemoryPort → List Bool
memory_connections c = tame_connections (clients_of c)

-- which of its calls are to fail
abbrev pub port_plan : MemoryPort → PortPlan
port_plan c = c.fails

-- whether the next accept fails: it is to fail, or no input is left
abbrev pub accept_fails : MemoryPort → Bool
accept_fails c = port_fails call.Accept (no_input (tame_inputs (clients_of c))) (port_plan c)
