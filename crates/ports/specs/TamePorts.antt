-- What a port in memory has besides the calls that it tells.
use Rattle.std.specs.Prelude.{◌≡◌, ℕ, Bool, List, [], ◌∷◌, ◌++◌, Result, Ok, Err, map, Vec}
use Rattle.std.specs.declared.alloc.Global.{Global}
use Rattle.ports.specs.Terms.{into_iter_items, IoFault, Stream, fresh, PortEntry, Ready}
use Rattle.ports.specs.Inputs.{streams_of}
use Rattle.ports.specs.declared.tame_port.TamePort.{TamePort}

-- the bytes of each input
abbrev pub contents_of_all : List (Vec ℕ Global) → List (List ℕ)
contents_of_all inputs = map (λ v. v.items) inputs

-- the calls that were made of a port, each with its answer, in order
abbrev pub tame_calls : TamePort → List PortEntry
tame_calls c = c.calls.items

-- of each connection that was accepted, whether it is open
abbrev pub tame_connections : TamePort → List Bool
tame_connections c = c.opened.items

-- the inputs of the connections that weren't accepted yet
abbrev pub tame_inputs : TamePort → List (List ℕ)
tame_inputs c = contents_of_all (into_iter_items c.inputs)

-- those of the connections that were
abbrev pub tame_streams : TamePort → List Stream
tame_streams c = streams_of c.begun.items

-- what is to be ready at the waits to come
abbrev pub tame_script : TamePort → List Ready
tame_script c = into_iter_items c.script

-- how many bytes one call takes or gives at most
abbrev pub port_most : TamePort → ℕ
port_most c = c.most

-- the inputs are as they were, and as many bytes as before are moved per call
pub record KeepsInputs (old new : TamePort) : Type 0 where
  pub streams : tame_streams new ≡ tame_streams old
  pub inputs : tame_inputs new ≡ tame_inputs old
  pub most : port_most new ≡ port_most old

-- the next input was begun, or an empty one past the last
abbrev pub Begins : List (List ℕ) → List (List ℕ) → List Stream → List Stream → Type 0
Begins [] inputs old new = (inputs ≡ []) × (new ≡ old ++ fresh [] ∷ [])
Begins (input ∷ rest) inputs old new = (inputs ≡ rest) × (new ≡ old ++ fresh input ∷ [])

-- an accept began the next input; after a fault every input is as it was
abbrev pub AcceptsNext : TamePort → TamePort → Result (Unit {0}) IoFault → Type 0
AcceptsNext old new (Ok done) = Begins (tame_inputs old) (tame_inputs new) (tame_streams old) (tame_streams new) × (port_most new ≡ port_most old)
AcceptsNext old new (Err fault) = KeepsInputs old new

-- behind a bind no input was begun that isn't left
abbrev pub BindsInputs : TamePort → TamePort → Result (Unit {0}) IoFault → Type 0
BindsInputs old new (Ok done) = (tame_streams new ≡ []) × (tame_inputs new ≡ tame_inputs old) × (port_most new ≡ port_most old)
BindsInputs old new (Err fault) = KeepsInputs old new
