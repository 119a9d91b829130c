-- The labels that the passes of the code hold. Nothing here is promised to callers of the crate.
use Rattle.std.specs.Prelude.{ℕ, List, [], ◌∷◌, Option, Some, None, bytes_eq, if◌then◌else◌}
use Rattle.rv_asm.specs.Terms.{Spot}

-- a label and its place
pub record Definition : Type 0 where
  pub name : List ℕ
  pub spot : Spot

abbrev pub definition_of : List ℕ → Spot → Definition
definition_of name spot = record { name = name; spot = spot }

-- the place of a label
abbrev pub spot_of : List Definition → List ℕ → Option Spot
spot_of [] name = None
spot_of (definition ∷ definitions) name = if bytes_eq name definition.name then Some definition.spot else spot_of definitions name
