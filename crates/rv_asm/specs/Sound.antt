-- What holds behind lines that aren't wrong: the sections are small, and each statement can be written.
use Rattle.std.specs.Prelude.{◌+◌, ◌^◌, ◌<◌, ◌≤◌}
use Rattle.rv_asm.specs.Terms.{All, IsInRange, IsRegister, Statement, Placed, Spot}
use Rattle.rv_asm.specs.declared.layout.Layout.{Layout}
use Rattle.asm_lines.specs.declared.statement.Statement.TheVariants as statement
use Rattle.rv_asm.specs.Places.{Definition}
use Rattle.rv_asm.specs.declared.layout.TheConstants.{MOST_BYTES}

-- the operands of a statement are those that its words can hold
abbrev pub IsEncodable : Statement → Type 0
IsEncodable (statement.Instruction instr) = IsInRange instr
IsEncodable (statement.Branch op rs1 rs2 name) = IsRegister rs1 × IsRegister rs2
IsEncodable (statement.Jump rd name) = IsRegister rd
IsEncodable (statement.LoadNumber rd value) = IsRegister rd × (value < 2 ^ 32)
IsEncodable (statement.LoadAddress rd name) = IsRegister rd
IsEncodable _ = Unit {0}

-- a statement without a label
abbrev pub IsPlain : Statement → Type 0
IsPlain (statement.Branch op rs1 rs2 name) = ⊥
IsPlain (statement.Jump rd name) = ⊥
IsPlain (statement.LoadAddress rd name) = ⊥
IsPlain (statement.Address name) = ⊥
IsPlain _ = Unit {0}

-- a place that no section passes
abbrev pub IsSmall : Spot → Type 0
IsSmall spot = spot.offset ≤ MOST_BYTES

abbrev pub IsDefined : Definition → Type 0
IsDefined definition = IsSmall definition.spot

pub record IsReady (placed : Placed) : Type 0 where
  pub small : IsSmall placed.spot
  pub encodable : IsEncodable placed.statement

pub record IsSound (layout : Layout) : Type 0 where
  pub within : layout.text_size + layout.data_size ≤ MOST_BYTES
  pub labels : All IsDefined layout.labels
  pub statements : All IsReady layout.statements
