-- The operands that an instruction word can hold, by its format. RISC-V unprivileged manual, RV32I, "Base
-- Instruction Formats" and "Immediate Encoding Variants".
use Rattle.std.specs.Prelude.{ℕ, ◌<◌, ◌≡◌, ◌-◌, ◌^◌, ◌%◌, ℤ, pos, neg_ℤ, unsigned_abs, ◌≤ℤ◌, ◌<ℤ◌}
use Rattle.rv_isa.specs.Terms.{ImmOp, Addi, Andi, Ori, Slli, Slti, Sltiu, Srai, Srli, Xori, Instr, Auipc, Branch, Ebreak, Ecall, Fence, Jal, Jalr, Load, Lui, Op, OpImm, Store}
use Rattle.rv_isa.specs.Words.{opcode, funct3}

-- the number of one of the registers x0 to x31
abbrev pub IsRegister : ℕ → Type 0
IsRegister number = number < 32

-- an immediate that so many bits of two's complement hold, and a multiple of the unit of its format
pub record IsImmediate (bits unit : ℕ) (imm : ℤ) : Type 0 where
  pub least : neg_ℤ (pos (2 ^ (bits - 1))) ≤ℤ imm
  pub below : imm <ℤ pos (2 ^ (bits - 1))
  pub whole : unsigned_abs imm % unit ≡ 0

-- the amount of a shift
pub record IsShift (imm : ℤ) : Type 0 where
  pub least : pos 0 ≤ℤ imm
  pub below : imm <ℤ pos 32

-- the immediate of an operation, which is an amount where it shifts
abbrev pub IsOperand : ImmOp → ℤ → Type 0
IsOperand Addi imm = IsImmediate 12 1 imm
IsOperand Slti imm = IsImmediate 12 1 imm
IsOperand Sltiu imm = IsImmediate 12 1 imm
IsOperand Xori imm = IsImmediate 12 1 imm
IsOperand Ori imm = IsImmediate 12 1 imm
IsOperand Andi imm = IsImmediate 12 1 imm
IsOperand Slli imm = IsShift imm
IsOperand Srli imm = IsShift imm
IsOperand Srai imm = IsShift imm

-- each operand of the instruction is in the range of its format
abbrev pub IsInRange : Instr → Type 0
IsInRange (Lui rd imm) = IsRegister rd × IsImmediate 32 4096 imm
IsInRange (Auipc rd imm) = IsRegister rd × IsImmediate 32 4096 imm
IsInRange (Jal rd imm) = IsRegister rd × IsImmediate 21 2 imm
IsInRange (Jalr rd rs1 imm) = IsRegister rd × IsRegister rs1 × IsImmediate 12 1 imm
IsInRange (Branch op rs1 rs2 imm) = IsRegister rs1 × IsRegister rs2 × IsImmediate 13 2 imm
IsInRange (Load op rd rs1 imm) = IsRegister rd × IsRegister rs1 × IsImmediate 12 1 imm
IsInRange (Store op rs1 rs2 imm) = IsRegister rs1 × IsRegister rs2 × IsImmediate 12 1 imm
IsInRange (OpImm op rd rs1 imm) = IsRegister rd × IsRegister rs1 × IsOperand op imm
IsInRange (Op op rd rs1 rs2) = IsRegister rd × IsRegister rs1 × IsRegister rs2
IsInRange (Fence word) = (opcode word ≡ 0b0001111) × (funct3 word ≡ 0b000) × (word < 2 ^ 32)
IsInRange Ecall = Unit {0}
IsInRange Ebreak = Unit {0}
