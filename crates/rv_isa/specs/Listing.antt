-- The listing of the instructions, to be laid beside the manual's: RISC-V unprivileged manual, "RV32/64G Instruction
-- Set Listings", tables RV32I and RV32M. A line says which words are that instruction with those operands.
use Rattle.std.specs.Prelude.{ℕ, ℤ, pos, ◌≡◌}
use Rattle.rv_isa.specs.Terms.{BranchOp, Beq, Bge, Bgeu, Blt, Bltu, Bne, ImmOp, Addi, Andi, Ori, Slli, Slti, Sltiu, Srai, Srli, Xori, Instr, Auipc, Branch, Ebreak, Ecall, Fence, Jal, Jalr, Load, Lui, Op, OpImm, Store, LoadOp, Lb, Lbu, Lh, Lhu, Lw, RegOp, Add, And, Div, Divu, Mul, Mulh, Mulhsu, Mulhu, Or, Rem, Remu, Sll, Slt, Sltu, Sra, Srl, Sub, Xor, StoreOp, Sb, Sh, Sw}
use Rattle.rv_isa.specs.Words.{opcode, rd, funct3, rs1, rs2, funct7, imm_i, imm_s, imm_b, imm_u, imm_j}

-- The formats: the fixed fields of a word (its opcode, funct3 and funct7) and then its operands. RV32I, "Base
-- Instruction Formats" and "Immediate Encoding Variants".
pub record IsFormatR (word code three seven d s1 s2 : ℕ) : Type 0 where
  pub code_is : opcode word ≡ code
  pub funct3_is : funct3 word ≡ three
  pub funct7_is : funct7 word ≡ seven
  pub rd_is : rd word ≡ d
  pub rs1_is : rs1 word ≡ s1
  pub rs2_is : rs2 word ≡ s2

pub record IsFormatI (word code three d s1 : ℕ) (imm : ℤ) : Type 0 where
  pub code_is : opcode word ≡ code
  pub funct3_is : funct3 word ≡ three
  pub rd_is : rd word ≡ d
  pub rs1_is : rs1 word ≡ s1
  pub imm_is : imm_i word ≡ imm

-- the I format of a shift, whose immediate is an amount in the place of rs2 and a fixed field in that of funct7
pub record IsFormatShift (word code three seven d s1 : ℕ) (amount : ℤ) : Type 0 where
  pub code_is : opcode word ≡ code
  pub funct3_is : funct3 word ≡ three
  pub funct7_is : funct7 word ≡ seven
  pub rd_is : rd word ≡ d
  pub rs1_is : rs1 word ≡ s1
  pub amount_is : pos (rs2 word) ≡ amount

pub record IsFormatS (word code three s1 s2 : ℕ) (imm : ℤ) : Type 0 where
  pub code_is : opcode word ≡ code
  pub funct3_is : funct3 word ≡ three
  pub rs1_is : rs1 word ≡ s1
  pub rs2_is : rs2 word ≡ s2
  pub imm_is : imm_s word ≡ imm

pub record IsFormatB (word code three s1 s2 : ℕ) (imm : ℤ) : Type 0 where
  pub code_is : opcode word ≡ code
  pub funct3_is : funct3 word ≡ three
  pub rs1_is : rs1 word ≡ s1
  pub rs2_is : rs2 word ≡ s2
  pub imm_is : imm_b word ≡ imm

pub record IsFormatU (word code d : ℕ) (imm : ℤ) : Type 0 where
  pub code_is : opcode word ≡ code
  pub rd_is : rd word ≡ d
  pub imm_is : imm_u word ≡ imm

pub record IsFormatJ (word code d : ℕ) (imm : ℤ) : Type 0 where
  pub code_is : opcode word ≡ code
  pub rd_is : rd word ≡ d
  pub imm_is : imm_j word ≡ imm

-- RV32I, "Conditional Branches": funct3
abbrev pub branch_code : BranchOp → ℕ
branch_code Beq = 0b000
branch_code Bne = 0b001
branch_code Blt = 0b100
branch_code Bge = 0b101
branch_code Bltu = 0b110
branch_code Bgeu = 0b111

-- RV32I, "Load and Store Instructions": funct3
abbrev pub load_code : LoadOp → ℕ
load_code Lb = 0b000
load_code Lh = 0b001
load_code Lw = 0b010
load_code Lbu = 0b100
load_code Lhu = 0b101

-- RV32I, "Load and Store Instructions": funct3 of a store
abbrev pub store_code : StoreOp → ℕ
store_code Sb = 0b000
store_code Sh = 0b001
store_code Sw = 0b010

-- RV32I, "Integer Register-Immediate Instructions": funct3, and funct7 of the shifts
abbrev pub IsImmRow : ℕ → ImmOp → ℕ → ℕ → ℤ → Type 0
IsImmRow word Addi d s1 imm = IsFormatI word 0b0010011 0b000 d s1 imm
IsImmRow word Slti d s1 imm = IsFormatI word 0b0010011 0b010 d s1 imm
IsImmRow word Sltiu d s1 imm = IsFormatI word 0b0010011 0b011 d s1 imm
IsImmRow word Xori d s1 imm = IsFormatI word 0b0010011 0b100 d s1 imm
IsImmRow word Ori d s1 imm = IsFormatI word 0b0010011 0b110 d s1 imm
IsImmRow word Andi d s1 imm = IsFormatI word 0b0010011 0b111 d s1 imm
IsImmRow word Slli d s1 imm = IsFormatShift word 0b0010011 0b001 0b0000000 d s1 imm
IsImmRow word Srli d s1 imm = IsFormatShift word 0b0010011 0b101 0b0000000 d s1 imm
IsImmRow word Srai d s1 imm = IsFormatShift word 0b0010011 0b101 0b0100000 d s1 imm

-- RV32I, "Integer Register-Register Operations", and "M" standard extension: funct3 and funct7
abbrev pub IsRegRow : ℕ → RegOp → ℕ → ℕ → ℕ → Type 0
IsRegRow word Add d s1 s2 = IsFormatR word 0b0110011 0b000 0b0000000 d s1 s2
IsRegRow word Sub d s1 s2 = IsFormatR word 0b0110011 0b000 0b0100000 d s1 s2
IsRegRow word Sll d s1 s2 = IsFormatR word 0b0110011 0b001 0b0000000 d s1 s2
IsRegRow word Slt d s1 s2 = IsFormatR word 0b0110011 0b010 0b0000000 d s1 s2
IsRegRow word Sltu d s1 s2 = IsFormatR word 0b0110011 0b011 0b0000000 d s1 s2
IsRegRow word Xor d s1 s2 = IsFormatR word 0b0110011 0b100 0b0000000 d s1 s2
IsRegRow word Srl d s1 s2 = IsFormatR word 0b0110011 0b101 0b0000000 d s1 s2
IsRegRow word Sra d s1 s2 = IsFormatR word 0b0110011 0b101 0b0100000 d s1 s2
IsRegRow word Or d s1 s2 = IsFormatR word 0b0110011 0b110 0b0000000 d s1 s2
IsRegRow word And d s1 s2 = IsFormatR word 0b0110011 0b111 0b0000000 d s1 s2
IsRegRow word Mul d s1 s2 = IsFormatR word 0b0110011 0b000 0b0000001 d s1 s2
IsRegRow word Mulh d s1 s2 = IsFormatR word 0b0110011 0b001 0b0000001 d s1 s2
IsRegRow word Mulhsu d s1 s2 = IsFormatR word 0b0110011 0b010 0b0000001 d s1 s2
IsRegRow word Mulhu d s1 s2 = IsFormatR word 0b0110011 0b011 0b0000001 d s1 s2
IsRegRow word Div d s1 s2 = IsFormatR word 0b0110011 0b100 0b0000001 d s1 s2
IsRegRow word Divu d s1 s2 = IsFormatR word 0b0110011 0b101 0b0000001 d s1 s2
IsRegRow word Rem d s1 s2 = IsFormatR word 0b0110011 0b110 0b0000001 d s1 s2
IsRegRow word Remu d s1 s2 = IsFormatR word 0b0110011 0b111 0b0000001 d s1 s2

-- The words that are an instruction. LUI and AUIPC: RV32I, "Integer Register-Immediate Instructions"; JAL and JALR:
-- "Unconditional Jumps"; FENCE: "Memory Ordering Instructions"; ECALL and EBREAK: "Environment Call and Breakpoints".
abbrev pub IsRow : ℕ → Instr → Type 0
IsRow word (Lui d imm) = IsFormatU word 0b0110111 d imm
IsRow word (Auipc d imm) = IsFormatU word 0b0010111 d imm
IsRow word (Jal d imm) = IsFormatJ word 0b1101111 d imm
IsRow word (Jalr d s1 imm) = IsFormatI word 0b1100111 0b000 d s1 imm
IsRow word (Branch op s1 s2 imm) = IsFormatB word 0b1100011 (branch_code op) s1 s2 imm
IsRow word (Load op d s1 imm) = IsFormatI word 0b0000011 (load_code op) d s1 imm
IsRow word (Store op s1 s2 imm) = IsFormatS word 0b0100011 (store_code op) s1 s2 imm
IsRow word (OpImm op d s1 imm) = IsImmRow word op d s1 imm
IsRow word (Op op d s1 s2) = IsRegRow word op d s1 s2
IsRow word (Fence whole) = (opcode word ≡ 0b0001111) × (funct3 word ≡ 0b000) × (word ≡ whole)
IsRow word Ecall = word ≡ 0x00000073
IsRow word Ebreak = word ≡ 0x00100073
