-- The instruction table: the row of a word is the one whose fixed fields are the word's. RISC-V unprivileged
-- manual, "RV32/64G Instruction Set Listings"; beside each row the chapter that gives its meaning.
use Rattle.std.specs.Prelude.{ℕ, Option, Some, None, option_map, pos, if◌then◌else◌, ◌==◌, ◌||◌}
use Rattle.rv_isa.specs.Terms.{BranchOp, Beq, Bge, Bgeu, Blt, Bltu, Bne, ImmOp, Addi, Andi, Ori, Slli, Slti, Sltiu, Srai, Srli, Xori, Instr, Auipc, Branch, Ebreak, Ecall, Fence, Jal, Jalr, Load, Lui, Op, OpImm, Store, LoadOp, Lb, Lbu, Lh, Lhu, Lw, RegOp, Add, And, Div, Divu, Mul, Mulh, Mulhsu, Mulhu, Or, Rem, Remu, Sll, Slt, Sltu, Sra, Srl, Sub, Xor, StoreOp, Sb, Sh, Sw}
use Rattle.rv_isa.specs.Words.{opcode, rd, funct3, rs1, rs2, funct7, imm_i, imm_s, imm_b, imm_u, imm_j}

-- the indirect jump (opcode 1100111): RV32I, "Unconditional Jumps"
unfoldable pub jalr_row : ℕ → Option Instr
jalr_row word = if funct3 word == 0b000 then Some (Jalr (rd word) (rs1 word) (imm_i word)) else None

-- conditional branches (opcode 1100011), by funct3: RV32I, "Conditional Branches"
unfoldable pub branch_op : ℕ → Option BranchOp
branch_op three =
    if three == 0b000 then Some Beq else
    if three == 0b001 then Some Bne else
    if three == 0b100 then Some Blt else
    if three == 0b101 then Some Bge else
    if three == 0b110 then Some Bltu else
    if three == 0b111 then Some Bgeu else
    None

-- a word with the opcode of conditional branches
unfoldable pub branch_row : ℕ → Option Instr
branch_row word = option_map (λ op. Branch op (rs1 word) (rs2 word) (imm_b word)) (branch_op (funct3 word))

-- loads (opcode 0000011), by funct3: RV32I, "Load and Store Instructions"
unfoldable pub load_op : ℕ → Option LoadOp
load_op three =
    if three == 0b000 then Some Lb else
    if three == 0b001 then Some Lh else
    if three == 0b010 then Some Lw else
    if three == 0b100 then Some Lbu else
    if three == 0b101 then Some Lhu else
    None

-- a word with the opcode of loads
unfoldable pub load_row : ℕ → Option Instr
load_row word = option_map (λ op. Load op (rd word) (rs1 word) (imm_i word)) (load_op (funct3 word))

-- stores (opcode 0100011), by funct3: RV32I, "Load and Store Instructions"
unfoldable pub store_op : ℕ → Option StoreOp
store_op three =
    if three == 0b000 then Some Sb else
    if three == 0b001 then Some Sh else
    if three == 0b010 then Some Sw else
    None

-- a word with the opcode of stores
unfoldable pub store_row : ℕ → Option Instr
store_row word = option_map (λ op. Store op (rs1 word) (rs2 word) (imm_s word)) (store_op (funct3 word))

-- operations with an immediate (opcode 0010011), by funct3: RV32I, "Integer Register-Immediate Instructions"
unfoldable pub imm_op : ℕ → Option ImmOp
imm_op three =
    if three == 0b000 then Some Addi else
    if three == 0b010 then Some Slti else
    if three == 0b011 then Some Sltiu else
    if three == 0b100 then Some Xori else
    if three == 0b110 then Some Ori else
    if three == 0b111 then Some Andi else
    None

-- shifts by an immediate (the same opcode), by funct7 and funct3; the amount stands in the place of rs2
unfoldable pub shift_op : ℕ → ℕ → Option ImmOp
shift_op seven three =
    if seven == 0b0000000
    then (if three == 0b001 then Some Slli else if three == 0b101 then Some Srli else None)
    else if seven == 0b0100000
    then (if three == 0b101 then Some Srai else None)
    else None

-- a word with the opcode of operations on an immediate that is a shift
unfoldable pub shift_row : ℕ → Option Instr
shift_row word = option_map (λ op. OpImm op (rd word) (rs1 word) (pos (rs2 word))) (shift_op (funct7 word) (funct3 word))

-- a word with the opcode of operations on a register and an immediate
unfoldable pub imm_row : ℕ → Option Instr
imm_row word =
    if funct3 word == 0b001 || funct3 word == 0b101
    then shift_row word
    else option_map (λ op. OpImm op (rd word) (rs1 word) (imm_i word)) (imm_op (funct3 word))

-- operations on registers (opcode 0110011), by funct3; with funct7 0000000 and 0100000: RV32I, "Integer
-- Register-Register Operations"
unfoldable pub base_op : ℕ → Option RegOp
base_op three =
    if three == 0b000 then Some Add else
    if three == 0b001 then Some Sll else
    if three == 0b010 then Some Slt else
    if three == 0b011 then Some Sltu else
    if three == 0b100 then Some Xor else
    if three == 0b101 then Some Srl else
    if three == 0b110 then Some Or else
    if three == 0b111 then Some And else
    None

-- with funct7 0100000: subtraction, and the right shift that keeps the sign
unfoldable pub second_op : ℕ → Option RegOp
second_op three = if three == 0b000 then Some Sub else if three == 0b101 then Some Sra else None

-- with funct7 0000001: "M" standard extension, "Multiplication Operations" and "Division Operations"
unfoldable pub multiply_op : ℕ → Option RegOp
multiply_op three =
    if three == 0b000 then Some Mul else
    if three == 0b001 then Some Mulh else
    if three == 0b010 then Some Mulhsu else
    if three == 0b011 then Some Mulhu else
    if three == 0b100 then Some Div else
    if three == 0b101 then Some Divu else
    if three == 0b110 then Some Rem else
    if three == 0b111 then Some Remu else
    None

-- the operation on two registers that funct7 and funct3 tell
unfoldable pub reg_op : ℕ → ℕ → Option RegOp
reg_op seven three =
    if seven == 0b0000000 then base_op three else
    if seven == 0b0100000 then second_op three else
    if seven == 0b0000001 then multiply_op three else
    None

-- a word with the opcode of operations on two registers
unfoldable pub op_row : ℕ → Option Instr
op_row word = option_map (λ op. Op op (rd word) (rs1 word) (rs2 word)) (reg_op (funct7 word) (funct3 word))

-- the ordering of memory accesses (opcode 0001111), whatever its other fields are: RV32I, "Memory Ordering
-- Instructions"
unfoldable pub fence_row : ℕ → Option Instr
fence_row word = if funct3 word == 0b000 then Some (Fence word) else None

-- the environment call and the breakpoint (opcode 1110011), one word each: RV32I, "Environment Call and Breakpoints"
unfoldable pub system_row : ℕ → Option Instr
system_row word =
    if word == 0x00000073 then Some Ecall else
    if word == 0x00100073 then Some Ebreak else
    None

-- The row of a word, by its opcode. LUI and AUIPC: RV32I, "Integer Register-Immediate Instructions"; JAL:
-- "Unconditional Jumps".
unfoldable pub row : ℕ → Option Instr
row word =
    if opcode word == 0b0110111 then Some (Lui (rd word) (imm_u word)) else
    if opcode word == 0b0010111 then Some (Auipc (rd word) (imm_u word)) else
    if opcode word == 0b1101111 then Some (Jal (rd word) (imm_j word)) else
    if opcode word == 0b1100111 then jalr_row word else
    if opcode word == 0b1100011 then branch_row word else
    if opcode word == 0b0000011 then load_row word else
    if opcode word == 0b0100011 then store_row word else
    if opcode word == 0b0010011 then imm_row word else
    if opcode word == 0b0110011 then op_row word else
    if opcode word == 0b0001111 then fence_row word else
    if opcode word == 0b1110011 then system_row word else
    None
