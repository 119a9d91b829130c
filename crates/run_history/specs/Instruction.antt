-- One instruction other than a call (RISC-V unprivileged manual, "RV32I Base Integer Instruction Set" and the "M"
-- standard extension). What the operations give is in `Meaning`.
use Rattle.std.specs.Prelude.{ℕ, ◌+◌, ◌%◌, ℤ, List, if◌then◌else◌, ◌==◌}
use Rattle.rv_isa.specs.declared.instr.ImmOp.{ImmOp}
use Rattle.rv_isa.specs.declared.instr.RegOp.{RegOp}
use Rattle.run_history.specs.Terms.{BranchOp, LoadOp, StoreOp, displaced, imm_value_of, indirect_target, is_taken, load_size, loaded, store_size, to_word, value_of, little_bytes, little_number, Area, bytes_at, permitted, put_bytes, read, write, AssertFailed, BadAccess, BadJump}
use Rattle.run_history.specs.Machine.{Machine, register, with_register, next_pc, Effect, Goes, Fails}

-- the machine goes on at an address, with these registers and this memory
abbrev pub goes_on : ℕ → List ℕ → List Area → Machine → Effect
goes_on pc registers memory m = Goes (record m { pc = pc; registers = registers; memory = memory; since = m.since + 1 })

-- a register is written, and the next instruction follows
abbrev pub writes : ℕ → ℕ → Machine → Effect
writes rd value m = goes_on (next_pc m) (with_register rd value m.registers) m.memory m

-- a jump, which writes these registers, to a target that has to be a multiple of 4
abbrev pub jumps : ℕ → List ℕ → Machine → Effect
jumps target registers m = if target % 4 == 0 then goes_on target registers m.memory m else Fails BadJump

-- LUI: the U-immediate goes into rd
abbrev pub lui : ℕ → ℤ → Machine → Effect
lui rd imm m = writes rd (to_word imm) m

-- AUIPC: the sum of pc and the U-immediate goes into rd
abbrev pub auipc : ℕ → ℤ → Machine → Effect
auipc rd imm m = writes rd (displaced m.pc imm) m

-- JAL: a jump relative to pc; the address of the next instruction goes into rd
abbrev pub jal : ℕ → ℤ → Machine → Effect
jal rd imm m = jumps (displaced m.pc imm) (with_register rd (next_pc m) m.registers) m

-- JALR: a jump relative to rs1; the address of the next instruction goes into rd
abbrev pub jalr : ℕ → ℕ → ℤ → Machine → Effect
jalr rd rs1 imm m = jumps (indirect_target (register m rs1) imm) (with_register rd (next_pc m) m.registers) m

-- conditional branches: a jump relative to pc where the comparison of rs1 and rs2 holds
abbrev pub branch : BranchOp → ℕ → ℕ → ℤ → Machine → Effect
branch op rs1 rs2 imm m =
    if is_taken op (register m rs1) (register m rs2)
    then jumps (displaced m.pc imm) m.registers m
    else goes_on (next_pc m) m.registers m.memory m

-- loads: a number of memory at an address relative to rs1 goes into rd
abbrev pub load : LoadOp → ℕ → ℕ → ℤ → Machine → Effect
load op rd rs1 imm m =
    let at = displaced (register m rs1) imm in
    if permitted read m.memory at (load_size op)
    then writes rd (loaded op (little_number (bytes_at read m.memory at (load_size op)))) m
    else Fails BadAccess

-- stores: the lowest bytes of rs2 go into memory at an address relative to rs1
abbrev pub store : StoreOp → ℕ → ℕ → ℤ → Machine → Effect
store op rs1 rs2 imm m =
    let at = displaced (register m rs1) imm in
    if permitted write m.memory at (store_size op)
    then goes_on (next_pc m) m.registers (put_bytes m.memory at (little_bytes (store_size op) (register m rs2))) m
    else Fails BadAccess

-- Integer Register-Immediate Instructions: rs1 and an immediate give rd
abbrev pub op_imm : ImmOp → ℕ → ℕ → ℤ → Machine → Effect
op_imm op rd rs1 imm m = writes rd (imm_value_of op (register m rs1) imm) m

-- Integer Register-Register Operations: rs1 and rs2 give rd
abbrev pub op : RegOp → ℕ → ℕ → ℕ → Machine → Effect
op operation rd rs1 rs2 m = writes rd (value_of operation (register m rs1) (register m rs2)) m

-- memory is accessed in order, one instruction after another: an ordering has nothing to do
abbrev pub fence : Machine → Effect
fence m = goes_on (next_pc m) m.registers m.memory m

-- a breakpoint that no debugger takes is a failed assertion
abbrev pub ebreak : Machine → Effect
ebreak m = Fails (AssertFailed 0)
