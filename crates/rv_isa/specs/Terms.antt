-- The words that this crate's definitions are written in: those of crates below, and types of its code.
pub use Rattle.rv_isa.specs.declared.instr.BranchOp.{BranchOp}
pub use Rattle.rv_isa.specs.declared.instr.BranchOp.TheVariants.{Beq, Bge, Bgeu, Blt, Bltu, Bne}
pub use Rattle.rv_isa.specs.declared.instr.ImmOp.{ImmOp}
pub use Rattle.rv_isa.specs.declared.instr.ImmOp.TheVariants.{Addi, Andi, Ori, Slli, Slti, Sltiu, Srai, Srli, Xori}
pub use Rattle.rv_isa.specs.declared.instr.Instr.{Instr}
pub use Rattle.rv_isa.specs.declared.instr.Instr.TheVariants.{Auipc, Branch, Ebreak, Ecall, Fence, Jal, Jalr, Load, Lui, Op, OpImm, Store}
pub use Rattle.rv_isa.specs.declared.instr.LoadOp.{LoadOp}
pub use Rattle.rv_isa.specs.declared.instr.LoadOp.TheVariants.{Lb, Lbu, Lh, Lhu, Lw}
pub use Rattle.rv_isa.specs.declared.instr.RegOp.{RegOp}
pub use Rattle.rv_isa.specs.declared.instr.RegOp.TheVariants.{Add, And, Div, Divu, Mul, Mulh, Mulhsu, Mulhu, Or, Rem, Remu, Sll, Slt, Sltu, Sra, Srl, Sub, Xor}
pub use Rattle.rv_isa.specs.declared.instr.StoreOp.{StoreOp}
pub use Rattle.rv_isa.specs.declared.instr.StoreOp.TheVariants.{Sb, Sh, Sw}
