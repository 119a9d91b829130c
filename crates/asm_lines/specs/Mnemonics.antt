-- The table of statements: each mnemonic, and the form of its operands (RISC-V unprivileged manual, RV32I and the "M"
-- standard extension; "RISC-V Assembly Programmer's Manual", pseudoinstructions).
use Rattle.std.specs.Prelude.{ℕ, Bool, true, false, List, [], ◌∷◌, Option, codes}
use Rattle.rv_isa.specs.declared.instr.BranchOp.TheVariants as branch
use Rattle.rv_isa.specs.declared.instr.LoadOp.TheVariants as load
use Rattle.rv_isa.specs.declared.instr.StoreOp.TheVariants as store
use Rattle.rv_isa.specs.declared.instr.ImmOp.TheVariants as imm
use Rattle.rv_isa.specs.declared.instr.RegOp.TheVariants as reg
use Rattle.asm_lines.specs.declared.form.Form.{Form}
use Rattle.asm_lines.specs.declared.form.Form.TheVariants as form
use Rattle.asm_lines.specs.declared.form.Section.{Section}
use Rattle.asm_lines.specs.declared.form.Section.TheVariants as section
use Rattle.asm_lines.specs.Bytes.{look_up}

unfoldable pub mnemonic_table : List (List ℕ × Form)
mnemonic_table =
    -- rd, rs1, rs2
    (codes "add", form.Op reg.Add) ∷ (codes "sub", form.Op reg.Sub) ∷ (codes "sll", form.Op reg.Sll) ∷ (codes "slt", form.Op reg.Slt)
    ∷ (codes "sltu", form.Op reg.Sltu) ∷ (codes "xor", form.Op reg.Xor) ∷ (codes "srl", form.Op reg.Srl) ∷ (codes "sra", form.Op reg.Sra)
    ∷ (codes "or", form.Op reg.Or) ∷ (codes "and", form.Op reg.And) ∷ (codes "mul", form.Op reg.Mul) ∷ (codes "mulh", form.Op reg.Mulh)
    ∷ (codes "mulhsu", form.Op reg.Mulhsu) ∷ (codes "mulhu", form.Op reg.Mulhu) ∷ (codes "div", form.Op reg.Div) ∷ (codes "divu", form.Op reg.Divu)
    ∷ (codes "rem", form.Op reg.Rem) ∷ (codes "remu", form.Op reg.Remu)
    -- rd, rs1, number
    ∷ (codes "addi", form.OpImm imm.Addi) ∷ (codes "slti", form.OpImm imm.Slti) ∷ (codes "sltiu", form.OpImm imm.Sltiu) ∷ (codes "xori", form.OpImm imm.Xori)
    ∷ (codes "ori", form.OpImm imm.Ori) ∷ (codes "andi", form.OpImm imm.Andi) ∷ (codes "slli", form.OpImm imm.Slli) ∷ (codes "srli", form.OpImm imm.Srli)
    ∷ (codes "srai", form.OpImm imm.Srai)
    -- rd, number(rs1); a store has rs2 in place of rd
    ∷ (codes "lb", form.Load load.Lb) ∷ (codes "lh", form.Load load.Lh) ∷ (codes "lw", form.Load load.Lw) ∷ (codes "lbu", form.Load load.Lbu)
    ∷ (codes "lhu", form.Load load.Lhu) ∷ (codes "jalr", form.Jalr)
    ∷ (codes "sb", form.Store store.Sb) ∷ (codes "sh", form.Store store.Sh) ∷ (codes "sw", form.Store store.Sw)
    -- rs1, rs2, label; with one register the other is x0
    ∷ (codes "beq", form.Branch branch.Beq) ∷ (codes "bne", form.Branch branch.Bne) ∷ (codes "blt", form.Branch branch.Blt) ∷ (codes "bge", form.Branch branch.Bge)
    ∷ (codes "bltu", form.Branch branch.Bltu) ∷ (codes "bgeu", form.Branch branch.Bgeu)
    ∷ (codes "beqz", form.BranchZero branch.Beq) ∷ (codes "bnez", form.BranchZero branch.Bne)
    -- rd, label; j and call have the label alone, and rd is x0 or x1
    ∷ (codes "jal", form.Jal) ∷ (codes "j", form.Jump 0) ∷ (codes "call", form.Jump 1) ∷ (codes "la", form.La)
    -- rd, number
    ∷ (codes "lui", form.Lui) ∷ (codes "auipc", form.Auipc) ∷ (codes "li", form.Li)
    -- rd, rs
    ∷ (codes "mv", form.Mv)
    -- no operands
    ∷ (codes "ecall", form.Ecall) ∷ (codes "ebreak", form.Ebreak) ∷ (codes "fence", form.Fence) ∷ (codes "nop", form.Nop) ∷ (codes "ret", form.Ret)
    ∷ (codes ".text", form.Into section.Text) ∷ (codes ".data", form.Into section.Data)
    -- a number or a label; a number; a number of zeros; a text in quotes
    ∷ (codes ".word", form.Word) ∷ (codes ".byte", form.Byte) ∷ (codes ".space", form.Space) ∷ (codes ".ascii", form.Ascii)
    ∷ []

-- the form that a mnemonic asks for
unfoldable pub form_of : List ℕ → Option Form
form_of name = look_up mnemonic_table name

abbrev pub is_text : Section → Bool
is_text section.Text = true
is_text section.Data = false

abbrev pub is_data : Section → Bool
is_data section.Text = false
is_data section.Data = true

-- a statement may stand in this section: instructions stand in text, bytes, zeros and texts in data
abbrev pub stands_in : Section → Form → Bool
stands_in in_force (form.Into _) = true
stands_in in_force form.Word = true
stands_in in_force form.Byte = is_data in_force
stands_in in_force form.Space = is_data in_force
stands_in in_force form.Ascii = is_data in_force
stands_in in_force _ = is_text in_force

-- it gives the section bytes, unless it names a section
abbrev pub gives_bytes : Form → Bool
gives_bytes (form.Into _) = false
gives_bytes _ = true
