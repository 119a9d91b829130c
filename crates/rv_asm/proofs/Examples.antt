-- The definitions at values that were worked out by hand from the assembler's rules and the RISC-V manual's formats.
use Rattle.std.specs.Prelude.{negsuc}
use Rattle.rv_isa.specs.declared.instr.Instr.TheVariants as instr
use Rattle.rv_isa.specs.declared.instr.ImmOp.TheVariants as imm
use Rattle.rv_isa.specs.declared.instr.BranchOp.TheVariants as branch
use Rattle.rv_isa.specs.declared.instr.LoadOp.TheVariants as load
use Rattle.asm_lines.specs.declared.flaw.Flaw.TheVariants as flaw
use Rattle.asm_lines.specs.declared.form.Section.TheVariants as section
use Rattle.rv_asm.proofs.Terms.{List, None, Some, [], refl, ℕ, ◌++◌, ◌∷◌, ◌≡◌, codes, pos, imm_op, imm_row, row, system_row, funct3, imm_i, imm_u, opcode, rd, rs1, code_of, line_of, line_of_code, words_of, form_of, mnemonic_table, decimal, hexadecimal, number_of, signed_decimal, register_of, register_table, address, any_byte, any_word, ascii_statement, auipc_statement, branch_statement, branch_zero_statement, byte_statement, immediate, jal_statement, jalr_statement, jump_statement, la_statement, label, li_statement, load_statement, lone_statement, lui_statement, mv_statement, number, offset, one, op_imm_statement, op_statement, operands_of, quoted, register, space_statement, store_statement, three, two, upper, word_statement, read_lines, fault, refusal_of, Cell, Coded, Raw, cells_in}

-- ---- what some texts put into their sections

abbrev pub cells_of_text : List ℕ → List Cell × List Cell
cells_of_text text = (cells_in section.Text (read_lines text), cells_in section.Data (read_lines text))

-- a number in two instructions: 0x12345fff is 0x12346000 - 1
abbrev pub loads : List ℕ
loads = codes "li a0, 0x12345fff"

pub loads_accepted : refusal_of loads ≡ None
unfolding refusal_of immediate offset any_word any_byte upper one two three read_lines line_of line_of_code code_of words_of form_of mnemonic_table register_of register_table operands_of register label number number_of signed_decimal decimal hexadecimal address quoted op_statement op_imm_statement load_statement jalr_statement store_statement branch_statement branch_zero_statement jal_statement la_statement jump_statement lui_statement auipc_statement li_statement mv_statement lone_statement word_statement byte_statement space_statement ascii_statement
loads_accepted = refl

pub loads_cells : cells_of_text loads ≡ (Coded (instr.Lui 10 (pos 0x12346000)) ∷ Coded (instr.OpImm imm.Addi 10 10 (negsuc 0)) ∷ [], [])
unfolding immediate offset any_word any_byte upper one two three read_lines line_of line_of_code code_of words_of form_of mnemonic_table register_of register_table operands_of register label number number_of signed_decimal decimal hexadecimal address quoted op_statement op_imm_statement load_statement jalr_statement store_statement branch_statement branch_zero_statement jal_statement la_statement jump_statement lui_statement auipc_statement li_statement mv_statement lone_statement word_statement byte_statement space_statement ascii_statement
loads_cells = refl

pub loads_words : row 0x12346537 ∷ row 0xfff50513 ∷ [] ≡ Some (instr.Lui 10 (pos 0x12346000)) ∷ Some (instr.OpImm imm.Addi 10 10 (negsuc 0)) ∷ []
unfolding row imm_row imm_op opcode rd funct3 rs1 imm_i imm_u
loads_words = refl

-- a program of four instructions
abbrev pub guest : List ℕ
guest = (codes "addi a7, x0, 1" ++ (10 ∷ (codes "addi a1, x0, 0" ++ (10 ∷ (codes "addi a0, x0, 0" ++ (10 ∷ codes "ecall"))))))

pub guest_accepted : refusal_of guest ≡ None
unfolding refusal_of immediate offset any_word any_byte upper one two three read_lines line_of line_of_code code_of words_of form_of mnemonic_table register_of register_table operands_of register label number number_of signed_decimal decimal hexadecimal address quoted op_statement op_imm_statement load_statement jalr_statement store_statement branch_statement branch_zero_statement jal_statement la_statement jump_statement lui_statement auipc_statement li_statement mv_statement lone_statement word_statement byte_statement space_statement ascii_statement
guest_accepted = refl

pub guest_cells : cells_of_text guest ≡ (Coded (instr.OpImm imm.Addi 17 0 (pos 1)) ∷ Coded (instr.OpImm imm.Addi 11 0 (pos 0)) ∷ Coded (instr.OpImm imm.Addi 10 0 (pos 0)) ∷ Coded instr.Ecall ∷ [], [])
unfolding immediate offset any_word any_byte upper one two three read_lines line_of line_of_code code_of words_of form_of mnemonic_table register_of register_table operands_of register label number number_of signed_decimal decimal hexadecimal address quoted op_statement op_imm_statement load_statement jalr_statement store_statement branch_statement branch_zero_statement jal_statement la_statement jump_statement lui_statement auipc_statement li_statement mv_statement lone_statement word_statement byte_statement space_statement ascii_statement
guest_cells = refl

pub guest_words : row 0x00100893 ∷ row 0x00000593 ∷ row 0x00000513 ∷ row 0x00000073 ∷ []
    ≡ Some (instr.OpImm imm.Addi 17 0 (pos 1)) ∷ Some (instr.OpImm imm.Addi 11 0 (pos 0)) ∷ Some (instr.OpImm imm.Addi 10 0 (pos 0)) ∷ Some instr.Ecall ∷ []
unfolding row imm_row imm_op system_row opcode rd funct3 rs1 imm_i
guest_words = refl

-- labels in both sections: data begins at the page 0x11000, behind the 12 bytes of text
abbrev pub both : List ℕ
both = (codes "start: lw t0,-4(sp) # a load" ++ (10 ∷ ((9 ∷ codes "beqz t0, start") ++ (10 ∷ (codes ".data" ++ (10 ∷ ((codes " .ascii " ++ (34 ∷ (codes "a # b" ++ (92 ∷ (codes "n" ++ (34 ∷ [])))))) ++ (10 ∷ (codes "here: .text" ++ (10 ∷ (codes ".word here" ++ (10 ∷ (codes "back: .data" ++ (10 ∷ (codes ".byte -1" ++ (10 ∷ (codes ".space 2" ++ (10 ∷ codes ".word back"))))))))))))))))))

pub both_accepted : refusal_of both ≡ None
unfolding refusal_of immediate offset any_word any_byte upper one two three read_lines line_of line_of_code code_of words_of form_of mnemonic_table register_of register_table operands_of register label number number_of signed_decimal decimal hexadecimal address quoted op_statement op_imm_statement load_statement jalr_statement store_statement branch_statement branch_zero_statement jal_statement la_statement jump_statement lui_statement auipc_statement li_statement mv_statement lone_statement word_statement byte_statement space_statement ascii_statement
both_accepted = refl

pub both_cells : cells_of_text both ≡ (Coded (instr.Load load.Lw 5 2 (negsuc 3)) ∷ Coded (instr.Branch branch.Beq 5 0 (negsuc 3)) ∷ Raw (6 ∷ 0x10 ∷ 1 ∷ 0 ∷ []) ∷ [], Raw (codes "a # b" ++ 10 ∷ []) ∷ Raw (255 ∷ []) ∷ Raw (0 ∷ 0 ∷ []) ∷ Raw (12 ∷ 0 ∷ 1 ∷ 0 ∷ []) ∷ [])
unfolding immediate offset any_word any_byte upper one two three read_lines line_of line_of_code code_of words_of form_of mnemonic_table register_of register_table operands_of register label number number_of signed_decimal decimal hexadecimal address quoted op_statement op_imm_statement load_statement jalr_statement store_statement branch_statement branch_zero_statement jal_statement la_statement jump_statement lui_statement auipc_statement li_statement mv_statement lone_statement word_statement byte_statement space_statement ascii_statement
both_cells = refl

-- ---- what some texts are refused for

-- a label that isn't defined
pub no_such_label : refusal_of (codes "j nowhere") ≡ Some (fault 1 flaw.Label)
unfolding refusal_of immediate offset any_word any_byte upper one two three read_lines line_of line_of_code code_of words_of form_of mnemonic_table register_of register_table operands_of register label number number_of signed_decimal decimal hexadecimal address quoted op_statement op_imm_statement load_statement jalr_statement store_statement branch_statement branch_zero_statement jal_statement la_statement jump_statement lui_statement auipc_statement li_statement mv_statement lone_statement word_statement byte_statement space_statement ascii_statement
no_such_label = refl

-- a label that was defined on an earlier line
pub two_labels : refusal_of ((codes "a: nop" ++ (10 ∷ codes "a: nop"))) ≡ Some (fault 2 flaw.DoubleLabel)
unfolding refusal_of immediate offset any_word any_byte upper one two three read_lines line_of line_of_code code_of words_of form_of mnemonic_table register_of register_table operands_of register label number number_of signed_decimal decimal hexadecimal address quoted op_statement op_imm_statement load_statement jalr_statement store_statement branch_statement branch_zero_statement jal_statement la_statement jump_statement lui_statement auipc_statement li_statement mv_statement lone_statement word_statement byte_statement space_statement ascii_statement
two_labels = refl

-- an immediate past its range
pub too_great : refusal_of (codes "addi a0, a0, 2048") ≡ Some (fault 1 flaw.Range)
unfolding refusal_of immediate offset any_word any_byte upper one two three read_lines line_of line_of_code code_of words_of form_of mnemonic_table register_of register_table operands_of register label number number_of signed_decimal decimal hexadecimal address quoted op_statement op_imm_statement load_statement jalr_statement store_statement branch_statement branch_zero_statement jal_statement la_statement jump_statement lui_statement auipc_statement li_statement mv_statement lone_statement word_statement byte_statement space_statement ascii_statement
too_great = refl

-- an operand is missing; text isn't without bytes
pub too_few : refusal_of (codes "add a0, a1") ≡ Some (fault 1 flaw.BadOperand)
unfolding refusal_of immediate offset any_word any_byte upper one two three read_lines line_of line_of_code code_of words_of form_of mnemonic_table register_of register_table operands_of register label number number_of signed_decimal decimal hexadecimal address quoted op_statement op_imm_statement load_statement jalr_statement store_statement branch_statement branch_zero_statement jal_statement la_statement jump_statement lui_statement auipc_statement li_statement mv_statement lone_statement word_statement byte_statement space_statement ascii_statement
too_few = refl

-- no line
pub no_text : refusal_of ([]) ≡ Some (fault 1 flaw.UnknownWord)
unfolding refusal_of immediate offset any_word any_byte upper one two three read_lines line_of line_of_code code_of words_of form_of mnemonic_table register_of register_table operands_of register label number number_of signed_decimal decimal hexadecimal address quoted op_statement op_imm_statement load_statement jalr_statement store_statement branch_statement branch_zero_statement jal_statement la_statement jump_statement lui_statement auipc_statement li_statement mv_statement lone_statement word_statement byte_statement space_statement ascii_statement
no_text = refl

-- a mnemonic that isn't known
pub no_such_word : refusal_of ((codes "addi a7, x0, 1" ++ (10 ∷ codes "addx a1, x0, 0"))) ≡ Some (fault 2 flaw.UnknownWord)
unfolding refusal_of immediate offset any_word any_byte upper one two three read_lines line_of line_of_code code_of words_of form_of mnemonic_table register_of register_table operands_of register label number number_of signed_decimal decimal hexadecimal address quoted op_statement op_imm_statement load_statement jalr_statement store_statement branch_statement branch_zero_statement jal_statement la_statement jump_statement lui_statement auipc_statement li_statement mv_statement lone_statement word_statement byte_statement space_statement ascii_statement
no_such_word = refl

-- no byte of text: it stands at the last line
pub no_text_at_the_end : refusal_of ((codes ".data" ++ (10 ∷ (codes ".byte 1" ++ (10 ∷ (codes "# end" ++ (10 ∷ []))))))) ≡ Some (fault 3 flaw.UnknownWord)
unfolding refusal_of immediate offset any_word any_byte upper one two three read_lines line_of line_of_code code_of words_of form_of mnemonic_table register_of register_table operands_of register label number number_of signed_decimal decimal hexadecimal address quoted op_statement op_imm_statement load_statement jalr_statement store_statement branch_statement branch_zero_statement jal_statement la_statement jump_statement lui_statement auipc_statement li_statement mv_statement lone_statement word_statement byte_statement space_statement ascii_statement
no_text_at_the_end = refl

-- an instruction in the data section goes before its operands
pub in_the_wrong_section : refusal_of ((codes "nop" ++ (10 ∷ (codes ".data" ++ (10 ∷ codes "add a0"))))) ≡ Some (fault 3 flaw.UnknownWord)
unfolding refusal_of immediate offset any_word any_byte upper one two three read_lines line_of line_of_code code_of words_of form_of mnemonic_table register_of register_table operands_of register label number number_of signed_decimal decimal hexadecimal address quoted op_statement op_imm_statement load_statement jalr_statement store_statement branch_statement branch_zero_statement jal_statement la_statement jump_statement lui_statement auipc_statement li_statement mv_statement lone_statement word_statement byte_statement space_statement ascii_statement
in_the_wrong_section = refl

-- a label that is defined twice goes before a bad operand
pub label_before_operand : refusal_of ((codes "a: nop" ++ (10 ∷ codes "a: add a0"))) ≡ Some (fault 2 flaw.DoubleLabel)
unfolding refusal_of immediate offset any_word any_byte upper one two three read_lines line_of line_of_code code_of words_of form_of mnemonic_table register_of register_table operands_of register label number number_of signed_decimal decimal hexadecimal address quoted op_statement op_imm_statement load_statement jalr_statement store_statement branch_statement branch_zero_statement jal_statement la_statement jump_statement lui_statement auipc_statement li_statement mv_statement lone_statement word_statement byte_statement space_statement ascii_statement
label_before_operand = refl

-- a bad operand goes before a number past its range
pub operand_before_range : refusal_of (codes "addi a9, a0, 2048") ≡ Some (fault 1 flaw.BadOperand)
unfolding refusal_of immediate offset any_word any_byte upper one two three read_lines line_of line_of_code code_of words_of form_of mnemonic_table register_of register_table operands_of register label number number_of signed_decimal decimal hexadecimal address quoted op_statement op_imm_statement load_statement jalr_statement store_statement branch_statement branch_zero_statement jal_statement la_statement jump_statement lui_statement auipc_statement li_statement mv_statement lone_statement word_statement byte_statement space_statement ascii_statement
operand_before_range = refl

-- a later line that is wrong goes before a label that isn't defined
pub line_before_label : refusal_of ((codes "j nowhere" ++ (10 ∷ codes ".byte 1"))) ≡ Some (fault 2 flaw.UnknownWord)
unfolding refusal_of immediate offset any_word any_byte upper one two three read_lines line_of line_of_code code_of words_of form_of mnemonic_table register_of register_table operands_of register label number number_of signed_decimal decimal hexadecimal address quoted op_statement op_imm_statement load_statement jalr_statement store_statement branch_statement branch_zero_statement jal_statement la_statement jump_statement lui_statement auipc_statement li_statement mv_statement lone_statement word_statement byte_statement space_statement ascii_statement
line_before_label = refl

-- a jump to a label at an odd distance
pub odd_distance : refusal_of ((codes "j far" ++ (10 ∷ (codes ".data" ++ (10 ∷ (codes ".byte 0" ++ (10 ∷ codes "far: .byte 0"))))))) ≡ Some (fault 1 flaw.Range)
unfolding refusal_of immediate offset any_word any_byte upper one two three read_lines line_of line_of_code code_of words_of form_of mnemonic_table register_of register_table operands_of register label number number_of signed_decimal decimal hexadecimal address quoted op_statement op_imm_statement load_statement jalr_statement store_statement branch_statement branch_zero_statement jal_statement la_statement jump_statement lui_statement auipc_statement li_statement mv_statement lone_statement word_statement byte_statement space_statement ascii_statement
odd_distance = refl

-- a byte past its range
pub byte_past : refusal_of ((codes "nop" ++ (10 ∷ (codes ".data" ++ (10 ∷ codes ".byte 256"))))) ≡ Some (fault 3 flaw.Range)
unfolding refusal_of immediate offset any_word any_byte upper one two three read_lines line_of line_of_code code_of words_of form_of mnemonic_table register_of register_table operands_of register label number number_of signed_decimal decimal hexadecimal address quoted op_statement op_imm_statement load_statement jalr_statement store_statement branch_statement branch_zero_statement jal_statement la_statement jump_statement lui_statement auipc_statement li_statement mv_statement lone_statement word_statement byte_statement space_statement ascii_statement
byte_past = refl

-- a tab in quotes is no part of a text
pub tab_in_quotes : refusal_of ((codes "nop" ++ (10 ∷ (codes ".data" ++ (10 ∷ (codes ".ascii " ++ (34 ∷ (codes "a" ++ (9 ∷ (codes "b" ++ (34 ∷ []))))))))))) ≡ Some (fault 3 flaw.BadOperand)
unfolding refusal_of immediate offset any_word any_byte upper one two three read_lines line_of line_of_code code_of words_of form_of mnemonic_table register_of register_table operands_of register label number number_of signed_decimal decimal hexadecimal address quoted op_statement op_imm_statement load_statement jalr_statement store_statement branch_statement branch_zero_statement jal_statement la_statement jump_statement lui_statement auipc_statement li_statement mv_statement lone_statement word_statement byte_statement space_statement ascii_statement
tab_in_quotes = refl

-- the sections have 524288 bytes behind the tenth line, and one more behind the last
pub sections_too_large : refusal_of ((codes "nop" ++ (10 ∷ (codes ".data" ++ (10 ∷ (codes ".space 65536" ++ (10 ∷ (codes ".space 65536" ++ (10 ∷ (codes ".space 65536" ++ (10 ∷ (codes ".space 65536" ++ (10 ∷ (codes ".space 65536" ++ (10 ∷ (codes ".space 65536" ++ (10 ∷ (codes ".space 65536" ++ (10 ∷ (codes ".space 65532" ++ (10 ∷ codes ".space 1"))))))))))))))))))))) ≡ Some (fault 11 flaw.Range)
unfolding refusal_of immediate offset any_word any_byte upper one two three read_lines line_of line_of_code code_of words_of form_of mnemonic_table register_of register_table operands_of register label number number_of signed_decimal decimal hexadecimal address quoted op_statement op_imm_statement load_statement jalr_statement store_statement branch_statement branch_zero_statement jal_statement la_statement jump_statement lui_statement auipc_statement li_statement mv_statement lone_statement word_statement byte_statement space_statement ascii_statement
sections_too_large = refl
