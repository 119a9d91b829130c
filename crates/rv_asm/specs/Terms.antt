-- The words that this crate's definitions are written in: those of crates below, and types of its code.
pub use Rattle.std.specs.List.{All, cons_option, filter, filter_map, find, list_all, list_any, sum_by}
pub use Rattle.std.specs.Option.{option_or}
pub use Rattle.std.specs.Result.{result_ok}
pub use Rattle.rv_isa.specs.declared.instr.Instr.{Instr}
pub use Rattle.rv_isa.specs.Meaning.{to_word}
pub use Rattle.rv_isa.specs.Ranges.{IsImmediate, IsInRange, IsOperand, IsRegister, IsShift}
unfoldable pub use Rattle.rv_isa.specs.Table.{imm_op, imm_row, row, system_row}
pub use Rattle.rv_isa.specs.Words.{little_bytes, signed}
unfoldable pub use Rattle.rv_isa.specs.Words.{funct3, imm_i, imm_u, opcode, rd, rs1}
pub use Rattle.guest_image.specs.declared.image.Image.{Image}
pub use Rattle.guest_image.specs.declared.layout.TheConstants.{PAGE, STACK_AND_GUARD}
pub use Rattle.guest_image.specs.declared.segment.Segment.{Segment}
pub use Rattle.guest_image.specs.Layout.{IsPlaced, IsWindow, executable, heap_floor, window_start}
unfoldable pub use Rattle.guest_image.specs.Layout.{bad_entry, layout_refusal, no_load, overlap, too_large}
pub use Rattle.asm_lines.specs.declared.flaw.Flaw.{Flaw}
pub use Rattle.asm_lines.specs.declared.form.Form.{Form}
pub use Rattle.asm_lines.specs.declared.form.Section.{Section}
pub use Rattle.asm_lines.specs.declared.line.Line.{Line}
pub use Rattle.asm_lines.specs.declared.line.Words.{Words}
pub use Rattle.asm_lines.specs.declared.statement.Statement.{Statement}
pub use Rattle.asm_lines.specs.Bytes.{behind_word, cut, ended, first_word, is_allowed, is_name, look_up, skip_blanks}
pub use Rattle.asm_lines.specs.Flaws.{kind_of}
pub use Rattle.asm_lines.specs.Lines.{line_cut, line_from, lines_from, lines_of, words_of_form}
unfoldable pub use Rattle.asm_lines.specs.Lines.{code_of, line_of, line_of_code, words_of}
pub use Rattle.asm_lines.specs.Mnemonics.{gives_bytes, is_data, is_text, stands_in}
unfoldable pub use Rattle.asm_lines.specs.Mnemonics.{form_of, mnemonic_table}
unfoldable pub use Rattle.asm_lines.specs.Numbers.{decimal, hexadecimal, number_of, signed_decimal}
unfoldable pub use Rattle.asm_lines.specs.Registers.{register_of, register_table}
pub use Rattle.asm_lines.specs.Statements.{characters, full_fence, nop, operand, ranged, ret, size_of, statement_of, word_or_address, ◌>>=◌}
unfoldable pub use Rattle.asm_lines.specs.Statements.{address, any_byte, any_word, ascii_statement, auipc_statement, branch_statement, branch_zero_statement, byte_statement, immediate, jal_statement, jalr_statement, jump_statement, la_statement, label, li_statement, load_statement, lone_statement, lui_statement, mv_statement, number, offset, one, op_imm_statement, op_statement, operands_of, quoted, register, space_statement, store_statement, three, two, upper, word_statement}
pub use Rattle.rv_asm.specs.declared.placed.Placed.{Placed}
pub use Rattle.rv_asm.specs.declared.placed.Spot.{Spot}
pub use Rattle.rv_asm.specs.declared.sections.Sections.{Sections}
