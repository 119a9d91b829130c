-- The words and lemmas that this crate's proofs are written in: those of crates below, and its own words.
pub use Rattle.std.proofs.Common.{Bool, Bor, Err, List, None, Ok, Option, Result, Some, [], ap, append_assoc, ap₂, arith, cond, drop, false, get_or, inl, inr, length, length-append, lit<, lit≤, map, min, nat_le, nat_lt, negsuc, option_map, refl, rules, subst, sym, take, true, ℕ, ℤ, ◌%◌, ◌&&◌, ◌*◌, ◌++◌, ◌+◌, ◌-ℤ◌, ◌-◌, ◌<◌, ◌==◌, ◌^◌, ◌||◌, ◌∙◌, ◌∷◌, ◌≡◌, ◌≢◌, ◌≤ℤ◌, ◌≤◌, ◌⊎◌}
pub use Rattle.std.proofs.lemmas.Bool.{and_from, and_parts, eq-eqb, eqb-false, false≢true, le-leb, le-ltb, lt-leb, lt-ltb, ltb-false, ltb-true, ne_eqb, not-false, or_from, or_parts}
pub use Rattle.std.proofs.lemmas.Bool.Decides.{nat_tests}
pub use Rattle.std.proofs.lemmas.List.{append-nil, at_drop_more, length-map, length-replicate, take_more}
pub use Rattle.std.proofs.lemmas.List.Elements.{All-cons, All-head, All-nil, All-push, All-same, All-tail, filter_map-append}
pub use Rattle.std.proofs.lemmas.Option.{none-some}
pub use Rattle.std.specs.Prelude.{bytes_eq, codes, flat_map, if◌then◌else◌, int_lt, is_some, pos, replicate, unwrap_or}
pub use Rattle.asm_lines.proofs.Cutting.{lines_by, lines_from-cut}
pub use Rattle.rv_asm.specs.Terms.{All, Flaw, Form, Image, Instr, IsImmediate, IsInRange, IsOperand, IsPlaced, IsRegister, IsShift, IsWindow, Line, PAGE, Placed, STACK_AND_GUARD, Section, Sections, Segment, Spot, Statement, Words, behind_word, characters, cons_option, cut, ended, executable, filter, filter_map, find, first_word, full_fence, gives_bytes, heap_floor, is_allowed, is_data, is_name, is_text, kind_of, line_cut, line_from, lines_from, lines_of, list_all, list_any, little_bytes, look_up, nop, operand, option_or, ranged, result_ok, ret, signed, size_of, skip_blanks, stands_in, statement_of, sum_by, to_word, window_start, word_or_address, words_of_form, ◌>>=◌}
unfoldable pub use Rattle.rv_asm.specs.Terms.{address, any_byte, any_word, ascii_statement, auipc_statement, bad_entry, branch_statement, branch_zero_statement, byte_statement, code_of, decimal, form_of, funct3, hexadecimal, imm_i, imm_op, imm_row, imm_u, immediate, jal_statement, jalr_statement, jump_statement, la_statement, label, layout_refusal, li_statement, line_of, line_of_code, load_statement, lone_statement, lui_statement, mnemonic_table, mv_statement, no_load, number, number_of, offset, one, op_imm_statement, op_statement, opcode, operands_of, overlap, quoted, rd, register, register_of, register_table, row, rs1, signed_decimal, space_statement, store_statement, system_row, three, too_large, two, upper, word_statement, words_of}
pub use Rattle.rv_asm.specs.declared.asm_refusal.AsmRefusal.{AsmRefusal}
pub use Rattle.rv_asm.specs.declared.asm_refusal.Fault.{Fault}
pub use Rattle.rv_asm.specs.declared.asm_refusal.Stop.{Stop}
pub use Rattle.rv_asm.specs.declared.asm_refusal.Trouble.{Trouble}
pub use Rattle.rv_asm.specs.declared.layout.Layout.{Layout}
pub use Rattle.rv_asm.specs.declared.layout.TheConstants.{MOST_BYTES}
pub use Rattle.rv_asm.specs.Places.{Definition, definition_of, spot_of}
pub use Rattle.rv_asm.specs.Layout.{Place, address_at, address_in, address_of, bytes_in, data_start, has_label, in_force_behind, is_in, is_name_of, label_on, last_named, line_number, named_by, place, places, places_behind, section_at, size_at, size_on, stands_at, statement_in, statement_on, text_start}
unfoldable pub use Rattle.rv_asm.specs.Layout.{read_lines}
pub use Rattle.rv_asm.specs.Refusals.{address_flaw, distance, fault, first_fault, gives_text, has_no_text, is_defined_on, is_misplaced, is_too_large, label_flaw, line_flaw, lines_refusal, link_flaw, parts_flaw, place_flaw, read_flaw, size_behind, size_flaw, target_flaw, words_flaw}
unfoldable pub use Rattle.rv_asm.specs.Refusals.{refusal_of}
pub use Rattle.rv_asm.specs.Assembling.{AnswersFault, AreBytes, Cell, Coded, IsAssembled, IsReason, IsWord, Raw, cells_at, cells_in, cells_of, cells_on, data_segments, loading, segment}
pub use Rattle.rv_asm.specs.Passes.{after_lines, counted, found_flaw, is_end, is_placed_in, is_repeated, label_address, labels_fault, lines_fault, next_spot, no_lines, placed_at, placed_cells, section_cells, size_of_both, size_of_section, spot_address, with_bytes, with_label, with_line, with_placed, with_read, with_statement, with_words}
unfoldable pub use Rattle.rv_asm.specs.Passes.{added_flaw, after_line, layout_of}
pub use Rattle.rv_asm.specs.Sound.{IsDefined, IsEncodable, IsReady, IsSmall, IsSound}
pub use Rattle.rv_asm.specs.Troubles.{Answers, stopped}
pub use Rattle.rv_asm.specs.Steps.{AddsLine, AreSections, AreSmall, IsImageOf, Puts, Surveys, WritesPlaced, WritesSections, WritesStatement, cells_for}
