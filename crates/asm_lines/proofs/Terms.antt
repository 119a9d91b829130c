-- The words and lemmas that this crate's proofs are written in: those of crates below, and its own words.
pub use Rattle.std.proofs.Common.{Bool, Err, List, None, Ok, Option, Some, [], ap, arith, cond, drop, eq-eqb, false, get_or, length, map, option_map, refl, rules, suc, sym, take, true, ℕ, ◌++◌, ◌+◌, ◌-◌, ◌<◌, ◌==◌, ◌∙◌, ◌∷◌, ◌≡◌, ◌≢◌, ◌≤◌}
pub use Rattle.std.specs.Prelude.{codes, is_some, negsuc, pos}
pub use Rattle.asm_lines.specs.declared.flaw.Flaw.TheVariants.{BadOperand}
pub use Rattle.asm_lines.specs.declared.statement.Statement.{Statement}
pub use Rattle.asm_lines.specs.Bytes.{before_blanks, behind_word, cut, first_word, is_blank, look_up, onto, skip_blanks, strip_blanks, trimmed}
pub use Rattle.asm_lines.specs.Lines.{lines_from, lines_of, uncommented}
unfoldable pub use Rattle.asm_lines.specs.Lines.{code_of}
pub use Rattle.asm_lines.specs.Numbers.{clipped, clipped_int, decimal_from, hexadecimal_from}
unfoldable pub use Rattle.asm_lines.specs.Numbers.{decimal, hexadecimal, number_of, signed_decimal}
unfoldable pub use Rattle.asm_lines.specs.Registers.{register_of, register_table}
unfoldable pub use Rattle.asm_lines.specs.Mnemonics.{form_of, mnemonic_table}
pub use Rattle.asm_lines.specs.Statements.{characters, is_written, pieces}
unfoldable pub use Rattle.asm_lines.specs.Statements.{lone_statement, one, operands_of, three, two}
