-- The words and lemmas that this crate's proofs are written in: those of crates below, and its own words.
pub use Rattle.std.proofs.Common.{Bool, Bor, Err, List, None, Option, Some, [], ap, append-nil, append_assoc, ap₂, arith, codes, cond, drop, drop_of_length-le, eq-eqb, eqb-true, false, fold, get_or, inl, inr, is_some, leb-true, length, ltb-true, map, min, nat_eq, nat_le, nat_lt, not, refl, rules, subst, suc, sym, take, true, true≢false, unwrap_or, zero, ℕ, ◌&&◌, ◌++◌, ◌+◌, ◌-◌, ◌<◌, ◌==◌, ◌^◌, ◌||◌, ◌∙◌, ◌∷◌, ◌≡◌, ◌≤◌, ◌⊎◌}
pub use Rattle.std.proofs.lemmas.Bool.{and_from, and_parts, and_right, not-true, or_from, or_parts}
pub use Rattle.std.proofs.lemmas.Bool.Decides.{Decides-like, nat_tests, same_from_decides}
pub use Rattle.std.proofs.lemmas.List.{at_drop_more, take_rest}
pub use Rattle.std.proofs.lemmas.Option.{same_Some, slice_get-get_or, unwrap_or-slice_get}
pub use Rattle.std.proofs.lemmas.Result.{IfErr-weaker, IfOk-weaker}
pub use Rattle.std.proofs.lemmas.Slice.Eq.{bytes_eq-Decides}
pub use Rattle.std.specs.Prelude.{String, slice_get, string_bytes}
pub use Rattle.command_line.specs.Terms.{AllDigits, App, ArgMatches, CommandLine, DefaultValue, Framing, Global, Held, IsNumeral, ParsesUnsigned, Rule, Shape, Walk, app_of, arg_by_id, arg_by_index, arg_by_long, argument_words, at_row, before_first, built, built_takes, bytes_eq, default_passes, digit_value, digits_value, filter, find, finished, first_of, first_value, found_of, has_byte, has_long, has_row, idle, is_ascii_digit, is_simple, is_valid, label_of, level_passes, list_all, list_any, long_of_rest, matches_of, more_values, names_of, new_rule, nothing_held, option_map, option_map_or, option_or, reading_by, rows_after, rows_of, rule_of, settle_passes, settled_rows, short_of, slice_index_or, takes, turn_passes, usize_max, walk, with_default, with_rule, without_leading_plus}
unfoldable pub use Rattle.command_line.specs.Terms.{walk_passes, walked}
pub use Rattle.command_line.specs.declared.help_words.Help.{Help}
pub use Rattle.command_line.specs.declared.options.CommandName.{CommandName}
pub use Rattle.command_line.specs.declared.options.TakesOf.TheVariants.{Name, Number, OneOf}
pub use Rattle.command_line.specs.declared.parts.Part.TheVariants.{Positional}
pub use Rattle.command_line.specs.Texts.{Text, is_dashed, is_name, is_numeral, number_of}
pub use Rattle.command_line.specs.Parts.{Parts, StartsWith, are_positionals, nothing, parts, parts_of, texts_of, with_option, with_positional}
unfoldable pub use Rattle.command_line.specs.Parts.{parts_behind}
pub use Rattle.command_line.specs.Table.{CommandForm, Row, Takes, form_read, row_read, rows_read, static_row}
unfoldable pub use Rattle.command_line.specs.Table.{conns_row, count_row, diagnose_guard_row, diagnosis_row, env_row, form_row, frame_row, guard_row, port_row, record_row, report_row, seed_row, stopped_by_row}
pub use Rattle.command_line.specs.Options.{Options, are_options, default_of, given, has_option, has_required, is_between, is_for, is_taken, number_at, takes_of, value_of}
pub use Rattle.command_line.specs.Commands.{Asks, CommandValue, DiagnoseValue, DrillValue, ResumeValue, RunValue, ServeValue, StandbyValue, behind_name, command_of, diagnose, drill, env_of, every_name, fits, form_named, form_of, frame_of, guard_of, is_of, may_stop, positional, resume, run, run_in, serve, session_value, shown, standby, value_by}
unfoldable pub use Rattle.command_line.specs.Commands.{asm_form, asm_value, convert_form, convert_value, diagnose_form, diagnose_value, drill_form, drill_value, frame_form, is_asm, is_convert, is_diagnose, is_drill, is_frame, is_replay, is_resume, is_run, is_serve, is_standby, is_unframe, name_of, replay_form, replay_value, resume_form, resume_value, run_form, run_value, serve_form, serve_value, standby_form, standby_value, unframe_form}
pub use Rattle.command_line.specs.Reading.{EachName, EachRow, HasRead, app_of_form, defaults_of, option_rule}
pub use Rattle.command_line.specs.Ranges.{AreInRange, EachInRange, HasRanges, IsInRange, NumbersOf, RangesOf, takes_numbers}
pub use Rattle.command_line.specs.Help.{HelpIsNoCommand, help_by, help_by_two, help_named, help_of}
