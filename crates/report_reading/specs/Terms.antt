-- The words that this crate's definitions are written in: those of crates below, and types of its code.
pub use Rattle.std.specs.Char.{is_ascii_digit}
pub use Rattle.std.specs.Fmt.{decimal}
unfoldable pub use Rattle.std.specs.Fmt.{digits}
pub use Rattle.std.specs.List.{concat}
pub use Rattle.std.specs.Option.{option_and_then, option_to_list}
pub use Rattle.json.specs.Print.{escape}
unfoldable pub use Rattle.json.specs.Print.{escape_byte}
pub use Rattle.serde_json.specs.Written.{comma_if, compact_text, items_text}
pub use Rattle.alloc_env.specs.declared.env.Env.{Env}
pub use Rattle.alloc_env.specs.declared.env.Env.TheVariants.{Delay, Isolate, Pad, Plain, Zero}
pub use Rattle.run_history.specs.declared.answer.Cause.{Cause}
pub use Rattle.run_history.specs.declared.answer.Cause.TheVariants.{AssertFailed, BadAccess, BadCall, BadFree, BadInstruction, BadJump, Hang}
pub use Rattle.session_notes.specs.declared.episode.Episode.{Episode}
pub use Rattle.session_notes.specs.declared.episode.Tried.{Tried}
pub use Rattle.session_notes.specs.declared.episode.Tried.TheVariants.{Asks, Behind, Contradicts, Exits, Failed}
pub use Rattle.session_notes.specs.declared.episode.Try.{Try}
unfoldable pub use Rattle.session_notes.specs.Lines.{failure_text, try_text}
pub use Rattle.session_notes.specs.Survival.{survives}
pub use Rattle.session_notes.specs.Words.{cause_text, env_word, hex_digit, hex_digits, tried_text}
unfoldable pub use Rattle.session_notes.specs.Words.{eight_digits}
pub use Rattle.text_lines.specs.Lines.{behind_line, first_line, is_empty, is_line}
pub use Rattle.text_lines.specs.Numbers.{behind_digits, clipped, number_from}
pub use Rattle.run_report.specs.declared.form.Form.{Form}
pub use Rattle.run_report.specs.declared.form.Form.TheVariants.{Json, Text}
pub use Rattle.run_report.specs.JsonLines.{tries_data, try_data, with_number, with_text}
unfoldable pub use Rattle.run_report.specs.JsonLines.{json_line}
pub use Rattle.run_report.specs.Report.{end_text, episode_text, head_text}
pub use Rattle.run_report.specs.TextLines.{try_lines}
unfoldable pub use Rattle.run_report.specs.TextLines.{end_line, episode_lines}
pub use Rattle.schedule_file.specs.Telling.{hex_at}
