-- The words and lemmas that this crate's proofs are written in: those of crates below, and its own words.
pub use Rattle.std.proofs.Common.{Bool, Err, List, None, Ok, Option, Some, [], ap, append_assoc, arith, cond, drop, false, length, length-append, min, option_map, refl, rules, subst, suc, sym, take, true, zero, ℕ, ◌%◌, ◌&&◌, ◌++◌, ◌+◌, ◌-◌, ◌/◌, ◌<◌, ◌^◌, ◌∙◌, ◌∷◌, ◌≡◌, ◌≤◌}
pub use Rattle.std.proofs.lemmas.Bool.Decides.{nat_tests}
pub use Rattle.std.proofs.lemmas.List.{append-nil, drop-drop}
pub use Rattle.std.proofs.lemmas.List.Elements.{All-cons, All-head, All-nil, All-push, All-tail}
pub use Rattle.std.proofs.lemmas.Slice.Eq.{bytes_eq-Decides}
pub use Rattle.std.specs.Prelude.{All, IfSome, bytes_eq, codes, is_some, map, nat_le, nat_lt, not, slice_get, slice_index, ◌==◌}
pub use Rattle.text_lines.proofs.Digits.{behind-decimal, decimal_digits, number-decimal}
pub use Rattle.text_lines.proofs.Lines.{first-behind, is_line-decimal}
pub use Rattle.report_reading.specs.Terms.{Asks, AssertFailed, BadAccess, BadCall, BadFree, BadInstruction, BadJump, Behind, Cause, Contradicts, Delay, Env, Episode, Exits, Failed, Form, Hang, Isolate, Json, Pad, Plain, Text, Tried, Try, Zero, behind_digits, behind_line, cause_text, clipped, comma_if, compact_text, concat, decimal, env_word, episode_text, escape, first_line, head_text, hex_at, hex_digit, hex_digits, is_ascii_digit, is_empty, is_line, items_text, option_and_then, option_to_list, survives, tried_text, tries_data, try_data, try_lines, with_number, with_text}
unfoldable pub use Rattle.report_reading.specs.Terms.{digits, eight_digits, end_line, episode_lines, escape_byte, failure_text, json_line, try_text}
pub use Rattle.report_reading.specs.declared.reading.Reading.{Reading}
pub use Rattle.report_reading.specs.declared.reported.ReadReport.{ReadReport}
pub use Rattle.report_reading.specs.declared.reported.ReportEnd.{ReportEnd}
pub use Rattle.report_reading.specs.declared.reported.ReportRefusal.TheVariants.{Refused}
pub use Rattle.report_reading.specs.Answers.{ReadsReport}
pub use Rattle.report_reading.specs.Cutting.{Cut, cut, cut_into, is_torn, onto}
pub use Rattle.report_reading.specs.Laws.{BeginsAs, as_told, told_episode, told_report, told_try}
pub use Rattle.report_reading.specs.Refusals.{adopting, begins_end, begun, ending, episode_line, failed_behind, failing, finished, head_of, next_of, outcome, read_from, read_lines, read_on, told_behind, tried_behind, with_try}
pub use Rattle.report_reading.specs.Reports.{HasFailed, IsCause, IsEnd, IsEpisode, IsReading, IsReport, IsTornBehind, IsTried, IsTry, RiseFrom, WasAdopted, ends, episode_texts, last_survived, last_text, least_behind, none_survived, text_of}
pub use Rattle.report_reading.specs.Steps.{Takes, episode_with, so_far}
pub use Rattle.report_reading.specs.Telling.{behind_cause, byte_told, cause_in, cause_part, cause_told, checkpoint_in, checkpoint_part, end_told, end_with, env_in, env_part, env_told, episode_told, failure_told, if_written, long_told, pc_in, pc_part, point_in, point_part, result_in, result_part, tried_told, tries_in, try_in, try_told, word_told, written_end, written_episode}
unfoldable pub use Rattle.report_reading.specs.Telling.{end_of, episode_of, failure_of, try_of}
