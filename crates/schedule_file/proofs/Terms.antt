-- The words and lemmas that this crate's proofs are written in: those of crates below, and its own words.
pub use Rattle.std.proofs.Common.{Bool, Err, IfSome, List, None, Ok, Option, Some, [], ap, append_assoc, arith, cond, drop, false, inl, inr, length, length-append, not, refl, subst, suc, sym, take, true, zero, ℕ, ◌%◌, ◌&&◌, ◌*◌, ◌++◌, ◌+◌, ◌-◌, ◌/◌, ◌<◌, ◌^◌, ◌∙◌, ◌∷◌, ◌≡◌, ◌≤◌}
pub use Rattle.std.proofs.lemmas.Bool.{cases_eq}
pub use Rattle.std.proofs.lemmas.Bool.Decides.{nat_tests}
pub use Rattle.std.proofs.lemmas.List.{append-nil}
pub use Rattle.std.proofs.lemmas.List.Concat.{flat_map-append}
pub use Rattle.std.proofs.lemmas.List.Elements.{All-cons, All-head, All-nil, All-push, All-tail}
pub use Rattle.std.specs.Prelude.{All, IsSome, bytes_eq, if◌then◌else◌, is_some, map, nat_le, nat_lt, slice_index, ◌==◌, ◌≢◌, ◌⊎◌}
pub use Rattle.text_lines.proofs.Lines.{AreLines, HasLine, are_lines, first-behind, is_line-decimal, is_line-torn, joined, line-cut, lines_is, lines_of-line, lines_of-torn, no_bytes, torn-first, torn_lines}
pub use Rattle.text_lines.proofs.Written.{by_option, by_same, not_in_range, written_complete, written_sound}
pub use Rattle.schedule_file.specs.Terms.{Ask, Calloc, Choice, Finish, Framing, Head, IsTorn, Line, MAX_ITEMS, MAX_WINDOW, Malloc, Memory, Realloc, RecordRefusal, Recorded, Refused, Unfinished, VERSION, behind_digits, behind_line, clipped, decimal, first_line, first_number, is_line, lines_of, number_from, second_number}
pub use Rattle.schedule_file.specs.Answers.{ReadsRecord, ReadsUnfinished}
pub use Rattle.schedule_file.specs.Lines.{arguments, carried_part, choice_line, choice_lines, eight_digits, frame_name, hex_digit, hex_digits, letter, line_of, lines_text, mark, spaced}
unfoldable pub use Rattle.schedule_file.specs.Lines.{end_line, head_line, line_text}
pub use Rattle.schedule_file.specs.Records.{IsAnswer, IsAsk, IsAskOf, IsChoice, IsReading, IsRecord, WasCalloc, WasReplacing, record_of, text_of}
pub use Rattle.schedule_file.specs.Refusals.{judged_from, judged_lines, judged_under, refused_behind, refused_last, refused_line, unfinished_last, unfinished_line}
pub use Rattle.schedule_file.specs.Steps.{AreAllLines, IsBehind, unfinished_with}
pub use Rattle.schedule_file.specs.Telling.{ask_told, asked_told, end_told, frame_told, head_told, hex_at, hex_from, hex_value, is_answer, is_ask, is_ask_of, is_carrying, is_end, is_head, is_marked, line_told, was_calloc, was_replacing, window_part, written_end, written_head}
unfoldable pub use Rattle.schedule_file.specs.Telling.{answer_of, end_of, head_of}
pub use Rattle.schedule_file.specs.Unfinished.{IsCutOf, IsFinish, IsTornBehind, IsUnfinished, IsUnfinishedReading, finish_of, finish_text, text_before, unfinished_of}
