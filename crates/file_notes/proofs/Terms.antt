-- The words and lemmas that this crate's proofs are written in: those of crates below, and its own words.
pub use Rattle.std.proofs.Common.{Bool, Err, List, None, Ok, Option, Result, Some, [], add-zero, ap, append-nil, append_assoc, arith, cond, eqb-true, inl, inr, length, length-append, refl, subst, suc, sym, take, true, true≢false, zero-add, ℕ, ◌++◌, ◌+◌, ◌<◌, ◌==◌, ◌∙◌, ◌∷◌, ◌≡◌, ◌≤◌}
pub use Rattle.std.proofs.Math.Seq.{drop-append_seam, take-append_seam, take-length}
pub use Rattle.std.proofs.lemmas.List.{length-take-le, take-append-drop, take_more}
pub use Rattle.std.proofs.lemmas.List.Elements.{All-append, All-cons, All-nil, All-push}
pub use Rattle.std.proofs.lemmas.Slice.Eq.{bytes_eq-Decides}
pub use Rattle.std.specs.Prelude.{All, bytes_eq, drop, false, if◌then◌else◌, unwrap_or, ◌||◌, ◌≢◌, ◌⊎◌}
pub use Rattle.file_notes.specs.Terms.{Added, Adds, AddsFront, Calls, Choice, Contents, Episode, Failed, FileCall, Form, IoFault, Memory, Started, Starts, calls_of, choice_line, choice_lines, episode_text, head_text, is_ask}
pub use Rattle.file_notes.specs.Texts.{episode_texts, told_text}
pub use Rattle.file_notes.specs.Names.{AreTwo, Names, bytes_in, names_in}
pub use Rattle.file_notes.specs.Calling.{AddsAlone, CallsFront, CallsUpTo, is_addition, starts_of, taking_over}
pub use Rattle.file_notes.specs.Asks.{AreAsks}
pub use Rattle.file_notes.specs.Left.{InRecord, InReport, Left, Nothing, is_whole, left_in_report}
pub use Rattle.file_notes.specs.Standing.{HasNotes, Stands, StandsBehind, in_record, in_report, in_report_behind}
pub use Rattle.file_notes.specs.Past.{Had, Past, before_of, had_in, with_episode}
pub use Rattle.file_notes.specs.Invariant.{Called, HasKept, IsNotes, Keeps}
pub use Rattle.file_notes.specs.Writing.{Copied, Emptied, HasBoth, HasPart, HasPartly, HasWhole, Kept, TakesOverBoth, Unbegun, Writes, WritesBoth, all_kept, nothing_kept}
