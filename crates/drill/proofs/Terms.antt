-- The words and lemmas that this crate's proofs are written in: those of crates below, and its own words.
pub use Rattle.std.proofs.Common.{Bool, Err, IfSome, List, None, Ok, Option, Result, Some, [], ap, append-nil, append_assoc, arith, codes, drop, false, if◌then◌else◌, inl, inr, length, mul_comm, nat_lt, refl, subst, suc, sym, take, take-append-drop, true, zero, ℕ, ◌%◌, ◌&&◌, ◌*◌, ◌++◌, ◌+◌, ◌-◌, ◌<◌, ◌^◌, ◌||◌, ◌∙◌, ◌∷◌, ◌≡◌, ◌≤◌}
pub use Rattle.drill.specs.Terms.{Appends, Choice, Comes, EndsAt, EndsBy, Enters, Entry, Episode, HasComeTo, HasPassedAll, HasRecovered, Image, IsAccount, IsHandedLast, IsNext, IsNoteStop, IsReadyToServe, LinkEvent, MemoryLink, MemoryWent, Options, Outcome, Phases, Piece, PlaysNext, Prefix, Refuses, Rules, Script, Session, SessionEnd, Stop, Unnoted, after_next, answer_of, end_answer, entries_of, event_or_ends, events_in, is_in_order, journal_of, keeping_for, link_coming, link_journal, link_phases, link_script, list_any, list_choices, list_episodes, next_event, outcome_of, phases_after, pieces_in, rules_by, rules_of, seen_in, taken_after}
unfoldable pub use Rattle.drill.specs.Terms.{digits}
pub use Rattle.drill.specs.declared.summary.Summary.{Summary}
pub use Rattle.drill.specs.Generator.{closing, drawn, is_end, line_of, message, second_state, third_state}
unfoldable pub use Rattle.drill.specs.Generator.{drill_events, failing_line, get_line, messages, next_state, set_line}
pub use Rattle.drill.specs.Links.{IsTame, are_in_order, none_opened, quiet}
pub use Rattle.drill.specs.Summary.{end_status, passed_bytes}
unfoldable pub use Rattle.drill.specs.Summary.{summary_text}
pub use Rattle.drill.specs.Settings.{keeping, refuses_none, rules, settings}
