-- The words that this crate's definitions are written in: those of crates below, and types of its code.
pub use Rattle.std.specs.Fmt.{decimal}
unfoldable pub use Rattle.std.specs.Fmt.{digits}
pub use Rattle.std.specs.Io.KnownBytes.{Appends}
pub use Rattle.std.specs.List.{list_any}
pub use Rattle.rx_base.specs.Prefix.{Prefix}
pub use Rattle.links.specs.declared.journal.Entry.{Entry}
pub use Rattle.links.specs.declared.journal.LinkEvent.{LinkEvent}
pub use Rattle.links.specs.declared.memory_link.MemoryLink.{MemoryLink}
pub use Rattle.links.specs.ConnectionTables.{is_in_order}
pub use Rattle.links.specs.Links.{Comes, Coming, Enters, IsNext, Phases, Piece, Refuses, Unopened, events_in, phases_after, pieces_in}
pub use Rattle.links.specs.MemoryLinks.{MemoryWent, PlaysNext, Script, after_next, event_or_ends, link_coming, link_journal, link_phases, link_script, next_event, seen_in, taken_after}
pub use Rattle.block_book.specs.declared.choice.Choice.{Choice}
pub use Rattle.guest_image.specs.declared.image.Image.{Image}
pub use Rattle.run_history.specs.declared.answer.Answer.{Answer}
pub use Rattle.session_history.specs.declared.ends.SessionEnd.{SessionEnd}
pub use Rattle.session_history.specs.declared.ends.Stop.{Stop}
pub use Rattle.session_history.specs.Account.{HasPassedAll, IsAccount, Session, journal_of}
pub use Rattle.session_history.specs.Ends.{EndsAt, EndsBy, HasComeTo, answer_of, end_answer}
pub use Rattle.session_history.specs.Lawful.{Rules, entries_of}
pub use Rattle.session_notes.specs.declared.episode.Episode.{Episode}
pub use Rattle.session_notes.specs.Lists.{list_choices, list_episodes, shown_in}
pub use Rattle.session_notes.specs.Noting.{Noted, Shown, Unnoted, noted}
pub use Rattle.session_state.specs.declared.options.Options.{Options}
pub use Rattle.session_state.specs.Options.{keeping_for, rules_of}
pub use Rattle.session_state.specs.Recovered.{HasRecovered, IsHandedLast, IsNoteStop, IsOutcome, Outcome, Telling, all_steps, episodes_of, story_of}
pub use Rattle.session_state.specs.Serving.{IsReadyToServe, outcome_of, rules_by}
