-- The lemmas that the proofs of this crate's functions cite.
pub use Rattle.session_state.proofs.standing.CheckpointLemmas.{in_force_by}
pub use Rattle.session_state.proofs.standing.HeldLemmas.{handled_more, held_as, held_by, held_more, held_of, note_at_none, oldest_then, requests_saved, rings_of, stands_by, trimmed_still, unless_gave_up, waits_handled}
pub use Rattle.session_state.proofs.standing.StoryLemmas.{account_of, journal_of_story, owes_nothing, still_takes}
pub use Rattle.session_state.proofs.guest.GuestLemmas.{answers_as, broken_counting, broken_noting, broken_off, broken_running, goes_kept, none_lost, none_noted, notes_here, notes_missed, notes_unhanded, received_is, waits_as}
pub use Rattle.session_state.proofs.guest.NoteLemmas.{notes_end, taken_all}
pub use Rattle.session_state.proofs.guest.SendLemmas.{takes_going}
pub use Rattle.session_state.proofs.guest.ServeLemmas.{run_asks, run_emits, run_exits, run_fails}
pub use Rattle.session_state.proofs.events.ArmLemmas.{IsQuiet, before_given, before_story, between_on, goes_given, hearing_items, latest_story, same_run, saved_given, waits_on}
pub use Rattle.session_state.proofs.events.EventLemmas.{IsNoEnd, latest-ended, latest-took, told_event}
pub use Rattle.session_state.proofs.events.HearLemmas.{HasHeard, HasSameRun, answers_still, has_heard, more_entries, run_keeping, saved_heard}
pub use Rattle.session_state.proofs.events.SettleLemmas.{all_due, between_at, close_done, close_ready, fronts_of, made_by, settle_done, settle_ready}
pub use Rattle.session_state.proofs.passing.GivenLemmas.{closed_given, done_given, events_of-story, latest-given}
pub use Rattle.session_state.proofs.passing.PieceLemmas.{are_given, told_pieces}
pub use Rattle.session_state.proofs.recovering.TableLemmas.{TellsOne, tables_given_up, tables_here, tables_memory, tables_then, tells_none, told_unwatched, watched_kept}
pub use Rattle.session_state.proofs.ending.EndLemmas.{end_of, ended_account, ended_telling, off_account, off_pieces, served_broken, served_end}
pub use Rattle.session_state.proofs.ending.FaultLemmas.{note_ends, note_handed}
pub use Rattle.session_state.proofs.ending.KnownLemmas.{known_heard, known_kept, known_same, known_stopped, known_then, known_unless, noted_still, once_at, once_given, once_heard, once_noted, once_passing, once_stopped, once_then, takes_given, takes_stopped, unless_broken}
