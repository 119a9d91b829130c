-- The words that this crate's definitions are written in: those of crates below, and types of its code.
pub use Rattle.std.specs.Io.KnownBytes.{Appends}
pub use Rattle.std.specs.List.{AllByRecursion}
pub use Rattle.rx_base.specs.declared.item.Item.{Item}
pub use Rattle.rx_base.specs.Faults.{Rose}
pub use Rattle.rx_base.specs.Outside.{IsDrained, Stream, Took}
pub use Rattle.rx_base.specs.Prefix.{Prefix}
pub use Rattle.rx_base.specs.Sends.{Send, sent_to}
pub use Rattle.links.specs.declared.journal.Entry.{Entry}
pub use Rattle.links.specs.declared.journal.LinkEvent.{LinkEvent}
pub use Rattle.links.specs.LinkForms.{gives_below_4096, handed_by}
pub use Rattle.links.specs.Links.{Comes, ComesUntold, Coming, Counts, Grew, Handed, HasEnded, IsFresh, IsInOrder, IsNext, Phases, Piece, Refuses, Tells, Told, Unopened, cut_entries, events_in, last_taken, phases_after, pieces_in}
pub use Rattle.links.specs.Received.{bytes_from, received_from}
pub use Rattle.links.specs.Seen.{IsFreshLink, Seen, no_faults}
pub use Rattle.ports.specs.declared.port_calls.PortEntry.{PortEntry}
pub use Rattle.port_link.specs.declared.place.PortLimits.{PortLimits}
pub use Rattle.port_link.specs.Served.{GoesOn, IsCall, IsOver, Served, closed_entries, entries_of, fresh_served, gives_all, gives_part, is_stop, takes_bytes, with_part}
unfoldable pub use Rattle.port_link.specs.Served.{AreCalls, after_call, served_after, served_of}
pub use Rattle.port_link.specs.Standing.{IsJustBound, Stands, with_ends}
unfoldable pub use Rattle.port_link.specs.Standing.{link_journal, told_at}
pub use Rattle.block_book.specs.declared.choice.Choice.{Choice}
pub use Rattle.trunk_wire.specs.declared.refusal.Refusal.{Refusal}
pub use Rattle.trunk_wire.specs.declared.trunk_link.TrunkLink.{TrunkLink}
pub use Rattle.trunk_wire.specs.Calls.{IsRefused, Writes, WritesBy, count_after}
pub use Rattle.trunk_wire.specs.Frames.{AreFramesOf, IsFrameOf, frames, header_of, piece_frame}
pub use Rattle.trunk_wire.specs.Going.{AreInOrder, GivesOn, Intake, IsCut, IsFramed, IsTail, Output, TakesOn, TookFrames, WroteFrames, phases_behind}
pub use Rattle.trunk_wire.specs.Grammar.{Bad, Front, Part, Whole, coming_of, event_at, event_of, front, front_accepted, front_by, header_refusal}
pub use Rattle.trunk_wire.specs.Parts.{last_bytes, put_bytes}
pub use Rattle.trunk_wire.specs.Pieces.{event_reader, events, fresh, given_to, payload, pieces, whole_event}
pub use Rattle.trunk_wire.specs.Tellings.{is_in_step, is_whole, told_coming, told_events, told_nothing, told_pieces, trunk_told}
pub use Rattle.trunk_wire.specs.TrunkLinks.{TrunkWent, intake_of, output_of, seen_of, told_of}
pub use Rattle.item_log.specs.Heard.{heard, items_of}
pub use Rattle.guest_image.specs.declared.image.Image.{Image}
pub use Rattle.run_history.specs.declared.answer.Answer.{Answer}
pub use Rattle.run_history.specs.Machine.{State}
unfoldable pub use Rattle.run_history.specs.Machine.{start}
pub use Rattle.run_history.specs.Run.{Run, run}
pub use Rattle.run_history.specs.Served.{Limits, Override, Path}
pub use Rattle.session_history.specs.declared.ends.SessionBreak.{SessionBreak}
pub use Rattle.session_history.specs.declared.ends.SessionEnd.{SessionEnd}
pub use Rattle.session_history.specs.declared.ends.Stop.{Stop}
pub use Rattle.session_history.specs.Account.{IsAccount, IsBroken, Session, after_ending, journal_of}
pub use Rattle.session_history.specs.AccountLaws.{AreInTurn, IsComplete}
pub use Rattle.session_history.specs.Answering.{HasAnswerCause, port_counts}
pub use Rattle.session_history.specs.Ends.{AtBreak, AtEnd, HandedLast, HasComeTo, IsEnded, IsLastRefused, StaysKnown, TakesAtEnd, WasAsked, answer_of, before_end}
pub use Rattle.session_history.specs.Giving.{HasHanded}
pub use Rattle.session_history.specs.Heeding.{Before, Bounds, LimitEvents, LimitItems, TooLong, Unheeded, events_of, heeded, items_in, nothing_before, refusal}
unfoldable pub use Rattle.session_history.specs.Heeding.{heeded_behind}
pub use Rattle.session_history.specs.Lawful.{Chapter, IsWholePiece, Rules, Survivor}
pub use Rattle.session_history.specs.Passing.{AreBetween, passed_behind, passed_in}
pub use Rattle.session_notes.specs.declared.episode.Episode.{Episode}
pub use Rattle.session_notes.specs.declared.episode.Try.{Try}
pub use Rattle.session_notes.specs.Noting.{Noted, Shown, Unnoted}
pub use Rattle.follow.specs.Following.{AsksForMore, HasFollowed, heard_alone, rules_behind}
pub use Rattle.follow.specs.Handed.{AtExit, AtFailure, AtRequest, Stand}
pub use Rattle.recovery.specs.Handling.{HasRing, Keeping, stands_of}
pub use Rattle.schedule_file.specs.declared.recorded.Recorded.{Recorded}
pub use Rattle.schedule_file.specs.declared.recorded.TheConstants.{VERSION}
pub use Rattle.schedule_file.specs.Lines.{choice_line, choice_lines, line_of, lines_text}
unfoldable pub use Rattle.schedule_file.specs.Lines.{end_line, head_line}
pub use Rattle.schedule_file.specs.Records.{IsAnswer, IsAskOf, IsRecord, record_of, text_of}
pub use Rattle.session_state.specs.Leaving.{HandledAt, HandlesRequests, HasKept, HasLeft, LeavesBy, keeping_of}
pub use Rattle.session_state.specs.Options.{keeping_for}
pub use Rattle.session_state.specs.Recovered.{AreAllTables, AreLastTables, AreTables, FailsUpTo, HasGivenUp, HasRecovered, HasWatched, IsHandedLast, IsOutcome, IsTable, IsTelling, Outcome, Telling, Walk, entries, episodes_of, story_of, walk_behind}
pub use Rattle.session_state.specs.Serving.{BreaksAt, LinkAnswers, NotesAnswer, outcome_of, rules_by}
pub use Rattle.session_state.specs.Sessions.{IsBegun, SessionState}
pub use Rattle.session_following.specs.declared.unfollowed.Unfollowed.{Unfollowed}
pub use Rattle.session_following.specs.TakingOver.{HasEndedBehind, HasEndedThere, IsUnfollowed, IsUnfollowedBy, MismatchesAt, TakesOver, TookOver, UnnotedBy, stop_as}
pub use Rattle.replay.specs.declared.difference.Difference.{Difference}
pub use Rattle.replay.specs.Differing.{HasDifference, TellsDifference}
pub use Rattle.replay.specs.Giving.{AreGiven, BreaksOff, found_gone, piece_of}
pub use Rattle.replay.specs.Laws.{BringsFirst, HadOneStream, HasSession, IsRecordOf}
pub use Rattle.replay.specs.Replaying.{AreAsked, AreOfLines, EndsBy, HasAsk, HasReplayed, HasReplayedBy, IsAsking, IsOfLine, IsReplay, LeavesLink, Replay, bounds_of}
pub use Rattle.standby.specs.declared.follower.Follower.{Follower}
pub use Rattle.standby.specs.Following.{AreFollowed, BreaksBy, CatchesUp, HasBroken, HasCaughtUp, LinkCatches, WasFollowed}
pub use Rattle.standby.specs.Missing.{AllGiven, PartGiven}
pub use Rattle.standby.specs.Serving.{AreServed, AreTold, HasServed, IsFollowed, WasServed}
