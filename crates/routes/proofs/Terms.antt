-- The words and lemmas that this crate's proofs are written in: those of crates below, and its own words.
pub use Rattle.std.proofs.Common.{All, Bool, List, None, Option, Some, [], ap, append-nil, append_assoc, arith, cond, drop, false, if◌then◌else◌, inl, inr, length, length-append, map, nat_lt, option_map, refl, rules, subst, suc, sym, take, true, true≢false, zero, ℕ, ◌++◌, ◌+◌, ◌-◌, ◌<◌, ◌==◌, ◌^◌, ◌∙◌, ◌∷◌, ◌≡◌, ◌≢◌, ◌≤◌, ◌⊎◌}
pub use Rattle.std.proofs.Math.Path.{fun_ext}
pub use Rattle.std.proofs.Math.Seq.{drop-append_seam}
pub use Rattle.std.proofs.lemmas.Bool.{MatchBool-at_false, MatchBool-at_true, and_parts, le-ltb, leb-false, lt-leb, ltb-false, ltb-true}
pub use Rattle.std.proofs.lemmas.Grind.{flat_map-append}
pub use Rattle.std.proofs.lemmas.List.{map-append, nil_from_length}
pub use Rattle.std.proofs.lemmas.List.Elements.{All-head, All-tail}
pub use Rattle.std.proofs.lemmas.Option.{none-some, same_Some}
pub use Rattle.std.specs.Prelude.{Err, IfSome, IsErrOf, IsSome, MatchOption, Ok, Result, count_by, flat_map, is_none, is_some, nat_le, slice_get, unwrap_or, ◌&&◌, ◌||◌}
pub use Rattle.links.proofs.Journaled.{events_in-append}
pub use Rattle.links.proofs.Moved.{gave, gave_to, took}
pub use Rattle.trunk_wire.proofs.GrammarLemmas.{events_steady, frame-accepted, front-accepted, front-bad, put_bytes-frame}
pub use Rattle.trunk_wire.proofs.LinkLemmas.{Countable, not_whole}
pub use Rattle.trunk_wire.proofs.StreamLaws.{IsSent, framed_sent, pieces-cut, pieces-frames}
pub use Rattle.run_history.proofs.Outputs.{prefix_trans, sent_to-append}
pub use Rattle.session_history.proofs.Ended.{at_its_end, came_to, end_then}
pub use Rattle.session_history.proofs.Heeded.{heeded_front}
pub use Rattle.session_history.proofs.Heeding.{events_alone, events_of-append, none_had}
pub use Rattle.replay.proofs.StreamLemmas.{items_grow, two_fronts}
pub use Rattle.routes.specs.Terms.{AllByRecursion, AllGiven, Answer, Appends, AreAllTables, AreAsked, AreBetween, AreFramesOf, AreGiven, AreInOrder, AreInTurn, AreLastTables, AreOfLines, AreTables, AsksForMore, AtBreak, AtEnd, AtExit, AtFailure, AtRequest, Bad, Before, Bounds, BreaksAt, BreaksBy, BreaksOff, BringsFirst, CatchesUp, Chapter, Choice, Comes, ComesUntold, Coming, Counts, Difference, EndsBy, Entry, Episode, Follower, Front, GivesOn, GoesOn, Grew, HadOneStream, Handed, HandedLast, HandledAt, HandlesRequests, HasAnswerCause, HasAsk, HasBroken, HasCaughtUp, HasComeTo, HasEnded, HasEndedBehind, HasEndedThere, HasGivenUp, HasHanded, HasKept, HasLeft, HasRecovered, HasReplayed, HasReplayedBy, HasServed, HasSession, HasWatched, Image, Intake, IsAccount, IsAnswer, IsAskOf, IsAsking, IsBegun, IsBroken, IsCall, IsComplete, IsCut, IsDrained, IsEnded, IsFrameOf, IsFramed, IsFresh, IsHandedLast, IsInOrder, IsJustBound, IsLastRefused, IsNext, IsOfLine, IsOutcome, IsRecordOf, IsRefused, IsReplay, IsTable, IsTail, IsTelling, IsUnfollowed, IsUnfollowedBy, Item, Keeping, LeavesBy, LeavesLink, LimitEvents, LimitItems, Limits, LinkAnswers, LinkCatches, LinkEvent, MismatchesAt, Noted, Outcome, Output, Override, Part, Path, Phases, Piece, PortEntry, PortLimits, Prefix, Recorded, Refusal, Refuses, Replay, Rose, Rules, Run, Seen, Send, Served, Session, SessionBreak, SessionEnd, SessionState, Shown, Stand, Stands, State, StaysKnown, Stop, Stream, Survivor, TakesAtEnd, TakesOn, TakesOver, Telling, Tells, TellsDifference, Told, TooLong, Took, TookFrames, TookOver, TrunkLink, TrunkWent, Try, Unfollowed, Unheeded, Unnoted, Unopened, VERSION, Walk, WasAsked, WasServed, Whole, Writes, WritesBy, WroteFrames, after_ending, answer_of, before_end, bounds_of, bytes_from, choice_line, choice_lines, closed_entries, coming_of, count_after, entries, entries_of, episodes_of, event_at, event_of, event_reader, events, events_in, events_of, found_gone, frames, fresh, fresh_served, front, front_accepted, front_by, given_to, gives_all, gives_below_4096, gives_part, handed_by, header_of, header_refusal, heard, heard_alone, heeded, intake_of, is_in_step, is_whole, items_in, items_of, journal_of, keeping_for, keeping_of, last_bytes, last_taken, line_of, lines_text, no_faults, nothing_before, outcome_of, output_of, passed_behind, passed_in, phases_after, phases_behind, piece_frame, piece_of, pieces, pieces_in, port_counts, put_bytes, received_from, refusal, rules_behind, rules_by, run, seen_of, sent_to, stands_of, stop_as, story_of, takes_bytes, told_coming, told_events, told_nothing, told_of, told_pieces, trunk_told, walk_behind, whole_event, with_ends, with_part}
unfoldable pub use Rattle.routes.specs.Terms.{AreCalls, after_call, end_line, head_line, heeded_behind, link_journal, served_after, served_of, start, told_at}
pub use Rattle.routes.specs.Trunk.{BreaksTrunk, Carried, Carries, IsBehind, StopsAt, StopsTrunk, TakesNoPart, TakesTrunk, TookNoPart, TookRefused, TookTrunk, TookWhole, WritesTrunk, WritesWhole, WroteTrunk, WroteWhole}
pub use Rattle.routes.specs.OverTrunk.{HeadsAt, HeadsDue, HeadsTrunk, trunk_counts}
pub use Rattle.routes.specs.PortCalls.{OpenAtMost, bytes_given, bytes_taken, is_accept, is_close, taken_of}
pub use Rattle.routes.specs.OverPort.{CalledPort, EndsAfter, GoesOverPort}
pub use Rattle.routes.specs.Serving.{IsRecordedLow, IsRecordedUpTo, Port, RecordsAt, Serves, Trunk, Watches}
pub use Rattle.routes.specs.Laws.{ConvertsToItself, IsAsRecorded, IsConverted, IsWithin, SameBytesAreReplayed, SessionIsConverted}
pub use Rattle.routes.specs.Replaying.{ComparesTrunk, IsRecordedRun, ReplaysTrunk, TakesReplay, TookReplay, WritesFirst, WritesFront, WritesReplay, WritesSends, sent_pieces}
pub use Rattle.routes.specs.Converting.{ComparesConverted, Concludes, ConvertsTrunk, HasConvertCause, converted}
pub use Rattle.routes.specs.StandingBy.{BreaksOffTrunk, CarriesPieces, CatchesUpTrunk, FollowsTrunk, IsNewTrunk, ServesOnTrunk, TakesFollowed, TakesServed, TakesWhole, TookFollowed}
pub use Rattle.routes.specs.Resuming.{ResumesBy, ResumesTrunk, StopsFollowing, TakesUnfollowed, TookApart, answer_as}
