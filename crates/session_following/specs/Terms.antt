-- The words that this crate's definitions are written in: those of crates below, and types of its code.
pub use Rattle.std.specs.List.{last_or}
pub use Rattle.rx_base.specs.declared.item.Item.{Item}
pub use Rattle.rx_base.specs.Prefix.{Prefix}
pub use Rattle.rx_base.specs.Sends.{Send, sent_to}
pub use Rattle.links.specs.declared.journal.Entry.{Entry}
pub use Rattle.links.specs.declared.journal.LinkEvent.{LinkEvent}
pub use Rattle.links.specs.Links.{Coming, Grew, IsFresh, IsNext, Phases, Refuses, Tells, Told, events_in}
pub use Rattle.links.specs.Seen.{Seen}
pub use Rattle.block_book.specs.declared.choice.Choice.{Choice}
pub use Rattle.block_book.specs.Heap.{Heap}
pub use Rattle.alloc_env.specs.declared.env.Env.{Env}
pub use Rattle.item_log.specs.Log.{IsPieceOf, Log}
pub use Rattle.reply_ledger.specs.Ledger.{IsOpened, Ledger, NotBefore, Passed, closed_connection, passed_connection, passed_to, with_change, with_passed, with_send}
unfoldable pub use Rattle.reply_ledger.specs.Ledger.{connection_of, stamped, stamped_to, times_of}
pub use Rattle.reply_ledger.specs.Shows.{Shows}
unfoldable pub use Rattle.reply_ledger.specs.Shows.{stamped_of}
pub use Rattle.guest_image.specs.declared.image.Image.{Image}
pub use Rattle.run_history.specs.declared.answer.Answer.{Answer}
pub use Rattle.run_history.specs.declared.answer.Cause.{Cause}
unfoldable pub use Rattle.run_history.specs.Machine.{start, start_machine}
pub use Rattle.run_history.specs.Served.{AsksFor, FailsBy, Limits, Override, Path, Served, env_at, origin, planned_next, serve}
unfoldable pub use Rattle.run_history.specs.Served.{served_next}
pub use Rattle.guest_cpu.specs.declared.event.Event.{Event}
pub use Rattle.guest_cpu.specs.Cpus.{CpuState, live_of, with_live}
pub use Rattle.guest_cpu.specs.Runs.{GoesOn, IsSilent}
pub use Rattle.guest_cpu.specs.Serving.{standing_of}
pub use Rattle.guest_cpu.specs.Standing.{Standing}
pub use Rattle.guest_cpu.specs.Writing.{RunsWriting, Writes}
pub use Rattle.session_history.specs.declared.ends.Stop.{Stop}
pub use Rattle.session_history.specs.Ends.{StaysKnown, answer_of}
pub use Rattle.session_history.specs.Hearing.{closing_of}
pub use Rattle.session_history.specs.Heeding.{Before, Bounds, Unheeded, events_of, heeded, items_in, nothing_before, received, refusal}
pub use Rattle.session_history.specs.Keeping.{AreSendable, IsSendable, KeepsItems, KeepsPhases, KeepsReplies, phase_after}
pub use Rattle.session_history.specs.Lawful.{Chapter, Rules, Survivor, entries_of}
pub use Rattle.session_history.specs.Opened.{closes, is_gone, is_open, opens}
pub use Rattle.session_history.specs.Passing.{AreBetween, AreInOrder, Covers, IsFeasible, passed_in}
pub use Rattle.session_history.specs.Serving.{Carries, IsSoundBefore, first_survivor, starting_path}
pub use Rattle.link_gate.specs.declared.heard.HearFault.{HearFault}
pub use Rattle.link_gate.specs.Calls.{ComesLast, HearsBy, HearsEvent, IsShown, MayHear}
pub use Rattle.session_notes.specs.declared.episode.Episode.{Episode}
pub use Rattle.session_notes.specs.declared.episode.Try.{Try}
pub use Rattle.session_notes.specs.Noting.{Noted, Shown, Unnoted}
pub use Rattle.trials.specs.Episodes.{Recovery, episode_of}
pub use Rattle.follow.specs.Following.{AsksForMore, HasFollowed, heard_alone, rules_behind}
pub use Rattle.follow.specs.Handed.{AtExit, AtFailure, AtRequest, Finish, Handed, HasReached, IsPastFailure, IsStuck, Stand}
pub use Rattle.follow.specs.Held.{count_of, held, held_behind}
pub use Rattle.follow.specs.Plans.{AreWellPlaced, IsWellPlaced, adopted_try, first_count, plan_behind, plan_from, plan_of}
pub use Rattle.follow.specs.Takeover.{IsFollowed, IsTakeover, Takeover, heard_first, plan_in, stopped}
pub use Rattle.recovery.specs.Handling.{AreRinged, AreWritten, HasFollowedRequests, HasHandled, HasWritten, Keeping, alone, first_stands, handle, handled, stands_of, starting_stands}
pub use Rattle.recovery.specs.Rings.{AreBehind, Brings, IsInForce, KeepsRing}
pub use Rattle.recovery.specs.Sessions.{AreKept, CanGoOn}
pub use Rattle.recovery.specs.Watching.{TellsMore}
pub use Rattle.session_state.specs.Leaving.{HandlesRequests, IsHandled, IsTrimmed, LeavesBy, keeping_of}
pub use Rattle.session_state.specs.Options.{AreInRange, keeping_for, rules_in}
pub use Rattle.session_state.specs.Recovered.{AreTables, FailsAtChoices, HasWatched, Telling, spent}
pub use Rattle.session_state.specs.Serving.{BreaksNoting, BreaksPassing, HasSameOpen, IsCounted, IsStopAt, LinkAnswers, LinkServes, MayServe, NotesAnswer, NotesServe, StandsWaiting, StopsBy, TrimsAt, outcome_of, rules_by}
pub use Rattle.session_state.specs.Sessions.{IsBegun, SessionState, env_of}
pub use Rattle.session_state.specs.Standing.{AnswersFor, EndsWithin, GoesWith, HasPassedDue, IsEnding, IsGoing, IsHearing, IsTold, IsWaitingFor, KeepsCheckpoints, Since, Story, entries, sends, told_since}
pub use Rattle.session_following.specs.declared.handed_over.HandedOver.{HandedOver}
pub use Rattle.session_following.specs.declared.handed_over.Place.{Place}
pub use Rattle.session_following.specs.declared.unfollowed.Unfollowed.{Unfollowed}
