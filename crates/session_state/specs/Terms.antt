-- The words that this crate's definitions are written in: those of crates below, and types of its code.
pub use Rattle.std.specs.declared.alloc.AllocError.{AllocError}
pub use Rattle.rx_base.specs.declared.fault.IoFault.{IoFault}
pub use Rattle.rx_base.specs.declared.item.Item.{Item}
pub use Rattle.rx_base.specs.declared.item.TheConstants.{MAX_ITEMS}
pub use Rattle.rx_base.specs.Faults.{HasCause, Rose}
pub use Rattle.rx_base.specs.Prefix.{Prefix}
pub use Rattle.rx_base.specs.Sends.{Send, sent_to}
pub use Rattle.links.specs.declared.journal.Entry.{Entry}
pub use Rattle.links.specs.declared.journal.LinkEvent.{LinkEvent}
pub use Rattle.links.specs.Links.{Coming, Counts, Grew, HasEnded, IsFresh, IsNext, Phases, Refuses, Tells, Told, events_in}
pub use Rattle.links.specs.Seen.{Seen, but_given}
pub use Rattle.block_book.specs.declared.choice.Choice.{Choice}
pub use Rattle.block_book.specs.Heap.{Heap}
pub use Rattle.alloc_env.specs.declared.env.Env.{Env}
pub use Rattle.ckpt_ring.specs.Line.{count_true}
pub use Rattle.ckpt_ring.specs.Slots.{Checkpoint, oldest_of}
pub use Rattle.msg_frame.specs.declared.framing.Framing.{Framing}
pub use Rattle.item_log.specs.Heard.{behind_items, brought, hear, hear_parts, items_of}
unfoldable pub use Rattle.item_log.specs.Heard.{heard_from}
pub use Rattle.item_log.specs.Log.{IsItemOf, Log, Shows, empty_log}
pub use Rattle.reply_ledger.specs.Ledger.{Connection, IsOpened, Ledger, NotBefore, Passed, closed_connection, no_replies, with_change, with_send}
unfoldable pub use Rattle.reply_ledger.specs.Ledger.{connection_of, stamped, stamps_of, times_of}
pub use Rattle.reply_ledger.specs.Parts.{is_left}
unfoldable pub use Rattle.reply_ledger.specs.Parts.{next_part, parts_behind, rest_part, settled, unpassed, waits}
pub use Rattle.guest_image.specs.declared.image.Image.{Image}
pub use Rattle.run_history.specs.declared.answer.Answer.{Answer}
pub use Rattle.run_history.specs.declared.answer.Cause.{Cause}
pub use Rattle.run_history.specs.Call.{may_send}
pub use Rattle.run_history.specs.Machine.{Fails, Machine, State, Wants}
unfoldable pub use Rattle.run_history.specs.Machine.{no_connections}
pub use Rattle.run_history.specs.Run.{after}
unfoldable pub use Rattle.run_history.specs.Run.{does}
pub use Rattle.run_history.specs.Served.{AsksFor, FailsBy, Grant, Limits, Override, Path, Served, env_at, guest_of, listed, longer, origin, planned_next}
unfoldable pub use Rattle.run_history.specs.Served.{grant, served_next, serves}
pub use Rattle.guest_cpu.specs.declared.event.Event.{Event}
pub use Rattle.guest_cpu.specs.Cpus.{CpuState, IsFreshCpu, live_of, with_live}
pub use Rattle.guest_cpu.specs.Receiving.{live_with_item, received_range, taken_standing}
pub use Rattle.guest_cpu.specs.Runs.{GoesOn, IsBounded, IsSilent, TakesOn}
pub use Rattle.guest_cpu.specs.Serving.{standing_of}
pub use Rattle.guest_cpu.specs.Standing.{Live, Standing, Turn, marks_of, with_range}
unfoldable pub use Rattle.guest_cpu.specs.Standing.{turn}
pub use Rattle.guest_cpu.specs.Writing.{RunsWriting, Writes}
pub use Rattle.session_history.specs.declared.ends.SessionBreak.{SessionBreak}
pub use Rattle.session_history.specs.declared.ends.SessionEnd.{SessionEnd}
pub use Rattle.session_history.specs.declared.ends.Stop.{Stop}
pub use Rattle.session_history.specs.Account.{IsAccount, IsBroken, Session, journal_of}
pub use Rattle.session_history.specs.Answering.{HasAnswerCause}
pub use Rattle.session_history.specs.Ends.{AtBreak, AtEnd, EndsBy, HandedLast, HasNoEnding, IsEnd, IsEnded, IsLastRefused, IsWaiting, OwesNothingAtEnd, ShowsSession, StandsAt, StaysKnown, TakesAtEnd, WasAsked, answer_of, before_end, break_answer}
pub use Rattle.session_history.specs.Giving.{AreDuePieces, AreFronts, AreGiven, HasHanded, IsClosing, IsReady, Passes, PassesRest, then_entries}
pub use Rattle.session_history.specs.Hearing.{IsHeard, IsHeeded, IsUnheeded, closing_of}
pub use Rattle.session_history.specs.Heeding.{AreHeeded, Before, Bounds, Unheeded, events_of, heeded, items_in, nothing_before, received}
pub use Rattle.session_history.specs.Keeping.{AreSendable, IsSendable, KeepsItems, KeepsPhases, KeepsReplies}
pub use Rattle.session_history.specs.Lawful.{Chapter, IsDuePiece, LeavesNothing, Rules, Survivor, entries_of, gone_on, is_closed_by, is_closing, moves, place_of, then_entry}
pub use Rattle.session_history.specs.Opened.{closes, is_gone, is_open, opens}
pub use Rattle.session_history.specs.Owing.{IsDueBy, IsMadeDue, IsOwed, IsPassed, Latest, Moment, OwesNothing, Stands, behind, journal, latest, place_at, received_before}
pub use Rattle.session_history.specs.Passing.{AreBetween, AreInOrder, passed_in}
pub use Rattle.session_history.specs.Serving.{Ending, IsSoundBefore, Serving, ending_at, first_survivor, moment_of, starting_path}
pub use Rattle.link_gate.specs.declared.heard.HearFault.{HearFault}
pub use Rattle.link_gate.specs.declared.heard.Heard.{Heard}
pub use Rattle.link_gate.specs.declared.pass_fault.PassFault.{PassFault}
pub use Rattle.link_gate.specs.Calls.{ComesLast, ComesOn, HearShows, HearsBy, IsShown, Stays, Takes, TakesBehind}
pub use Rattle.link_gate.specs.Passing.{AreStampedBy, CanGive, HasPassCause, KeepsPassing, MayPass}
pub use Rattle.session_notes.specs.declared.episode.Episode.{Episode}
pub use Rattle.session_notes.specs.declared.episode.Try.{Try}
pub use Rattle.session_notes.specs.Noting.{EpisodeShows, Noted, OneEpisode, Shown, SomeChoices, Unnoted, failed_with, noted}
pub use Rattle.trials.specs.Chains.{AreChained, AreCheckpoints}
pub use Rattle.trials.specs.Episodes.{AreRecovered, IsRecovery, Recovery, adopted_by, episode_of, point_of}
pub use Rattle.trials.specs.Tables.{Trial, survivor_in, table}
pub use Rattle.recovery.specs.declared.recovering.Recovered.{Recovered}
pub use Rattle.recovery.specs.declared.walking.Adopted.{Adopted}
pub use Rattle.recovery.specs.Handling.{AreRinged, HasHandled, HasRing, HaveRings, Keeping, Stand, alone, handle, is_far, keeping_by, stands_of, starting_stands}
pub use Rattle.recovery.specs.Recovering.{HasAdoptedRun, HasRecovery, HasToRecover, KeepsSlots, LeavesRun, LeavesSession, recovery_of}
pub use Rattle.recovery.specs.Rings.{AreBehind, Brings, IsInForce, KeepsRing, SavesIf, ring_if}
pub use Rattle.recovery.specs.Sessions.{CanGoOn, Failure, HasSaved, Held, taken_in}
pub use Rattle.recovery.specs.Trying.{steps_of}
pub use Rattle.recovery.specs.Watching.{IsWholeTable, TellsMore, TellsTable}
pub use Rattle.session_state.specs.declared.options.Options.{Options}
