-- The words that this crate's definitions are written in: those of crates below, and types of its code.
pub use Rattle.rx_base.specs.declared.item.Item.{Item}
pub use Rattle.rx_base.specs.declared.item.TheConstants.{KEEP, MAX_ITEMS}
pub use Rattle.rx_base.specs.Prefix.{Prefix}
pub use Rattle.rx_base.specs.Sends.{Send, sent_to}
pub use Rattle.links.specs.declared.journal.Entry.{Entry}
pub use Rattle.links.specs.declared.journal.LinkEvent.{LinkEvent}
pub use Rattle.links.specs.declared.journal.LinkFault.{LinkFault}
pub use Rattle.links.specs.Links.{Coming, Gives, HasEnded, IsFresh, IsInOrder, IsNext, Open, Phases, Piece, Refuses, Tells, Told, cut_entries, events_in, pieces_in}
pub use Rattle.links.specs.Seen.{NextShows, Seen}
pub use Rattle.block_book.specs.declared.choice.Choice.{Choice}
pub use Rattle.block_book.specs.Heap.{is_bare}
pub use Rattle.alloc_env.specs.declared.env.Env.TheVariants.{Plain}
pub use Rattle.item_log.specs.Connections.{in_order, is_open, rest_of}
pub use Rattle.item_log.specs.Heard.{Heard, brought, hear, hear_parts, items_by, items_of}
unfoldable pub use Rattle.item_log.specs.Heard.{items_from}
pub use Rattle.item_log.specs.Log.{Fits, IsItemOf, Log, logged}
pub use Rattle.guest_image.specs.declared.image.Image.{Image}
pub use Rattle.run_history.specs.declared.answer.Answer.{Answer}
pub use Rattle.run_history.specs.declared.answer.Cause.{Cause}
pub use Rattle.run_history.specs.Machine.{Fails, Wants}
unfoldable pub use Rattle.run_history.specs.Machine.{no_connections, start, start_machine}
pub use Rattle.run_history.specs.Run.{Run, run}
unfoldable pub use Rattle.run_history.specs.Run.{does}
pub use Rattle.run_history.specs.Served.{AsksFor, FailsBy, Guest, IsLaidOut, Limits, Path, Served, does_with, guest_of, is_refused, planned_next, serve}
unfoldable pub use Rattle.run_history.specs.Served.{grant, serves}
pub use Rattle.guest_cpu.specs.declared.marks.Marks.{Marks}
pub use Rattle.guest_cpu.specs.Cpus.{live_of, start_standing}
pub use Rattle.guest_cpu.specs.Receiving.{taken_standing}
pub use Rattle.guest_cpu.specs.Serving.{standing_of}
pub use Rattle.guest_cpu.specs.Standing.{AreCounted, Live, Standing, marks_of}
unfoldable pub use Rattle.guest_cpu.specs.Standing.{turn}
pub use Rattle.session_history.specs.Answering.{HasAnswerCause, MayBegin}
pub use Rattle.session_history.specs.Ends.{IsLastRefused, IsLastTooLong}
pub use Rattle.session_history.specs.Heeding.{Bounds, Unheeded, heeded, items_in, received, refusal}
unfoldable pub use Rattle.session_history.specs.Heeding.{heeded_behind}
pub use Rattle.session_history.specs.Keeping.{KeepsItems, KeepsPhases, phase_after}
pub use Rattle.session_history.specs.Opened.{closes, opens}
pub use Rattle.schedule_file.specs.declared.recorded.Recorded.{Recorded}
pub use Rattle.counts_file.specs.Counts.{AreCounts, IsCount, count_of}
pub use Rattle.replay.specs.declared.difference.Difference.{Difference}
pub use Rattle.replay.specs.Differing.{DiffersBy, HasFound, TellsDifference}
pub use Rattle.replay.specs.Giving.{AreGiven, AreGivenInPart, found_gone}
pub use Rattle.replay.specs.Hearing.{LogsEvent, answer_of}
pub use Rattle.replay.specs.Playing.{AreOpen, AreOpenThen, HasNoFault, LinkHears, LinkTurns, Stage, StayOpen, UsesBy, has, replay_of, stage_of}
pub use Rattle.replay.specs.Replaying.{AreOfLines, Differs, Ended, Failed, IsReplay, IsUnusable, LeavesLink, LinkAnswers, Replay, Starved, Unanswered, Untaken, Unused, WaitsForItem, bounds_of, choice_by}
