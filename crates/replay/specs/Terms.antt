-- The words that this crate's definitions are written in: those of crates below, and types of its code.
pub use Rattle.rx_base.specs.declared.item.Item.{Item}
pub use Rattle.rx_base.specs.declared.item.TheConstants.{MAX_ITEMS}
pub use Rattle.rx_base.specs.Prefix.{Prefix}
pub use Rattle.rx_base.specs.Sends.{Send}
pub use Rattle.links.specs.declared.journal.Entry.{Entry}
pub use Rattle.links.specs.declared.journal.LinkEvent.{LinkEvent}
pub use Rattle.links.specs.declared.journal.LinkEvent.TheVariants.{Ends}
pub use Rattle.links.specs.declared.journal.LinkFault.{LinkFault}
pub use Rattle.links.specs.declared.journal.LinkFault.TheVariants.{Memory, ReadFault, Refused, WriteFault}
pub use Rattle.links.specs.Links.{Closed, Coming, Counts, Gives, HasEnded, IsFresh, IsInOrder, IsNext, Open, Phases, Piece, Refuses, StaysTold, StillComes, Tells, TellsHanded, Told, cut_entries, events_in, last_taken, phases_after, pieces_in}
pub use Rattle.links.specs.Seen.{NextShows, Seen}
pub use Rattle.block_book.specs.declared.block.Block.{Block}
pub use Rattle.block_book.specs.declared.choice.Ask.{Ask}
pub use Rattle.block_book.specs.declared.choice.Choice.{Choice}
pub use Rattle.block_book.specs.declared.site.Site.{Site}
pub use Rattle.block_book.specs.Answer.{bytes_asked, insert_live, live_blocks, replaced, same_ask}
unfoldable pub use Rattle.block_book.specs.Answer.{is_allowed, is_block}
pub use Rattle.block_book.specs.Heap.{Heap, IsHeap, empty_heap, is_bare, is_live_at, most_blocks, without_block}
pub use Rattle.msg_frame.specs.declared.framing.Framing.{Framing}
pub use Rattle.item_log.specs.declared.item_refusal.ItemRefusal.{ItemRefusal}
pub use Rattle.item_log.specs.Heard.{Heard, bare_item, brought, first_items, hear, hear_parts, items_by, items_of, message_item}
unfoldable pub use Rattle.item_log.specs.Heard.{items_from}
pub use Rattle.item_log.specs.Log.{Fits, IsItemOf, IsPieceOf, Log, Passes, empty_log, logged}
pub use Rattle.guest_image.specs.declared.image.Image.{Image}
pub use Rattle.run_history.specs.declared.answer.Answer.{Answer}
pub use Rattle.run_history.specs.declared.answer.Cause.{Cause}
pub use Rattle.run_history.specs.Call.{chooses, connections_after, takes}
unfoldable pub use Rattle.run_history.specs.Call.{allocated}
pub use Rattle.run_history.specs.Machine.{Chooses, Effect, Emits, Fails, Goes, Machine, State, Wants}
unfoldable pub use Rattle.run_history.specs.Machine.{no_connections, start, start_machine}
pub use Rattle.run_history.specs.Repeating.{repeated}
pub use Rattle.run_history.specs.Run.{Run, after, effect, run}
unfoldable pub use Rattle.run_history.specs.Run.{does, next}
pub use Rattle.run_history.specs.Served.{Allocate, Free, Grant, Guest, IsLaidOut, Limits, Nothing, Override, Path, Request, env_at, granted, guest_of, listed, origin, planned_next, request_of, serve, site_of}
unfoldable pub use Rattle.run_history.specs.Served.{grant}
unfoldable pub use Rattle.run_history.specs.Touching.{instruction_at}
pub use Rattle.guest_cpu.specs.declared.event.Question.{Question}
pub use Rattle.guest_cpu.specs.declared.marks.Marks.{Marks}
pub use Rattle.guest_cpu.specs.Cpus.{CpuState, live_of, start_standing}
pub use Rattle.guest_cpu.specs.Receiving.{taken_standing}
pub use Rattle.guest_cpu.specs.Recording.{chosen_standing, heap_after, is_usable, recorded_of, recorded_turn, released}
unfoldable pub use Rattle.guest_cpu.specs.Recording.{recorded}
pub use Rattle.guest_cpu.specs.Running.{RunsBy}
pub use Rattle.guest_cpu.specs.Standing.{Live, Standing, Turn, live_after, quietly, turn_to, unless_event}
unfoldable pub use Rattle.guest_cpu.specs.Standing.{quiet_next}
pub use Rattle.session_history.specs.Account.{IsAccount, Session, journal_of}
pub use Rattle.session_history.specs.Answering.{HasAnswerCause, MayBegin}
pub use Rattle.session_history.specs.Ends.{IsLastRefused, IsLastTooLong}
pub use Rattle.session_history.specs.Heeding.{AreHeeded, Bounds, Unheeded, events_of, heeded, items_in, nothing_before, received, refusal}
unfoldable pub use Rattle.session_history.specs.Heeding.{heeded_behind}
pub use Rattle.session_history.specs.Keeping.{KeepsItems, KeepsPhases, phase_after}
pub use Rattle.session_history.specs.Lawful.{Rules}
pub use Rattle.schedule_file.specs.declared.recorded.Line.{Line}
pub use Rattle.schedule_file.specs.declared.recorded.Recorded.{Recorded}
pub use Rattle.schedule_file.specs.Lines.{line_of}
pub use Rattle.replay.specs.declared.difference.Difference.{Difference}
