-- The words that this crate's definitions are written in: those of crates below, and types of its code.
pub use Rattle.rx_base.specs.declared.item.Item.{Item}
pub use Rattle.rx_base.specs.Prefix.{Prefix}
pub use Rattle.rx_base.specs.Sends.{Send, sent_to}
pub use Rattle.links.specs.declared.journal.Entry.{Entry}
pub use Rattle.links.specs.declared.journal.LinkEvent.{LinkEvent}
pub use Rattle.links.specs.declared.journal.LinkEvent.TheVariants.{Ends}
pub use Rattle.links.specs.Links.{Closed, Comes, ComesUntold, Coming, Counts, Grew, HasEnded, IsFresh, IsInOrder, IsNext, Open, Phase, Phases, Piece, Refuses, Tells, TellsHanded, Told, Unopened, cut_entries, events_in, last_taken, phases_after, pieces_in}
pub use Rattle.links.specs.Seen.{Seen}
pub use Rattle.block_book.specs.declared.choice.Choice.{Choice}
pub use Rattle.msg_frame.specs.declared.framing.Framing.{Framing}
pub use Rattle.msg_frame.specs.Messages.{Parts}
unfoldable pub use Rattle.msg_frame.specs.Messages.{cut, cut_whole}
pub use Rattle.item_log.specs.declared.kinds.TheConstants.{CLOSED}
pub use Rattle.item_log.specs.Connections.{in_order, rest_of}
unfoldable pub use Rattle.item_log.specs.Connections.{none_open}
pub use Rattle.item_log.specs.Heard.{Heard, bare_item, behind_items, brought, first_items, hear, hear_parts, heard, items_by, items_of, message_item}
unfoldable pub use Rattle.item_log.specs.Heard.{heard_from, items_from}
pub use Rattle.item_log.specs.Log.{IsPieceOf, Log}
pub use Rattle.reply_ledger.specs.Ledger.{Ledger}
unfoldable pub use Rattle.reply_ledger.specs.Ledger.{connection_of}
pub use Rattle.guest_image.specs.declared.image.Image.{Image}
pub use Rattle.run_history.specs.declared.answer.Answer.{Answer}
pub use Rattle.run_history.specs.Call.{chooses, connections_after, takes}
unfoldable pub use Rattle.run_history.specs.Call.{allocated, received}
pub use Rattle.run_history.specs.Machine.{Chooses, Effect, Emits, Fails, Goes, Machine, State, Wants, register}
unfoldable pub use Rattle.run_history.specs.Machine.{no_connections, start, start_machine}
pub use Rattle.run_history.specs.Run.{Run, after, output, run}
unfoldable pub use Rattle.run_history.specs.Run.{does, next}
pub use Rattle.run_history.specs.Served.{AsksFor, FailsBy, Grant, Guest, Limits, Override, Path, Served, does_with, env_at, guest_of, is_refused, origin, planned_next, serve}
unfoldable pub use Rattle.run_history.specs.Served.{grant, served_next, serves}
