-- The words that this crate's definitions are written in: those of crates below, and types of its code.
pub use Rattle.std.specs.Option.{option_map, option_map_or, unwrap_or}
pub use Rattle.rx_base.specs.Faults.{Rose}
pub use Rattle.rx_base.specs.Prefix.{Prefix}
pub use Rattle.rx_base.specs.Sends.{Send, sent_to}
pub use Rattle.links.specs.declared.journal.Entry.{Entry}
pub use Rattle.links.specs.declared.journal.Entry.TheVariants.{Gave, Took}
pub use Rattle.links.specs.declared.journal.Given.{Given}
pub use Rattle.links.specs.declared.journal.Given.TheVariants.{All, Gone}
pub use Rattle.links.specs.declared.journal.LinkEvent.{LinkEvent}
pub use Rattle.links.specs.declared.journal.LinkEvent.TheVariants.{Closes, Ends, Opens, Piece, Settles}
pub use Rattle.links.specs.declared.journal.LinkFault.{LinkFault}
pub use Rattle.links.specs.Links.{Closed, Coming, Counts, Cuts, Gives, GivesAtClose, HasGiveCause, IsInOrder, IsNext, Open, Phase, Phases, Refuses, StaysTold, StillComes, Tells, TellsHanded, Told, Unopened, cut_entries, events_in, phases_after}
pub use Rattle.links.specs.Seen.{GiveShows, Seen, but_given}
pub use Rattle.msg_frame.specs.declared.framing.Framing.{Framing}
pub use Rattle.msg_frame.specs.Messages.{Parts}
unfoldable pub use Rattle.msg_frame.specs.Messages.{cut}
pub use Rattle.item_log.specs.declared.kinds.TheConstants.{CLOSED, CONNECTIONS, OPENED}
pub use Rattle.item_log.specs.Connections.{in_order, rest_of}
unfoldable pub use Rattle.item_log.specs.Connections.{none_open}
pub use Rattle.item_log.specs.Heard.{bare_item, behind_items, brought, first_items, hear, hear_parts, heard, items_by, items_of, message_item, then_hear}
unfoldable pub use Rattle.item_log.specs.Heard.{heard_from, items_from}
pub use Rattle.item_log.specs.Log.{Fits, IsItemOf, IsPieceOf, Log, Passes, Shows, logged, with_heard}
unfoldable pub use Rattle.reply_ledger.specs.Inside.{earlier_at}
pub use Rattle.reply_ledger.specs.Ledger.{Connection, IsOpened, Ledger, NotBefore, Passed, closed_connection, gone_connection, new_connection, passed_connection, passed_to, with_change, with_connection, with_passed, with_send}
unfoldable pub use Rattle.reply_ledger.specs.Ledger.{changed, connection_of, is_open, stamped, stamped_to, stamps_of, times_of}
pub use Rattle.reply_ledger.specs.Parts.{is_left, shown_part}
unfoldable pub use Rattle.reply_ledger.specs.Parts.{next_part, rest_part, unpassed}
unfoldable pub use Rattle.reply_ledger.specs.Shows.{stamped_of}
pub use Rattle.session_history.specs.Giving.{AreDuePieces, AreFronts, HasHanded, IsClosing, IsReady, PassesBy, PassesRest, then_entries}
pub use Rattle.session_history.specs.Hearing.{IsHeard, IsHeeded, IsUnheeded, closing_of}
pub use Rattle.session_history.specs.Heeding.{Bounds, LimitEvents, LimitItems, TooLong, Unheeded, events_of, heeded, items_in, received, refusal}
unfoldable pub use Rattle.session_history.specs.Heeding.{heeded_behind}
pub use Rattle.session_history.specs.Keeping.{AreSendable, IsSendable, KeepsItems, KeepsPhases, KeepsReplies, may_pass, phase_after}
pub use Rattle.session_history.specs.Lawful.{GoesBefore, IsDuePiece, IsWholePiece, Rules, is_close_of, is_closed_by, is_closing, then_entry}
pub use Rattle.session_history.specs.Opened.{closes, is_gone, opens}
pub use Rattle.session_history.specs.Owing.{IsDueBy, IsMadeDue, IsOwed, IsPassed, Latest, Moment, Stands, behind, journal, latest, place_at, received_before}
pub use Rattle.session_history.specs.Passing.{passed_in}
pub use Rattle.link_gate.specs.declared.heard.HearFault.{HearFault}
pub use Rattle.link_gate.specs.declared.heard.Heard.{Heard}
pub use Rattle.link_gate.specs.declared.pass_fault.PassFault.{PassFault}
