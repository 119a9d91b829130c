-- The words that this crate's definitions are written in: those of crates below, and types of its code.
pub use Rattle.std.specs.declared.alloc.Global.{Global}
pub use Rattle.std.specs.Option.{is_some, option_map_or, unwrap_or}
pub use Rattle.rx_base.specs.declared.item.Item.{Item}
pub use Rattle.links.specs.declared.journal.LinkEvent.{LinkEvent}
pub use Rattle.links.specs.declared.journal.LinkEvent.TheVariants.{Closes, Ends, Opens, Piece, Settles}
pub use Rattle.msg_frame.specs.declared.framing.FrameRefusal.{FrameRefusal}
pub use Rattle.msg_frame.specs.declared.framing.Framing.{Framing}
pub use Rattle.msg_frame.specs.Feeding.{Feeds, Unfinished}
pub use Rattle.msg_frame.specs.Messages.{Parts, one_message}
unfoldable pub use Rattle.msg_frame.specs.Messages.{cut}
pub use Rattle.item_log.specs.declared.item_refusal.ItemRefusal.{ItemRefusal}
pub use Rattle.item_log.specs.declared.item_refusal.ItemRefusal.TheVariants.{Items, Memory, TooLong}
pub use Rattle.item_log.specs.declared.kinds.TheConstants.{CLOSED, CONNECTIONS, MESSAGE, OPENED}
