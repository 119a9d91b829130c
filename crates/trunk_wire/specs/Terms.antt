-- The words that this crate's definitions are written in: those of crates below, and types of its code.
pub use Rattle.std.specs.Io.KnownBytes.{Appends}
pub use Rattle.rx_base.specs.declared.fault.IoFault.{IoFault}
pub use Rattle.rx_base.specs.declared.item.TheConstants.{CONNECTIONS}
pub use Rattle.rx_base.specs.Outside.{IsDrained, Stream, Took}
pub use Rattle.rx_base.specs.Prefix.{Prefix}
pub use Rattle.links.specs.declared.journal.Entry.{Entry}
pub use Rattle.links.specs.declared.journal.Given.{Given}
pub use Rattle.links.specs.declared.journal.Given.TheVariants.{All, Gone}
pub use Rattle.links.specs.declared.journal.LinkEvent.{LinkEvent}
pub use Rattle.links.specs.declared.journal.LinkFault.{LinkFault}
pub use Rattle.links.specs.declared.journal.LinkFault.TheVariants.{Memory, ReadFault, Refused, WriteFault}
pub use Rattle.links.specs.ConnectionTables.{is_open, is_unopened, phases_in}
pub use Rattle.links.specs.Links.{Closed, Comes, Coming, Counts, Cuts, Enters, Gives, GoesBy, Grew, Handed, IsFresh, IsInOrder, Nexts, Open, Phase, Phases, Piece, Refuses, Tells, Told, Unopened, cut_entries, events_in, phases_after, pieces_in, with_phase}
pub use Rattle.links.specs.Seen.{IsSound, Seen}
