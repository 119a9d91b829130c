-- The words that this crate's definitions are written in: those of crates below, and types of its code.
pub use Rattle.rx_base.specs.declared.fault.IoFault.{IoFault}
pub use Rattle.rx_base.specs.Faults.{HasCause, Rose}
pub use Rattle.rx_base.specs.Planned.{one_more}
pub use Rattle.rx_base.specs.Prefix.{Prefix}
pub use Rattle.links.specs.declared.journal.Entry.{Entry}
pub use Rattle.links.specs.declared.journal.Given.{Given}
pub use Rattle.links.specs.declared.journal.Given.TheVariants.{All, Gone}
pub use Rattle.links.specs.declared.journal.LinkEvent.{LinkEvent}
pub use Rattle.links.specs.declared.journal.LinkFault.{LinkFault}
pub use Rattle.links.specs.declared.journal.LinkFault.TheVariants.{Memory, ReadFault, Refused, WriteFault}
pub use Rattle.links.specs.LinkForms.{handed_by, told_by}
pub use Rattle.links.specs.Links.{ComesUntold, Counts, Enters, Gives, GivesAtClose, GoesBy, Handed, HasEnded, HasGiveCause, IsGone, Phase, Phases, Tells, TellsHanded, Told, cut_entries, last_taken}
pub use Rattle.links.specs.Seen.{IsSound, Seen}
pub use Rattle.ports.specs.declared.port.Port.{Ghosts}
pub use Rattle.ports.specs.declared.port_calls.Awaited.{Awaited}
pub use Rattle.ports.specs.declared.port_calls.PortEntry.{PortEntry}
pub use Rattle.ports.specs.declared.port_calls.Ready.{Ready}
pub use Rattle.ports.specs.declared.port_calls.Ready.TheVariants.{Accepts, Reads, Stops}
pub use Rattle.ports.specs.Calls.{Logs, PortAccepts, PortWaits}
pub use Rattle.ports.specs.ConnectionLaws.{open_fewer, open_more, open_within}
pub use Rattle.ports.specs.Connections.{IsReady, is_open, open_count, without}
