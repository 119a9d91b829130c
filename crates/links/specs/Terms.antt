-- The words that this crate's definitions are written in: those of crates below, and types of its code.
pub use Rattle.rx_base.specs.Planned.{Plan, after_call, fails_next, first_plan, one_more}
pub use Rattle.rx_base.specs.Prefix.{Prefix}
pub use Rattle.links.specs.declared.journal.Entry.{Entry}
pub use Rattle.links.specs.declared.journal.Given.{Given}
pub use Rattle.links.specs.declared.journal.Given.TheVariants.{All, Gone}
pub use Rattle.links.specs.declared.journal.LinkEvent.{LinkEvent}
pub use Rattle.links.specs.declared.journal.LinkFault.{LinkFault}
pub use Rattle.links.specs.declared.journal.LinkFault.TheVariants.{Memory, ReadFault, Refused, WriteFault}
