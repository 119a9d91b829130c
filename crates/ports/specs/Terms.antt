-- The words that this crate's definitions are written in: those of crates below, and types of its code.
pub use Rattle.std.specs.Vec.Iter.{into_iter_items}
pub use Rattle.rx_base.specs.declared.fault.IoFault.{IoFault}
pub use Rattle.rx_base.specs.declared.fault.IoFault.TheVariants.{Failed, Memory}
pub use Rattle.rx_base.specs.Outside.{Stream, fresh, piece_len}
pub use Rattle.rx_base.specs.Taking.{Takes}
pub use Rattle.ports.specs.declared.port_calls.Awaited.{Awaited}
pub use Rattle.ports.specs.declared.port_calls.PortEntry.{PortEntry}
pub use Rattle.ports.specs.declared.port_calls.Ready.{Ready}
pub use Rattle.ports.specs.declared.port_calls.Ready.TheVariants.{Accepts, Reads, Stops}
