-- The words that this crate's definitions are written in: those of crates below, and types of its code.
pub use Rattle.std.specs.declared.alloc.Global.{Global}
pub use Rattle.std.specs.Io.KnownBytes.{Appends, Consumes, Keeps, prepend_known}
pub use Rattle.std.specs.Str.{bytes_eq}
pub use Rattle.rx_base.specs.declared.fault.IoFault.{IoFault}
pub use Rattle.rx_base.specs.declared.fault.LoadFault.{LoadFault}
pub use Rattle.rx_base.specs.declared.fault.LoadFault.TheVariants.{Failed, Memory, TooLarge}
pub use Rattle.rx_base.specs.Planned.{Plan}
pub use Rattle.rx_io.specs.declared.file_calls.FileCall.{FileCall}
