-- The words that this crate's definitions are written in: those of crates below, and types of its code.
pub use Rattle.std.specs.declared.alloc.Global.{Global}
pub use Rattle.std.specs.Io.KnownBytes.{Appends}
pub use Rattle.std.specs.List.{All, list_all}
pub use Rattle.rx_base.specs.declared.fault.IoFault.{IoFault}
pub use Rattle.rx_base.specs.Outside.{IsDrained, Stream, Took}
pub use Rattle.rx_base.specs.Prefix.{Prefix}
pub use Rattle.trunk_wire.specs.declared.header.Header.{Header}
pub use Rattle.trunk_wire.specs.declared.header.TheConstants.{BYTES, CLOSE, OPEN, SETTLE}
pub use Rattle.trunk_wire.specs.Frames.{FitsTwoBytes, frame, from_two_bytes, header_bytes, header_of, high_byte, low_byte}
pub use Rattle.trunk_wire.specs.Grammar.{is_extra, is_known}
pub use Rattle.trunk_text.specs.declared.line.Flaw.{Flaw}
pub use Rattle.trunk_text.specs.declared.line.Flaw.TheVariants.{Control, Cut, Escape, Form, Kind, LongLine, LongPiece, Number, Payload}
pub use Rattle.trunk_text.specs.declared.line.Line.{Line}
pub use Rattle.trunk_text.specs.declared.line.Line.TheVariants.{Closes, Nothing, Opens, Piece, Settles}
pub use Rattle.trunk_text.specs.declared.line.LineFault.{LineFault}
pub use Rattle.trunk_text.specs.declared.line.LineFault.TheVariants.{Memory, Refused}
