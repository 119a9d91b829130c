-- The words that this crate's definitions are written in: those of crates below, and types of its code.
pub use Rattle.std.specs.Fmt.{decimal}
pub use Rattle.rx_base.specs.declared.item.TheConstants.{MAX_ITEMS}
pub use Rattle.block_book.specs.declared.choice.Ask.{Ask}
pub use Rattle.block_book.specs.declared.choice.Ask.TheVariants.{Calloc, Malloc, Realloc}
pub use Rattle.block_book.specs.declared.choice.Choice.{Choice}
pub use Rattle.block_book.specs.Answer.{is_calloc, replaced}
pub use Rattle.msg_frame.specs.declared.framing.Framing.{Framing}
pub use Rattle.text_lines.specs.Lines.{IsTorn, behind_line, first_line, is_line, lines_of}
pub use Rattle.text_lines.specs.Numbers.{behind_digits, clipped, first_number, number_from, second_number}
pub use Rattle.schedule_file.specs.declared.recorded.Finish.{Finish}
pub use Rattle.schedule_file.specs.declared.recorded.Head.{Head}
pub use Rattle.schedule_file.specs.declared.recorded.Line.{Line}
pub use Rattle.schedule_file.specs.declared.recorded.RecordRefusal.{RecordRefusal}
pub use Rattle.schedule_file.specs.declared.recorded.RecordRefusal.TheVariants.{Memory, Refused}
pub use Rattle.schedule_file.specs.declared.recorded.Recorded.{Recorded}
pub use Rattle.schedule_file.specs.declared.recorded.TheConstants.{MAX_WINDOW, VERSION}
pub use Rattle.schedule_file.specs.declared.recorded.Unfinished.{Unfinished}
