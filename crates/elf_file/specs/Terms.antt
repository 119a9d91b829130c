-- The words that this crate's definitions are written in: those of crates below, and types of its code.
pub use Rattle.std.specs.List.{All, filter, list_any, position_or_len}
pub use Rattle.std.specs.Option.{option_map, option_or}
pub use Rattle.rv_isa.specs.Words.{little_bytes, little_number}
pub use Rattle.guest_image.specs.declared.image.Image.{Image}
pub use Rattle.guest_image.specs.declared.layout.TheConstants.{PAGE, STACK_AND_GUARD}
pub use Rattle.guest_image.specs.declared.segment.Segment.{Segment}
pub use Rattle.guest_image.specs.Layout.{HasBytes, HasWordFlags, IsPlaced, IsWindow, executable, heap_floor, highest, lowest, share_byte, window_start}
unfoldable pub use Rattle.guest_image.specs.Layout.{bad_entry, layout_refusal, no_load, overlap, too_large}
