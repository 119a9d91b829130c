-- The words that this crate's definitions are written in: those of crates below, and types of its code.
pub use Rattle.std.specs.List.{All, AllPairs}
pub use Rattle.cow_pages.specs.declared.frame_copy.TheConstants.{PAGE}
pub use Rattle.cow_pages.specs.Pages.{IsLawful, IsMade, Pages, Space, has, held_of, saved_numbers, slot_at, used_of}
pub use Rattle.cow_pages.specs.Writes.{NumberAfter, StandsAt, Writes, copied_pages, is_shared, put_at, reaches}
pub use Rattle.rv_isa.specs.Words.{little_bytes, little_number}
pub use Rattle.code_table.specs.Tables.{IsTableOf, Table, word_in}
pub use Rattle.guest_image.specs.declared.image.Image.{Image}
pub use Rattle.guest_image.specs.declared.layout.TheConstants.{STACK}
pub use Rattle.guest_image.specs.declared.segment.Segment.{Segment}
pub use Rattle.guest_image.specs.Image.{base, blank_area, heap_end, heap_start, memory_of, segment_area, stack_top}
unfoldable pub use Rattle.guest_image.specs.Image.{zeros}
pub use Rattle.guest_image.specs.Layout.{IsPlaced, share_byte}
pub use Rattle.guest_image.specs.Memory.{Area, byte_at, bytes_at, covers, each_covered, put_byte, put_bytes, write}
unfoldable pub use Rattle.guest_image.specs.Memory.{permitted}
