-- The words that this crate's definitions are written in: those of crates below, and types of its code.
pub use Rattle.std.specs.Option.{option_map_or, option_or}
pub use Rattle.block_book.specs.declared.choice.Ask.{Ask}
pub use Rattle.block_book.specs.declared.choice.Ask.TheVariants.{Calloc, Malloc, Realloc}
pub use Rattle.block_book.specs.declared.choice.Choice.{Choice}
pub use Rattle.block_book.specs.declared.site.Site.{Site}
pub use Rattle.block_book.specs.declared.standing.Standing.{Standing}
pub use Rattle.block_book.specs.declared.standing.Standing.TheVariants.{Delayed, Live, Nothing}
pub use Rattle.block_book.specs.Answer.{bytes_asked, insert_live, is_calloc, kept_count, live_blocks, live_with, moved_count, replaced, same_ask, size_at, without_live, without_replaced}
unfoldable pub use Rattle.block_book.specs.Answer.{is_allowed, is_block, is_clear, may_carry}
pub use Rattle.block_book.specs.Block.{extent_end, is_apart, lies_in, live_block, reach}
unfoldable pub use Rattle.block_book.specs.Block.{reserved_size}
pub use Rattle.block_book.specs.Heap.{Heap, IsHeap, StandWithin, is_live_at, live_at, reach_at, recycled, remembering, standing_at, standing_of, with_block, with_delayed, without_block}
unfoldable pub use Rattle.block_book.specs.Placement.{placement}
pub use Rattle.alloc_env.specs.declared.treatment.Treatment.{Treatment}
