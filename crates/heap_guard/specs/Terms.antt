-- The words that this crate's definitions are written in: those of crates below, and types of its code.
pub use Rattle.std.specs.List.{All, list_any}
pub use Rattle.rx_base.specs.declared.item.Item.{Item}
pub use Rattle.block_book.specs.Block.{lies_in}
unfoldable pub use Rattle.block_book.specs.Block.{reserved_size}
pub use Rattle.block_book.specs.Heap.{Heap, IsHeap, empty_heap, is_held, is_reserved}
pub use Rattle.guest_image.specs.declared.image.Image.{Image}
pub use Rattle.run_history.specs.Machine.{Machine, State}
unfoldable pub use Rattle.run_history.specs.Machine.{start, start_machine}
pub use Rattle.run_history.specs.Run.{run}
pub use Rattle.run_history.specs.Served.{IsLaidOut, Limits, Override, Path, Served, env_at, guest_of, is_refused, origin, planned_next, serve}
pub use Rattle.run_history.specs.Touching.{Range}
unfoldable pub use Rattle.run_history.specs.Touching.{touched}
