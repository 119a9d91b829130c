-- The words that this crate's definitions are written in: those of crates below, and types of its code.
pub use Rattle.std.specs.declared.alloc.AllocError.{AllocError}
pub use Rattle.rx_base.specs.declared.item.Item.{Item}
pub use Rattle.block_book.specs.declared.choice.Ask.{Ask}
pub use Rattle.block_book.specs.declared.choice.Choice.{Choice}
pub use Rattle.block_book.specs.declared.site.Site.{Site}
pub use Rattle.block_book.specs.Answer.{bytes_asked, has_replaced, insert_live, is_calloc, is_defined, kept_count, live_blocks, live_with, moved_count, replaced, same_ask, size_at, without_live, without_replaced}
unfoldable pub use Rattle.block_book.specs.Answer.{is_allowed, is_block, is_clear, may_carry}
pub use Rattle.block_book.specs.Block.{is_apart, lies_in, live_block}
pub use Rattle.block_book.specs.Heap.{Heap, IsHeap, SameEnds, empty_heap, is_live_at, most_blocks, with_block, without_block}
pub use Rattle.alloc_env.specs.declared.env.Env.{Env}
pub use Rattle.alloc_env.specs.Serving.{Served, in_place_of, served_over}
unfoldable pub use Rattle.alloc_env.specs.Serving.{served_ask, served_block, served_free}
pub use Rattle.cow_pages.specs.declared.frame_copy.TheConstants.{PAGE}
pub use Rattle.cow_pages.specs.declared.store.TheConstants.{MAX_SLOTS}
pub use Rattle.cow_pages.specs.Pages.{IsLawful, IsMade, Pages, Space, slot_at, used_of}
pub use Rattle.ckpt_ring.specs.Line.{IsLine, Line, checkpoints_in, count_true, line_of, slots_of, with_reached, written_pages}
pub use Rattle.ckpt_ring.specs.Slots.{AreSound, Checkpoint, Slots, oldest_of, restored, used_pages, with_newest, without_newer, without_oldest}
pub use Rattle.rv_isa.specs.declared.instr.Instr.{Instr}
pub use Rattle.rv_isa.specs.declared.instr.Instr.TheVariants.{Ecall, Store}
pub use Rattle.rv_isa.specs.Meaning.{store_size}
unfoldable pub use Rattle.rv_isa.specs.Meaning.{displaced, word_sum}
unfoldable pub use Rattle.rv_isa.specs.Table.{base_op, branch_op, branch_row, imm_op, imm_row, op_row, reg_op, row, system_row}
pub use Rattle.guest_image.specs.declared.image.Image.{Image}
pub use Rattle.guest_image.specs.Image.{base, heap_end, heap_start, memory_of, stack_top}
pub use Rattle.guest_image.specs.Memory.{Area, bytes_at, each_covered, execute, put_bytes, read, write}
unfoldable pub use Rattle.guest_image.specs.Memory.{permitted}
pub use Rattle.run_history.specs.declared.answer.Cause.{Cause}
pub use Rattle.run_history.specs.declared.answer.Cause.TheVariants.{AssertFailed, BadAccess, BadFree, BadInstruction, Hang}
pub use Rattle.run_history.specs.declared.regs.Regs.{Regs}
pub use Rattle.run_history.specs.Call.{allocation, answered, call, chooses, connections_after, free, may_send, moved_bytes, set_count}
unfoldable pub use Rattle.run_history.specs.Call.{allocated, freed, received, set_bytes}
pub use Rattle.run_history.specs.Machine.{Chooses, Effect, Emits, Ends, Fails, Goes, Machine, State, Wants, register, with_register}
unfoldable pub use Rattle.run_history.specs.Machine.{start, start_machine}
pub use Rattle.run_history.specs.Repeating.{repeated}
pub use Rattle.run_history.specs.Run.{after, word_at}
unfoldable pub use Rattle.run_history.specs.Run.{does, instruction}
pub use Rattle.run_history.specs.Served.{Allocate, AsksFor, FailsBy, Free, Grant, Guest, IsLaidOut, Limits, Nothing, Override, Path, Request, does_with, env_at, granted, guest_of, is_refused, listed, longer, origin, planned_next, request_of, site_of}
unfoldable pub use Rattle.run_history.specs.Served.{grant, served_next, serves}
pub use Rattle.run_history.specs.Touching.{Range, buffer, call_buffer, touched_by}
unfoldable pub use Rattle.run_history.specs.Touching.{instruction_at, touched}
pub use Rattle.guest_space.specs.Access.{IsStart, Puts, Releases, Saves, SavesOver}
pub use Rattle.guest_space.specs.Space.{GuestPages, IsLawfulSpace, LiesIn, Span, blank_span, flat, saved_flat, segment_span}
pub use Rattle.guest_space.specs.Windows.{AreWindows}
pub use Rattle.rv_exec.specs.Execution.{fetched, or_bad}
pub use Rattle.rv_exec.specs.Quick.{IsStep}
unfoldable pub use Rattle.rv_exec.specs.Quick.{Ran}
pub use Rattle.rv_exec.specs.Stepping.{Leaves, StepsTo, limits_of, under}
pub use Rattle.guest_cpu.specs.declared.event.Event.{Event}
pub use Rattle.guest_cpu.specs.declared.event.Met.{Met}
pub use Rattle.guest_cpu.specs.declared.event.Question.{Question}
pub use Rattle.guest_cpu.specs.declared.marks.Marks.{Marks}
