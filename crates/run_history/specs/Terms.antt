-- The words that this crate's definitions are written in: those of crates below, and types of its code.
pub use Rattle.rx_base.specs.declared.item.Item.{Item}
pub use Rattle.rx_base.specs.Prefix.{Prefix}
pub use Rattle.rx_base.specs.Sends.{Send, sent_to}
pub use Rattle.block_book.specs.declared.choice.Ask.{Ask}
pub use Rattle.block_book.specs.declared.choice.Ask.TheVariants.{Calloc, Malloc, Realloc}
pub use Rattle.block_book.specs.declared.choice.Choice.{Choice}
pub use Rattle.block_book.specs.Answer.{bytes_asked, is_defined, live_blocks, live_with, moved_count, replaced, without_live}
unfoldable pub use Rattle.block_book.specs.Answer.{is_allowed, is_block, is_clear, may_carry}
pub use Rattle.block_book.specs.Heap.{Heap, IsHeap, empty_heap}
pub use Rattle.alloc_env.specs.declared.env.Env.{Env}
pub use Rattle.alloc_env.specs.Serving.{Served}
unfoldable pub use Rattle.alloc_env.specs.Serving.{served_ask, served_free}
pub use Rattle.rv_isa.specs.declared.instr.BranchOp.{BranchOp}
pub use Rattle.rv_isa.specs.declared.instr.Instr.{Instr}
pub use Rattle.rv_isa.specs.declared.instr.Instr.TheVariants.{Auipc, Branch, Ebreak, Ecall, Fence, Jal, Jalr, Load, Lui, Op, OpImm, Store}
pub use Rattle.rv_isa.specs.declared.instr.LoadOp.{LoadOp}
pub use Rattle.rv_isa.specs.declared.instr.StoreOp.{StoreOp}
pub use Rattle.rv_isa.specs.Meaning.{imm_value_of, is_taken, load_size, loaded, store_size, to_word, value_of}
unfoldable pub use Rattle.rv_isa.specs.Meaning.{displaced, extended, indirect_target, is_less_signed, quotient_signed, shifted_right_signed, word_sum}
unfoldable pub use Rattle.rv_isa.specs.Table.{base_op, branch_op, branch_row, imm_op, imm_row, load_op, load_row, op_row, reg_op, row, store_op, store_row, system_row}
pub use Rattle.rv_isa.specs.Words.{little_bytes, little_number}
unfoldable pub use Rattle.rv_isa.specs.Words.{funct3, funct7, imm_b, imm_i, imm_j, imm_s, imm_u, opcode, rd, rs1, rs2}
pub use Rattle.guest_image.specs.declared.image.Image.{Image}
pub use Rattle.guest_image.specs.Image.{base, heap_end, heap_start, memory_of, stack_top}
unfoldable pub use Rattle.guest_image.specs.Image.{zeros}
pub use Rattle.guest_image.specs.Memory.{Area, bytes_at, execute, put_bytes, read, write}
unfoldable pub use Rattle.guest_image.specs.Memory.{permitted}
pub use Rattle.run_history.specs.declared.answer.Cause.{Cause}
pub use Rattle.run_history.specs.declared.answer.Cause.TheVariants.{AssertFailed, BadAccess, BadCall, BadFree, BadInstruction, BadJump, Hang}
