-- The words and lemmas that this crate's proofs are written in: those of crates below, and its own words.
pub use Rattle.std.proofs.Common.{Bool, List, None, Option, Some, [], add-one, add-suc, add-zero, ap, append-nil, append_assoc, arith, cond, eqb, false, inl, inr, leb, length, length-append, length-set, ltb, map, max, not, refl, replicate, set, subst, suc, sym, true, zero, ℕ, ◌++◌, ◌+◌, ◌-◌, ◌<◌, ◌∙◌, ◌∷◌, ◌≡◌, ◌≢◌, ◌≤◌, ◌⊎◌}
pub use Rattle.std.proofs.lemmas.Bool.{both_ways, cases_Bool, cases_eq, cases_lt, cond_both, eq-eqb, eqb-false, eqb-true, leb-false, ltb-false, ne_eqb, not-false}
pub use Rattle.std.proofs.lemmas.List.{get_or-replicate, get_or-set_other, get_or-set_same, get_or_past, get_or_push, length-replicate, length_push}
pub use Rattle.std.proofs.lemmas.Option.{none-some, option_and_then_some, same_Some, slice_get-get_or, slice_get_past, unwrap_or-slice_get}
pub use Rattle.std.specs.Prelude.{flat_map, is_some, negsuc, option_and_then, option_map, pos, slice_get, unwrap_or, ℤ}
pub use Rattle.run_history.specs.Terms.{Area, Ask, AssertFailed, Auipc, BadAccess, BadCall, BadFree, BadInstruction, BadJump, Branch, BranchOp, Calloc, Choice, Ebreak, Ecall, Env, Fence, Hang, Heap, Image, Instr, IsHeap, Item, Jal, Jalr, Load, LoadOp, Lui, Malloc, Op, OpImm, Prefix, Realloc, Send, Served, Store, StoreOp, base, bytes_asked, bytes_at, empty_heap, execute, heap_end, heap_start, is_defined, is_taken, little_bytes, little_number, live_blocks, live_with, moved_count, read, replaced, sent_to, without_live, write}
unfoldable pub use Rattle.run_history.specs.Terms.{base_op, branch_op, branch_row, displaced, extended, funct3, funct7, imm_b, imm_i, imm_j, imm_op, imm_row, imm_s, imm_u, indirect_target, is_allowed, is_block, is_clear, is_less_signed, load_op, load_row, may_carry, op_row, opcode, permitted, quotient_signed, rd, reg_op, row, rs1, rs2, shifted_right_signed, store_op, store_row, system_row, word_sum, zeros}
pub use Rattle.run_history.specs.Machine.{Chooses, Effect, Emits, Ends, Fails, Goes, Machine, State, Wants, next_pc, register, with_register}
unfoldable pub use Rattle.run_history.specs.Machine.{no_connections, start, start_machine}
pub use Rattle.run_history.specs.Instruction.{auipc, branch, ebreak, fence, goes_on, jal, jalr, jumps, load, op, op_imm, store, writes}
pub use Rattle.run_history.specs.Call.{allocation, answered, call, chooses, connections_after, free, may_send, moved_bytes, recv, send, set_count, takes}
unfoldable pub use Rattle.run_history.specs.Call.{allocated, freed, received, set_bytes}
pub use Rattle.run_history.specs.Repeating.{repeated}
pub use Rattle.run_history.specs.Run.{Run, after, effect, executed, output, run, word_at}
unfoldable pub use Rattle.run_history.specs.Run.{does, instruction, next}
unfoldable pub use Rattle.run_history.specs.Touching.{instruction_at, touched}
pub use Rattle.run_history.specs.Served.{Allocate, Free, Grant, Guest, IsLaidOut, Limits, Nothing, Override, Path, Request, call_request, does_with, env_at, granted, guest_of, is_refused, listed, longer, origin, planned_next, request_of, serve, site_of}
unfoldable pub use Rattle.run_history.specs.Served.{grant, served_next, serves}
