-- The words and lemmas that this crate's proofs are written in: those of crates below, and its own words.
pub use Rattle.std.proofs.Common.{Bool, Err, List, None, Ok, Option, Result, SFits, Some, add-one, ap, arith, eqb, false, inl, inr, refl, rules, subst, sym, to_z-of_z, true, w32, ℕ, ◌%◌, ◌+◌, ◌-◌, ◌^◌, ◌∙◌, ◌≡◌, ◌≤◌}
pub use Rattle.std.proofs.Math.Seq.{set_out, take-append_seam, take-set-lt}
pub use Rattle.std.proofs.lemmas.Bool.{cases_Bool, cases_lt}
pub use Rattle.std.proofs.lemmas.List.{get_or-set_other, get_or-take, length-take, take-set-le}
pub use Rattle.std.specs.Prelude.{IfSome, MatchBool, length, min, negsuc, option_map, pos, slice_get, slice_index, slice_set, suc, take, zero, ℤ, ◌++◌, ◌<◌, ◌==◌, ◌||◌, ◌≢◌, ◌⊎◌}
pub use Rattle.rv_exec.specs.Terms.{AreWindows, Area, AssertFailed, Auipc, Branch, BranchOp, Cause, Ebreak, Ecall, Effect, Entry, EntryOp, Fence, Fits, GuestPages, HasOp, Heap, ImmOp, Instr, IsEntryOf, IsLawfulSpace, IsLinked, Jal, Jalr, Limits, Load, LoadOp, Lui, Machine, OnTrue, Op, OpImm, Puts, Reads, RegOp, Regs, Says, Store, StoreOp, Windows, address, branch_result, bytes_at, flat, goes_to, imm_result, imm_value_of, is_taken, little_bytes, little_number, load_size, loaded, of_branch, of_imm, of_load, of_reg, of_store, op_result, store_size, to_word, value_of, with_register, word_count, written_of}
unfoldable pub use Rattle.rv_exec.specs.Terms.{branch_op, branch_row, displaced, funct3, funct7, imm_b, imm_i, imm_j, imm_op, imm_row, imm_s, imm_u, indirect_target, instruction, jalr_row, load_op, load_row, op_row, opcode, permitted, rd, reg_op, row, rs1, rs2, shift_op, shift_row, store_op, store_row}
pub use Rattle.rv_exec.specs.declared.entries.Next.{Next}
pub use Rattle.rv_exec.specs.declared.entries.Next.TheVariants.{Behind, Stops, To}
pub use Rattle.rv_exec.specs.Execution.{Does}
pub use Rattle.rv_exec.specs.Stepping.{StepsTo, limits_of, under, with_parts}
pub use Rattle.rv_exec.specs.Quick.{IsDone, IsStep, register_in, regs_of}
unfoldable pub use Rattle.rv_exec.specs.Quick.{Ran}
pub use Rattle.rv_exec.specs.Entries.{Entered, EntryDone, Goes, GoesTo, IsAmong, IsAt, IsEntryDone, IsWritten, Lands, MayRun, RanOn, Runs, WentOn, counter, number_of, seen, tried}
