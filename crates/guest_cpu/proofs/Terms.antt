-- The words and lemmas that this crate's proofs are written in: those of crates below, and its own words.
pub use Rattle.std.proofs.Common.{All, Bool, Contains, IfSome, IsSome, IsSomeAnd, List, None, Option, Result, Some, [], add-zero, ap, append-nil, append_assoc, arith, cond, drop, eqb, false, get_or, inl, inr, leb, length, length-append, ltb, max, nat_le, not, refl, replicate, rules, set, subst, suc, sym, true, zero, ℕ, ◌%◌, ◌&&◌, ◌*◌, ◌++◌, ◌+◌, ◌-◌, ◌/◌, ◌<◌, ◌^◌, ◌||◌, ◌∙◌, ◌∷◌, ◌≡◌, ◌≢◌, ◌≤◌, ◌⊎◌}
pub use Rattle.std.proofs.lemmas.Bool.{and_parts, cases_Bool, cases_lt, eqb-true, lt-leb, or_cases}
pub use Rattle.std.proofs.lemmas.Bool.Decides.{nat_tests}
pub use Rattle.std.proofs.lemmas.List.{append_cancel_left, length-replicate, length-set, length-take-le, set-set, take_min}
pub use Rattle.std.proofs.lemmas.List.Elements.{All-contains, All-head, All-set, All-tail, All-weaker, Contains-append_right}
pub use Rattle.std.proofs.lemmas.Option.{none-some, option_and_then_some, same_Some, slice_get_read, slice_get_within}
pub use Rattle.std.specs.Prelude.{Err, MatchBool, Ok, is_some, map, nat_lt, option_map, slice_get, slice_index, slice_set, take, unwrap_or}
pub use Rattle.block_book.proofs.Asks.{apart-of_clear, same-is, size-live, size-within}
pub use Rattle.block_book.proofs.Live.{live-front, live-front_delayed, live-insert_block, live-without}
pub use Rattle.ckpt_ring.proofs.Same.{all_at, checkpoint_at, length-checkpoints_in, other_slot, saved_slot, this_slot}
pub use Rattle.ckpt_ring.proofs.Sound.{line_hasnt, line_sound, line_starts}
pub use Rattle.ckpt_ring.proofs.Used.{line_flags, line_used}
pub use Rattle.run_history.proofs.Blocks.{frees}
pub use Rattle.run_history.proofs.Repeats.{repeated_join, repeated_one}
pub use Rattle.run_history.proofs.Runs.{allocated_keeps, length-set_bytes, received_keeps, slice_get_longer}
pub use Rattle.run_history.proofs.Serves.{allocates, map_some, served_next_more, serves_to}
pub use Rattle.run_history.proofs.Shapes.{Alone, MaySend, Picks, Same, Shape, Takes, does_shape, length-bytes_at}
pub use Rattle.guest_space.proofs.SavedLemmas.{windows_released}
pub use Rattle.guest_space.proofs.SpaceLemmas.{is_permitted, length-little_bytes, puts_more}
pub use Rattle.guest_cpu.specs.Terms.{AllocError, Allocate, AreSound, AreWindows, Area, Ask, AsksFor, AssertFailed, BadAccess, BadFree, BadInstruction, Cause, Checkpoint, Choice, Chooses, Ecall, Effect, Emits, Ends, Env, Event, Fails, Free, Goes, Grant, Guest, GuestPages, Hang, Heap, Image, Instr, IsHeap, IsLaidOut, IsLawful, IsLawfulSpace, IsLine, IsMade, IsStart, IsStep, Item, Leaves, LiesIn, Limits, Line, MAX_SLOTS, Machine, Marks, Met, Nothing, Override, PAGE, Pages, Path, Puts, Question, Range, Regs, Releases, Request, SameEnds, Saves, SavesOver, Served, Site, Slots, Space, Span, State, StepsTo, Store, Wants, after, allocation, blank_span, buffer, bytes_asked, bytes_at, call, call_buffer, checkpoints_in, chooses, count_true, does_with, each_covered, empty_heap, env_at, execute, fetched, flat, free, granted, guest_of, has_replaced, heap_end, heap_start, in_place_of, insert_live, is_apart, is_calloc, is_defined, is_live_at, is_refused, kept_count, lies_in, limits_of, line_of, listed, live_block, live_blocks, live_with, longer, most_blocks, moved_bytes, moved_count, oldest_of, or_bad, planned_next, put_bytes, read, register, repeated, replaced, request_of, restored, same_ask, segment_span, served_over, set_count, site_of, size_at, slot_at, slots_of, stack_top, store_size, touched_by, under, used_of, used_pages, with_block, with_newest, with_reached, with_register, without_block, without_live, without_newer, without_oldest, without_replaced, word_at, write, written_pages}
unfoldable pub use Rattle.guest_cpu.specs.Terms.{Ran, allocated, base_op, branch_op, branch_row, displaced, does, freed, grant, imm_op, imm_row, instruction, instruction_at, is_allowed, is_block, is_clear, may_carry, op_row, permitted, received, reg_op, row, served_ask, served_block, served_free, served_next, serves, set_bytes, start, start_machine, system_row, touched, word_sum}
pub use Rattle.guest_cpu.specs.declared.guest_core.Core.{Core}
pub use Rattle.guest_cpu.specs.Standing.{AreCounted, Live, Standing, Turn, answering, core_site, counting, going_on, live_after, machine_of, marks_of, moved, quietly, set_range, standing, stored_by, turn_of, turn_to, unless_event, with_range, written_with}
unfoldable pub use Rattle.guest_cpu.specs.Standing.{quiet_next, turn}
pub use Rattle.guest_cpu.specs.Turns.{IsSend, Keeps, Lasts, MetStays, RecordedLasts, Turned, TurnsBy, Wrote}
pub use Rattle.guest_cpu.specs.Meeting.{meeting_by, meeting_of, sends}
unfoldable pub use Rattle.guest_cpu.specs.Meeting.{meeting}
pub use Rattle.guest_cpu.specs.Calls.{allocating, answered_with, freeing}
pub use Rattle.guest_cpu.specs.Receiving.{live_with_item, received_range, taken_standing}
pub use Rattle.guest_cpu.specs.Recording.{asking, chosen_standing, heap_after, heap_with, live_with_choice, recorded_of, recorded_turn, released, released_over}
unfoldable pub use Rattle.guest_cpu.specs.Recording.{recorded}
pub use Rattle.guest_cpu.specs.Cpus.{CpuState, IsCpu, IsFreshCpu, IsStartCore, cpu_state, live_of, state_in, with_live}
pub use Rattle.guest_cpu.specs.Running.{Breaks, Lives, Reaches, RecordedLives, RunsBy}
pub use Rattle.guest_cpu.specs.Serving.{Adds, Follows, TurnsServe, standing_of}
pub use Rattle.guest_cpu.specs.Runs.{GoesOn, IsBounded, IsSilent, RunsOn, TakesOn}
pub use Rattle.guest_cpu.specs.Writing.{RunsWriting, TakesWriting, Writes, WritesIn, writes, written_by}
pub use Rattle.guest_cpu.specs.Laws.{AsksWants, RunsServe, RunsStart, RunsWrite, TakesServe, TakesWrite, WritesOnce}
