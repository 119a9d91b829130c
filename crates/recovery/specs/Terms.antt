-- The words that this crate's definitions are written in: those of crates below, and types of its code.
pub use Rattle.std.specs.declared.alloc.AllocError.{AllocError}
pub use Rattle.std.specs.List.{AllByRecursion, position_or_len}
pub use Rattle.rx_base.specs.declared.item.Item.{Item}
pub use Rattle.rx_base.specs.declared.item.TheConstants.{MAX_ITEMS}
pub use Rattle.rx_base.specs.Prefix.{Prefix}
pub use Rattle.rx_base.specs.Sends.{Send, sent_to}
pub use Rattle.links.specs.declared.journal.Entry.{Entry}
pub use Rattle.block_book.specs.declared.choice.Choice.{Choice}
pub use Rattle.block_book.specs.Heap.{Heap}
pub use Rattle.alloc_env.specs.declared.env.Env.{Env}
pub use Rattle.ckpt_ring.specs.Line.{count_true}
pub use Rattle.ckpt_ring.specs.Rings.{has_room, largest, room_for, saved_in_ring}
pub use Rattle.ckpt_ring.specs.Slots.{Checkpoint, Slots, oldest_of, page_numbers, restored, with_whole_oldest, without_newer}
pub use Rattle.item_log.specs.Log.{IsItemOf, Log, ShowsStill}
pub use Rattle.reply_ledger.specs.Ledger.{Connection, IsInOrder, IsOpened, Ledger, NotBefore, Passed, no_replies, passed_to}
unfoldable pub use Rattle.reply_ledger.specs.Ledger.{connection_of, is_open, stamped, stamped_to, stamps_of, times_of}
pub use Rattle.reply_ledger.specs.Parts.{is_left, parts}
unfoldable pub use Rattle.reply_ledger.specs.Parts.{parts_behind, settled, unpassed, waits}
pub use Rattle.reply_ledger.specs.Shows.{Shows}
unfoldable pub use Rattle.reply_ledger.specs.Shows.{pieces_until, stamped_of}
pub use Rattle.reply_ledger.specs.Trials.{adopted, begun, discarded, trial_sends, with_trial_send}
unfoldable pub use Rattle.reply_ledger.specs.Trials.{agree}
pub use Rattle.guest_image.specs.declared.image.Image.{Image}
pub use Rattle.guest_image.specs.Image.{base}
pub use Rattle.run_history.specs.declared.answer.Cause.{Cause}
pub use Rattle.run_history.specs.Call.{may_send}
pub use Rattle.run_history.specs.Machine.{Fails, Machine, State, Wants}
unfoldable pub use Rattle.run_history.specs.Machine.{start, start_machine}
pub use Rattle.run_history.specs.Served.{AsksFor, FailsBy, Limits, Override, Path, Served, does_with, env_at, is_refused, listed, origin, planned_next}
unfoldable pub use Rattle.run_history.specs.Served.{grant, served_next, serves}
pub use Rattle.run_history.specs.Touching.{Range}
unfoldable pub use Rattle.run_history.specs.Touching.{instruction_at, touched}
pub use Rattle.rv_exec.specs.Stepping.{limits_of}
pub use Rattle.guest_cpu.specs.declared.event.Event.{Event}
pub use Rattle.guest_cpu.specs.declared.marks.Marks.{Marks}
pub use Rattle.guest_cpu.specs.Cpus.{CpuState, IsFreshCpu, live_of, with_live}
pub use Rattle.guest_cpu.specs.Runs.{GoesOn, IsBounded, IsSilent, TakesOn}
pub use Rattle.guest_cpu.specs.Serving.{Adds, standing_of}
pub use Rattle.guest_cpu.specs.Standing.{Live, Standing, Turn, live_after, marks_of, turn_of, with_range}
unfoldable pub use Rattle.guest_cpu.specs.Standing.{turn}
pub use Rattle.guest_cpu.specs.Writing.{RunsWriting, TakesWriting, Writes, writes}
pub use Rattle.session_history.specs.Heeding.{Before, Bounds, LimitEvents, LimitItems, TooLong, events_of, heeded, items_in, nothing_before, received, refusal}
unfoldable pub use Rattle.session_history.specs.Heeding.{heeded_behind}
pub use Rattle.session_history.specs.Keeping.{AreSendable, IsSendable, KeepsItems, KeepsReplies, may_pass}
pub use Rattle.session_history.specs.Lawful.{Chapter, Rules, Survivor, entries_of}
pub use Rattle.session_history.specs.Opened.{opens}
pub use Rattle.session_history.specs.Passing.{AreBetween, AreInOrder, Covers, CoversBefore, IsFeasible, passed_in, until}
pub use Rattle.session_history.specs.Serving.{Carries, first_survivor, starting_path}
pub use Rattle.session_notes.specs.declared.episode.Episode.{Episode}
pub use Rattle.session_notes.specs.declared.episode.Tried.{Tried}
pub use Rattle.session_notes.specs.declared.episode.Try.{Try}
pub use Rattle.session_notes.specs.Survival.{survives}
pub use Rattle.trials.specs.Chains.{AreChained, AreCheckpoints, IsCheckpoint}
pub use Rattle.trials.specs.Episodes.{IsRecovery, Recovery, adopted_by, episode_of}
pub use Rattle.trials.specs.Laws.{everywhere}
pub use Rattle.trials.specs.Tables.{Chance, IsRight, Trial, WalksOver, chance_at, chances_at, environments, survivor_in, table, try_of}
pub use Rattle.trials.specs.Trials.{ComesTo, IsContradicted, IsTrial, IsUnharmed, plan_of_trial}
