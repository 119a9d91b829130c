-- The lemmas that the proofs of this crate's functions cite.
pub use Rattle.cow_pages.proofs.Counting.{has-get_or}
pub use Rattle.cow_pages.proofs.Walks.{Counting, Uncounting, apart_there, by_count, by_live, counted_room, counting_all, counting_fits, counting_more, give_all, give_free, give_kept, give_room, recounts_on, stack_freed, stack_kept, uncounting_all, uncounting_more, uncounting_some}
pub use Rattle.cow_pages.proofs.Renewals.{renewed_all, renewed_few, renewed_room, renewed_some, same_more, same_on, same_part, stand_all, stand_more, walked}
pub use Rattle.cow_pages.proofs.Frames.{part-put_at}
pub use Rattle.cow_pages.proofs.Stores.{frame_read, held-is, lawful, shared_read, slot_here, used-sum}
pub use Rattle.cow_pages.proofs.Copying.{free_there, moved, moved_apart, moved_owns, moved_pool, moved_sound, stay_owns}
pub use Rattle.cow_pages.proofs.Slots.{emptied, live_held, saved_slot, slot_seen, turned_held}
pub use Rattle.cow_pages.proofs.Runs.{byte_done, byte_is, byte_lawful, copied_done, owns_in, part_done, part_is, part_lawful, place_room, stands_in, used_one}
pub use Rattle.cow_pages.proofs.SlotSteps.{live_space, over_fits, over_sound, refilled, refilled_stack, releasing, releasing_fits, releasing_sound, restoring, restoring_fits, saving, saving_fits, saving_over, saving_sound, saving_sum, saving_used}
pub use Rattle.cow_pages.proofs.RunSteps.{copies_more, mid_size, read_more, run_more, writes_nothing, zeros_more}
pub use Rattle.cow_pages.proofs.Making.{blank_more, blank_none, made_is, made_sound}
pub use Rattle.cow_pages.proofs.Moving.{log_none, log_saved, logged_lost, logged_made, logged_moved, logged_set, over_moves}
