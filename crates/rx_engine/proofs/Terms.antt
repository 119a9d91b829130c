-- The words and lemmas that this crate's proofs are written in: those of crates below, and its own words.
pub use Rattle.std.specs.declared.alloc.AllocError.{AllocError}
pub use Rattle.std.proofs.Common.{Err, List, None, Ok, Option, Some, [], ap, append-nil, arith, drop, inl, inr, length, map, min, refl, rules, subst, sym, take, ℕ, ◌*◌, ◌++◌, ◌+◌, ◌-◌, ◌<◌, ◌^◌, ◌∙◌, ◌∷◌, ◌≡◌, ◌≤◌}
pub use Rattle.std.proofs.lemmas.Bool.{false≢true}
pub use Rattle.std.specs.Prelude.{Bool, IfOk, IfSome, IsSome, Result, false, if◌then◌else◌, slice_get, true, ◌==◌, ◌≢◌, ◌⊎◌}
pub use Rattle.rx_base.specs.declared.item.TheConstants.{MAX_ITEMS}
pub use Rattle.rx_base.proofs.Composing.{rose_later}
pub use Rattle.rx_base.specs.Sends.{Send, sent_to}
pub use Rattle.links.specs.declared.journal.LinkEvent.{LinkEvent}
pub use Rattle.links.specs.Links.{Coming, Grew, Phases, Tells, Told}
pub use Rattle.links.specs.Seen.{Seen}
pub use Rattle.block_book.specs.declared.choice.Choice.{Choice}
pub use Rattle.block_book.specs.Heap.{Heap}
pub use Rattle.alloc_env.specs.declared.env.Env.{Env}
pub use Rattle.ckpt_ring.specs.Slots.{Slots, oldest_of}
pub use Rattle.item_log.specs.Log.{IsItemOf, Log, received}
pub use Rattle.reply_ledger.specs.Ledger.{IsOpened, Ledger, NotBefore, passed_connection, passed_to, with_passed, with_send}
unfoldable pub use Rattle.reply_ledger.specs.Ledger.{is_open, stamped, stamped_to, stamps_of, times_of}
pub use Rattle.guest_image.specs.declared.image.Image.{Image}
pub use Rattle.run_history.specs.declared.answer.Cause.{Cause}
pub use Rattle.run_history.specs.Machine.{Fails, Wants}
pub use Rattle.run_history.specs.Served.{AsksFor, FailsBy, Limits, Override, Path, env_at, guest_of, origin}
unfoldable pub use Rattle.run_history.specs.Served.{serves}
pub use Rattle.guest_cpu.specs.Cpus.{CpuState, live_of, with_live}
pub use Rattle.guest_cpu.specs.Standing.{Standing}
pub use Rattle.session_history.specs.declared.ends.Stop.{Stop}
pub use Rattle.session_history.specs.Ends.{AtBreak, AtEnd, StaysKnown, answer_of}
pub use Rattle.session_history.specs.Giving.{IsClosing, IsReady}
pub use Rattle.session_history.specs.Heeding.{Before, Bounds, items_in}
pub use Rattle.session_history.specs.Lawful.{Rules}
pub use Rattle.link_gate.specs.Calls.{ComesLast}
pub use Rattle.link_gate.specs.Passing.{CanGive}
pub use Rattle.session_notes.specs.declared.episode.Try.{Try}
pub use Rattle.session_notes.specs.Noting.{Noted, Shown, Unnoted}
pub use Rattle.follow.specs.Following.{AsksForMore, heard_alone, rules_behind}
pub use Rattle.follow.specs.Handed.{AtExit, AtFailure, AtRequest, Handed, HasReached}
pub use Rattle.follow.specs.Plans.{AreWellPlaced, plan_of}
pub use Rattle.recovery.specs.declared.recoverable.Recoverable.{Recoverable}
pub use Rattle.recovery.specs.Handling.{Keeping, alone, handle, is_far, keeping_by, stands_of}
pub use Rattle.recovery.specs.Rings.{CanSave, IsInForce, KeepsRing, SavesIf}
pub use Rattle.recovery.specs.Sessions.{Held, taken_in}
pub use Rattle.session_state.proofs.ending.EndLemmas.{end_of, ending_moved, served_off}
pub use Rattle.session_state.proofs.ending.FaultLemmas.{note_answered}
pub use Rattle.session_state.proofs.ending.KnownLemmas.{counted_same, known_same, known_then, once_at, pass_answer, unnoted_passing, unnoted_stopped}
pub use Rattle.session_state.proofs.ending.LeavingLemmas.{can_forget_sends, cut_as, cut_short, end_requests, forgot_up, left_by, left_end, left_noting, left_passing, noted_low, noted_up}
pub use Rattle.session_state.proofs.ending.ServingLemmas.{adopted_serves, answers_broken, answers_finished, asking_notes, chosen_serves, ended_serves, episode_stopped, exited_serves, finish_broken, finish_unnoted_link, finish_well, heard_serves, memory_serves, notes_broken, notes_finished, notes_noted, notes_passing, notes_rest_done, notes_rest_failed, notes_stopped, nothing_passed, noting_serves, passing_serves, serves_may, serves_then, serves_well, stopped_serves, trims_any, trims_cut, trims_on, unnoted_chosen, unnoted_serves}
pub use Rattle.session_state.proofs.ending.StartLemmas.{HasTurned, begun_keeping, between_counted, between_fits, between_lost, between_under, counted_begun, frame_then, lost_all, lost_beside, lost_counts, lost_last, lost_then, served_begun, starts_at, starts_between, starts_giving, starts_none, starts_trimmed, turned_smaller}
pub use Rattle.session_state.proofs.ending.TurnLemmas.{Ran, asks_now, breaks_now, chooses_later, comes_under, emits_later, exits_now, fails_now, fails_under, further_adopted, further_ok, has_run, later_ok, lost_cut, lost_failed, lost_none, ran_frame, ran_keeping, ran_later, ran_low, ran_oldest, ran_saved, run_under}
pub use Rattle.session_state.proofs.events.HearingLemmas.{HasAwaited, all_taken, cause_then, close_heard, end_heard, ends_by, handled_same, heard_can, heard_closing, heard_last, heard_opened, heard_saved, heard_settled, if_ok, items_heard, items_hearing, moved, no_cause, one_counted, opens_closed, quiet_event, same_then, settle_heard, stops_by, stops_under, story_heard, waits_closed, waits_due, waits_settled, waits_under, with_heard}
pub use Rattle.session_state.proofs.guest.ChoiceLemmas.{ending_few, waits_forgets, waits_forgot, waits_left, waits_unnoted, waits_untold}
pub use Rattle.session_state.proofs.guest.GuestLemmas.{received_is}
pub use Rattle.session_state.proofs.guest.SaveLemmas.{behind_saved, saves_keeping, waits_asks, waits_counted, waits_goes, waits_live, waits_saved, waits_whole}
pub use Rattle.session_state.proofs.guest.ServeLemmas.{run_breaks, run_chooses}
pub use Rattle.session_state.proofs.passing.DueLemmas.{comes_between}
pub use Rattle.session_state.proofs.passing.PassLemmas.{breaks_by, may_pass, passes_ok, rest_ok}
pub use Rattle.session_state.proofs.passing.PassingLemmas.{closed_can, closing_can, due_behind, due_passed, due_ready, ending_can, ending_ready, finish_fault, finish_ok, finish_unnoted, gives_closed, none_due, none_passed, passed_then, received_given, rest_passed}
pub use Rattle.session_state.proofs.recovering.AdoptLemmas.{KeepsBeside, adopt_breaks, adopt_least, adopt_none, adopt_some, adopted_later, adopting_in, counts_seen, failure_of, to_recover, walked}
pub use Rattle.session_state.proofs.recovering.RecoverLemmas.{comes_lost, ends_adopted, failing_told, gives_same, goes_adopted, lost_behind, missed_episode, noted_episode, one_more}
pub use Rattle.session_state.proofs.recovering.TableLemmas.{counted_alone, watched_kept}
pub use Rattle.session_state.proofs.standing.FrameLemmas.{forgot_frame, guest_frame, noted_frame, passed_adopted, passed_counted, passed_frame, same_rules, saved_frame}
pub use Rattle.session_state.proofs.standing.HeldLemmas.{guest_oldest, held_by, held_given, held_of, oldest_then, passed_oldest, slots_oldest, trimmed_still}
pub use Rattle.session_state.proofs.standing.NeedLemmas.{going_can, going_told, sent_going}
pub use Rattle.session_state.proofs.standing.StoryLemmas.{still_takes}
pub use Rattle.session_state.specs.Leaving.{CanForgetSends, HandledAt, HasLeft, IsHandled, IsRecorded, IsTrimmed, KeepsOldest, LeavesBy, keeping_of}
pub use Rattle.session_state.specs.Options.{AreInRange, keeping_for, rules_in}
pub use Rattle.session_state.specs.Recovered.{FailsAtChoices, HasWatched, IsNoteFault}
pub use Rattle.session_state.specs.Serving.{AdoptsBy, BreaksAt, BreaksNoting, BreaksPassing, CountsEvent, Finishes, HasSameFrame, HasSameOpen, IsCounted, IsFinishing, IsStopAt, IsToldBy, IsUnnoted, LinkAnswers, LinkFinishes, LinkPasses, LinkServes, MayServe, NotesAnswer, NotesServe, StandsClosing, StandsEnding, StandsPassing, StopsBy, TakesBy, TrimsAt, TrimsBy, UnlessBroken, outcome_of, rules_by}
pub use Rattle.session_state.specs.Sessions.{IsBegun, SessionState, env_of, held_in}
pub use Rattle.session_state.specs.Standing.{HasPassed, IsBetween, IsEnding, IsFailing, IsGoing, IsWaitingFor, Since, Story, entries, moment, sends, then_story, told_since}
pub use Rattle.session_following.specs.declared.turned.Turned.{Turned}
pub use Rattle.session_following.specs.declared.unfollowed.Unfollowed.{Unfollowed}
pub use Rattle.session_following.proofs.Meets.{is_marked, later_following, opened_following, stamped_following}
pub use Rattle.session_following.proofs.Releasing.{exit_on, exit_stands, judged_exit, released_followed, released_goes, released_on, released_past, took_off, unfollowed_exit}
pub use Rattle.session_following.proofs.Stopping.{chosen_fits, chosen_of, ends_at_exit, ends_at_failure, ends_behind, enough, judged_at, short_here, short_there, stops_on, unlike_here, unlike_there}
pub use Rattle.session_following.proofs.TakingOver.{begins_on, nothing_followed}
pub use Rattle.session_following.proofs.Turning.{HasSameBase, IsMovedFrom, follows_on, here_then, memory_of, memory_run, moved_turn, other_run, ran_to, sends_on, unfollowed_of}
pub use Rattle.session_following.proofs.Waiting.{asks_more, close_on, end_on, heard_of, may_hear, quiet_on, took_on, waits_on}
pub use Rattle.session_following.specs.Answers.{IsInPlace, IsShort, IsUnlike, NoPlan}
pub use Rattle.session_following.specs.Followed.{rules_following}
unfoldable pub use Rattle.session_following.specs.Following.{plan_up_to}
pub use Rattle.session_following.specs.HandedOver.{handed_of}
pub use Rattle.session_following.specs.Judging.{Agree, IsJudgedAt}
pub use Rattle.session_following.specs.Moving.{before_begun, before_heard, before_moved, before_released, before_sent, before_took}
pub use Rattle.session_following.specs.Sending.{held_count, with_held}
pub use Rattle.session_following.specs.TakingOver.{HasNotTakenOver, HasTakenOver, IsUnfollowed, IsUnfollowedBy, TookOver, UnnotedBy, stop_as}
pub use Rattle.session_following.specs.Turning.{AsksOn, CanRelease, FailsOn, Follows, HasReachedOn, HasRunOn, HasServedReleased, IfFollows, IsReleased, IsReleasedAtExit, KeepsTurning, TurnsTo, WaitsOn, heard_as, held_back, marked, nothing_told, turn_as}
pub use Rattle.session_following.specs.Waiting.{AwaitsBy, EndedOn, KeepsHandling, KeepsHeard, StoppedOn}
