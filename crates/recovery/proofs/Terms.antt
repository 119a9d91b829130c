-- The words and lemmas that this crate's proofs are written in: those of crates below, and its own words.
pub use Rattle.std.proofs.Common.{Bool, IfSome, List, None, Option, Some, [], ap, append-nil, append_assoc, arith, cond, drop, eqb, false, inl, inr, leb, length, length-append, length-drop, ltb, max, min, not, refl, subst, suc, sym, take, true, zero, ℕ, ◌&&◌, ◌*◌, ◌++◌, ◌+◌, ◌-◌, ◌<◌, ◌^◌, ◌∙◌, ◌∷◌, ◌≡◌, ◌≤◌, ◌⊎◌}
pub use Rattle.std.proofs.Math.Seq.{take-add, take-append_seam}
pub use Rattle.std.proofs.lemmas.Bool.{MatchBool-at_false, MatchBool-at_true, and_parts, both_ways, cond_both, eq-eqb, eqb-false, eqb-true, le-leb, le-ltb, lt-leb, ltb-false, true≢false}
pub use Rattle.std.proofs.lemmas.List.{drop-append-le, drop-drop, drop-map, length-map, length-take, map-append, nil_from_length, take-append-drop, take-append-le, take-map, take_all}
pub use Rattle.std.proofs.lemmas.Option.{none-some, same_Some, slice_get-map, slice_get_within}
pub use Rattle.std.proofs.lemmas.Simd.{map-map}
pub use Rattle.std.specs.Prelude.{Err, IsSome, IsSomeAnd, MatchBool, Ok, Result, is_none, is_some, map, option_map, replicate, slice_get, sum, unwrap_or, ◌==◌}
pub use Rattle.reply_ledger.proofs.ConnectionLemmas.{connection_of-trimmed, is_open-trimmed}
pub use Rattle.reply_ledger.proofs.ShowsLemmas.{bytes_of-stamped_of, covers-shows, covers_before-shows, shown_passed, shows-adopted, shows-covers, shows-covers_before, shows-trimmed}
pub use Rattle.reply_ledger.proofs.StandsLemmas.{agree-append}
pub use Rattle.run_history.proofs.Connections.{OpenWithin, no_connections_may, within_after}
pub use Rattle.run_history.proofs.Outputs.{prefix_sent, prefix_trans, sent_to-append, sent_to-more}
pub use Rattle.run_history.proofs.Serves.{IsUsed, map_some, served_follows, served_next_more, serves_to}
pub use Rattle.guest_cpu.proofs.RunLemmas.{runs_start, runs_write}
pub use Rattle.guest_cpu.proofs.WritingLemmas.{writes_more, writes_none, writes_on, writes_then}
pub use Rattle.session_history.proofs.Asked.{Later, next_grows, served_grows}
pub use Rattle.session_history.proofs.Growing.{Grows, between_append, between_wider}
pub use Rattle.session_history.proofs.Paths.{served_on, served_same, served_with}
pub use Rattle.trials.proofs.Asking.{asks_under_all}
pub use Rattle.trials.proofs.Chained.{chained_adopt, chained_at, chained_from}
pub use Rattle.trials.proofs.Going.{Behind, Compared, Equal, compare, steps_later}
pub use Rattle.trials.proofs.Planned.{env_within, past_request, start_taken, trial_comes, trial_serves}
pub use Rattle.trials.proofs.Results.{apart_asks_fails, asks_on}
pub use Rattle.recovery.specs.Terms.{Adds, AllByRecursion, AllocError, AreBetween, AreChained, AreCheckpoints, AreInOrder, AreSendable, AsksFor, Before, Bounds, Carries, Cause, Chance, Chapter, Checkpoint, Choice, ComesTo, Connection, CoversBefore, CpuState, Entry, Env, Episode, Event, Fails, FailsBy, GoesOn, Heap, Image, IsBounded, IsCheckpoint, IsContradicted, IsFeasible, IsInOrder, IsItemOf, IsOpened, IsRecovery, IsRight, IsSendable, IsSilent, IsUnharmed, Item, KeepsItems, KeepsReplies, Ledger, LimitEvents, LimitItems, Limits, Live, Log, MAX_ITEMS, Machine, Marks, NotBefore, Override, Passed, Path, Prefix, Range, Recovery, Rules, RunsWriting, Send, Served, Shows, ShowsStill, Slots, Standing, State, Survivor, TakesOn, TakesWriting, TooLong, Trial, Tried, Try, Turn, WalksOver, Wants, Writes, adopted, base, begun, chance_at, chances_at, count_true, discarded, does_with, entries_of, env_at, environments, episode_of, events_of, everywhere, has_room, heeded, is_left, is_refused, items_in, largest, limits_of, listed, live_after, live_of, marks_of, may_pass, may_send, oldest_of, opens, origin, page_numbers, parts, passed_in, plan_of_trial, planned_next, position_or_len, received, refusal, restored, room_for, saved_in_ring, sent_to, standing_of, starting_path, survives, survivor_in, table, trial_sends, try_of, turn_of, until, with_live, with_range, with_trial_send, with_whole_oldest, writes}
unfoldable pub use Rattle.recovery.specs.Terms.{agree, connection_of, grant, heeded_behind, instruction_at, is_open, parts_behind, pieces_until, served_next, serves, settled, stamped, stamped_of, stamped_to, stamps_of, start, start_machine, times_of, touched, turn, unpassed, waits}
pub use Rattle.recovery.specs.declared.recoverable.Recoverable.{Recoverable}
pub use Rattle.recovery.specs.declared.walking.Adopted.{Adopted}
pub use Rattle.recovery.specs.declared.walking.FailureSite.{FailureSite}
pub use Rattle.recovery.specs.declared.walking.Walked.{Walked}
pub use Rattle.recovery.specs.Sessions.{AreKept, CanGoOn, CanTry, FailedAt, Failure, HasFailed, HasSaved, Held, IsKept, IsUnder, items_of, pieces_of, taken_in}
pub use Rattle.recovery.specs.Going.{ComesIf, HasCome, HasStopped, IsAsking, IsJudged, IsLater, IsLaterIf, IsTrying, SendsBy, TriesSomewhere, TurnsBy, agrees_next}
pub use Rattle.recovery.specs.Trying.{HasTried, HasWalked, IsAdopted, KeepsBase, KeepsLedger, KeepsSaved, LeavesBy, StandsOn, adopted_of, steps_of}
pub use Rattle.recovery.specs.Unfinished.{Attempt, BeginsOver}
pub use Rattle.recovery.specs.Walking.{AdoptedLast, AdoptedOne, AllBy, AreTried, FailedOne, FailedSome, HasBegun, HasSameBytes, IsEpisode, IsMade, IsOfOneRun, LedgerBy, OneBy, WalksBy}
pub use Rattle.recovery.specs.Rings.{AreBehind, Brings, CanSave, HasNoCheckpoint, IsAtStart, IsInForce, KeepsRing, ring_if}
pub use Rattle.recovery.specs.Recovering.{Adopts, HasAdoptedRun, HasToRecover, KeepsSlots, recovery_of}
pub use Rattle.recovery.specs.Handling.{AreRinged, AreWritten, HasFollowedRequests, HasHandled, HasRing, HasWritten, IsRinged, Keeping, Stand, handle, handled, is_far, keeping_by, stand_of, stands_of, starting_stands, with_another}
pub use Rattle.recovery.specs.Recoverables.{KeepsRest, KeepsUntried, held_of}
pub use Rattle.recovery.specs.Laws.{NoneFollowed, OneNumber}
