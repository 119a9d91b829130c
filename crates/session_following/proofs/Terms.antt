-- The words and lemmas that this crate's proofs are written in: those of crates below, and its own words.
pub use Rattle.std.proofs.Common.{Bool, List, None, Option, Some, [], ap, append-nil, append_assoc, arith, cond, drop, eqb, false, get_or, get_or-set_other, get_or-set_same, inl, inr, leb, length, length-append, length-drop, ltb, map, min, not, refl, set, subst, suc, sym, take, true, zero, ℕ, ◌++◌, ◌+◌, ◌-◌, ◌<◌, ◌∙◌, ◌∷◌, ◌≡◌, ◌≤◌, ◌⊎◌}
pub use Rattle.std.proofs.Math.Seq.{drop-append_seam, get_or-append_seam, take-length}
pub use Rattle.std.proofs.lemmas.Bool.{cases_eq, cases_lt, eq-eqb, eqb-false, eqb-true, false≢true, le-leb, le-ltb, leb-true, lt-ltb, ltb-true, ne_eqb, true≢false}
pub use Rattle.std.proofs.lemmas.List.{get_or-replicate, get_or_past, length-replicate, length-take, length-take-le, map-append, take-append-drop, take-append-le, take_all, take_more}
pub use Rattle.std.proofs.lemmas.Option.{IfSome_then, option_and_then_some, same_Some, slice_get-get_or}
pub use Rattle.std.specs.Prelude.{All, Err, IfSome, IsSome, IsTrue, MatchBool, Ok, Result, is_some, option_map, replicate, slice_get, unwrap_or, ◌&&◌, ◌^◌, ◌↔◌, ◌≢◌}
pub use Rattle.links.proofs.Growing.{grew_nothing, tells_nothing, tells_then}
pub use Rattle.links.proofs.Journaled.{events_in-append}
pub use Rattle.run_history.proofs.Serves.{serves_to}
pub use Rattle.session_history.proofs.Asked.{TookOne, asks_takes, later_of}
pub use Rattle.session_history.proofs.Heeding.{events_alone, heeded-alike, items_in-alike, none_had}
pub use Rattle.session_history.proofs.Paths.{served_on, served_same, served_with}
pub use Rattle.link_gate.proofs.ReplyLemmas.{closed_keeps, sendable_then}
pub use Rattle.trials.proofs.Asking.{asks_under_all}
pub use Rattle.trials.proofs.Going.{Behind, Equal, compare, served_as, served_one, steps_later, taken_later}
pub use Rattle.trials.proofs.Planned.{env_before, env_within, start_taken}
pub use Rattle.trials.proofs.Recovered.{timed_from}
pub use Rattle.trials.proofs.Results.{apart_asks_fails, apart_ended, asks_on, ended_on, fails_on}
pub use Rattle.follow.proofs.Fronts.{held_is_front, held_is_in_time, part_behind}
pub use Rattle.follow.proofs.Stamps.{held_is_in_order}
pub use Rattle.session_state.proofs.events.HearLemmas.{HasSameRun, answers_still, goes_then, opens_still, saved_then}
pub use Rattle.session_state.proofs.events.HearingLemmas.{HeardEvent, closes_closed, run_of, with_heard}
pub use Rattle.session_state.proofs.guest.GuestLemmas.{answers_for, goes_with, none_lost, none_noted, received_is}
pub use Rattle.session_state.proofs.guest.NoteLemmas.{taken_all}
pub use Rattle.session_state.proofs.standing.CheckpointLemmas.{HasSameSide, saved_on}
pub use Rattle.session_state.proofs.standing.HeldLemmas.{requests_on}
pub use Rattle.session_following.specs.Terms.{AnswersFor, AreBehind, AreBetween, AreInOrder, AreKept, AreRinged, AreSendable, AreTables, AreWellPlaced, AreWritten, AsksFor, AsksForMore, AtExit, AtFailure, AtRequest, Before, Bounds, BreaksPassing, Brings, CanGoOn, Carries, Cause, Chapter, Choice, ComesLast, Coming, Covers, CpuState, EndsWithin, Entry, Env, Episode, Event, FailsBy, Finish, GoesOn, GoesWith, Grew, Handed, HandedOver, HandlesRequests, HasFollowed, HasFollowedRequests, HasHandled, HasPassedDue, HasReached, HasWritten, Heap, HearFault, HearsBy, HearsEvent, Image, IsBegun, IsCounted, IsEnding, IsFeasible, IsFollowed, IsFresh, IsGoing, IsHearing, IsInForce, IsOpened, IsPastFailure, IsSendable, IsShown, IsSilent, IsSoundBefore, IsStopAt, IsStuck, IsTakeover, IsTold, IsTrimmed, IsWaitingFor, IsWellPlaced, Item, Keeping, KeepsCheckpoints, KeepsItems, KeepsPhases, KeepsReplies, KeepsRing, LeavesBy, Ledger, Limits, LinkEvent, Log, MayHear, NotBefore, Noted, Override, Passed, Path, Phases, Place, Prefix, Recovery, Rules, RunsWriting, Seen, Send, Served, SessionState, Shows, Since, Stand, Standing, Stop, StopsBy, Story, Survivor, Takeover, Telling, Tells, TellsMore, Told, TrimsAt, Try, Unfollowed, Writes, adopted_try, alone, closed_connection, closes, closing_of, count_of, entries, entries_of, env_at, env_of, episode_of, events_in, events_of, first_count, first_stands, first_survivor, handle, handled, heard_alone, heeded, held, held_behind, is_gone, is_open, items_in, keeping_of, last_or, live_of, nothing_before, opens, origin, passed_connection, passed_in, passed_to, phase_after, plan_behind, plan_from, plan_in, plan_of, planned_next, received, refusal, rules_behind, rules_by, rules_in, sends, sent_to, serve, spent, standing_of, stands_of, starting_path, starting_stands, stopped, told_since, with_change, with_live, with_passed, with_send}
unfoldable pub use Rattle.session_following.specs.Terms.{connection_of, served_next, stamped, stamped_of, stamped_to, start, start_machine, times_of}
pub use Rattle.session_following.specs.declared.judging.StandKind.{StandKind}
pub use Rattle.session_following.specs.declared.judging.StandKind.TheVariants.{Exit, Failure, Request}
pub use Rattle.session_following.specs.Following.{came_before, rules_after}
unfoldable pub use Rattle.session_following.specs.Following.{plan_up_to}
pub use Rattle.session_following.specs.Reaching.{HasAskedBefore, HasNotReached, IsNotReached}
pub use Rattle.session_following.specs.Standing.{HasJustBegun, begun_story, story_alone}
pub use Rattle.session_following.specs.Sending.{held_count, with_held}
pub use Rattle.session_following.specs.Moving.{before_begun, before_heard, before_moved, before_released, before_sent, before_start, before_took, moved_on, path_at}
pub use Rattle.session_following.specs.Followed.{IsFollowing, followed_before, rules_following}
pub use Rattle.session_following.specs.Laws.{HeldGrows, NotReachedStays, SentIsHeld, UpToIsExact}
pub use Rattle.session_following.specs.Answers.{EndsEarly, FilesAndClients, HasReachedFiles, IsAtFinish, IsInPlace, IsShort, IsUnlike, NeitherIsSaid, NoPlan, OtherAnswer, OtherPlace}
pub use Rattle.session_following.specs.Placed.{EndsAfter, IsFollowedBy}
pub use Rattle.session_following.specs.Missing.{HasCounts, IsLeast, IsMissing}
pub use Rattle.session_following.specs.Judging.{Agree, HasFiles, IsBehind, IsElsewhere, IsJudgedAt, IsOther, IsPastAs, IsThere, MayReach, kind_of}
pub use Rattle.session_following.specs.TakingOver.{HasEndedBehind, HasEndedThere, IsUnfollowed, IsUnfollowedBy, TookOver}
pub use Rattle.session_following.specs.Turning.{AsksOn, Follows, HasReachedOn, HasRunOn, IsReleased, IsReleasedAtExit, WaitsOn, held_back, holding, marked, nothing_told}
