-- The words and lemmas that this crate's proofs are written in: those of crates below, and its own words.
pub use Rattle.std.proofs.Common.{Bool, List, None, Option, Some, [], ap, append-nil, append_assoc, arith, cond, drop, eqb, false, inl, inr, leb, length, length-append, ltb, map, not, refl, subst, suc, sym, take, true, zero, ℕ, ◌++◌, ◌+◌, ◌-◌, ◌<◌, ◌∙◌, ◌∷◌, ◌≡◌, ◌≤◌, ◌⊎◌}
pub use Rattle.std.proofs.lemmas.Bool.{cases_lt, cond_both, eqb-false, eqb-true, leb-false, lt-leb, lt-ltb, ltb-false, ltb-true, not-false}
pub use Rattle.std.proofs.lemmas.List.{take-append-drop, take-append-le, take_all}
pub use Rattle.std.proofs.lemmas.List.Elements.{All-append, filter-append}
pub use Rattle.std.proofs.lemmas.Option.{IfSome_then, slice_get_within}
pub use Rattle.std.specs.Prelude.{IfSome, IsSome, MatchOption, filter, is_some, nat_lt, option_map, slice_get}
pub use Rattle.run_history.proofs.Outputs.{prefix_same, prefix_sent, prefix_trans, sent_to-append, sent_to-more}
pub use Rattle.run_history.proofs.Repeats.{repeated_as, repeated_keeps}
pub use Rattle.run_history.proofs.Serves.{served_is_run, serves_to}
pub use Rattle.session_history.proofs.Asked.{Later, later_of, served_grows}
pub use Rattle.session_history.proofs.Passing.{all_until, in_order_wider, none_until, until_front}
pub use Rattle.session_history.proofs.Paths.{served_on, served_same, served_with}
pub use Rattle.trials.proofs.Going.{Before, Behind, Compared, Equal, compare, later_served, later_steps, steps_later, taken_later}
pub use Rattle.trials.proofs.Planned.{past_request, start_taken}
pub use Rattle.trials.proofs.Recovered.{timed_from}
pub use Rattle.trials.proofs.Results.{apart_asks_fails, apart_ended, asks_on, ended_on, fails_on}
pub use Rattle.trials.proofs.Walked.{walk_adopts}
pub use Rattle.follow.specs.Terms.{AreBetween, AreInOrder, AreRecovered, AsksFor, BadAccess, BeginsAs, Cause, Chapter, Choice, ComesTo, Covers, Effect, Entry, Env, Episode, Fails, FailsBy, Guest, Hang, Heap, Image, IsAccount, IsFeasible, IsRecovery, IsSoundBefore, Item, Limits, LinkEvent, Override, Path, Prefix, Recovery, Rules, Send, Served, Session, State, Survivor, Trial, Try, Wants, adopted_by, after, does_with, env_at, episode_of, events_in, events_of, first_survivor, guest_of, is_refused, items_in, journal_of, last_or, listed, longer, nothing_before, option_map_or, origin, output, passed_in, place_of, plan_of_trial, planned_next, point_of, received, sent_to, starting_path, survives, survivor_in, try_of, until}
unfoldable pub use Rattle.follow.specs.Terms.{does, grant, served_next, serves}
pub use Rattle.follow.specs.Plans.{AreWellPlaced, IsWellPlaced, adopted_try, first_count, plan_behind, plan_from, plan_of}
pub use Rattle.follow.specs.Ranges.{AreFalling, BeginBefore, ranges_behind, ranges_from, ranges_of, unmasked}
pub use Rattle.follow.specs.Runs.{AreWider, IsLonger}
pub use Rattle.follow.specs.Held.{count_of, held, held_behind}
pub use Rattle.follow.specs.Laws.{AsksWider, GivenUpAddsNothing, OneRun, PlanIsTold, PlanOfReport, RangesAreExact, RangesFall, ServedWider}
pub use Rattle.follow.specs.HeldLaws.{HeldIsFixed, HeldIsFront, HeldIsInOrder, HeldIsInTime, HeldIsPassed, PassedIsSent, StampsAreSafe}
pub use Rattle.follow.specs.Handed.{AtExit, AtFailure, AtRequest, Finish, Handed, HasReached, IsPastFailure, IsStuck, Stand, StandsPast}
pub use Rattle.follow.specs.Takeover.{IsFollowed, IsTakeover, Takeover, heard_first, passed_first, plan_in, stopped}
pub use Rattle.follow.specs.ReachLaws.{AnswersAgree, EpisodesArePlaced, FinishAgrees, FollowsBefore, HeldAtRelease, NoWaiting, ReachesInTime, StuckHasReached}
pub use Rattle.follow.specs.Following.{AsksForMore, HasFollowed, heard_alone, rules_behind}
pub use Rattle.follow.specs.FollowLaws.{FollowedIsPast, FollowedIsSound, OneRelease, StaysReached}
