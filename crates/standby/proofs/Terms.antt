-- The words and lemmas that this crate's proofs are written in: those of crates below, and its own words.
pub use Rattle.std.proofs.Common.{Bool, List, None, Option, Some, [], ap, append-nil, append_assoc, arith, cond, drop, false, inl, inr, leb, length, length-append, length-set, not, refl, rules, subst, suc, sym, take, true, true≢false, zero, ℕ, ◌++◌, ◌+◌, ◌-◌, ◌<◌, ◌^◌, ◌∙◌, ◌∷◌, ◌≡◌, ◌≢◌, ◌≤◌}
pub use Rattle.std.proofs.lemmas.Bool.{both_ways, cases_lt, eq-eqb, eqb-false, eqb-true, leb-false, ltb-false, ltb-true, ne_eqb}
pub use Rattle.std.proofs.lemmas.List.{drop_all, drop_min, get_or-set_other, get_or-set_same, get_or_past, length-drop, length-replicate, nil_from_length, take-append-drop, take-append-le, take_min}
pub use Rattle.std.proofs.lemmas.Option.{option_and_then_some, same_Some, slice_get_within}
pub use Rattle.std.proofs.lemmas.Result.{IfOk-weaker}
pub use Rattle.std.specs.Prelude.{All, Err, IsErrOf, Ok, Result, if◌then◌else◌, is_some, nat_lt, slice_get, slice_set, unwrap_or, ◌&&◌, ◌==◌, ◌||◌, ◌⊎◌}
pub use Rattle.links.proofs.Growing.{tells_nothing, tells_then}
pub use Rattle.links.proofs.Journaled.{pieces_in-append}
pub use Rattle.run_history.proofs.Outputs.{prefix_sent, prefix_trans, sent_to-append, sent_to-more}
pub use Rattle.run_history.proofs.Runs.{allocated_keeps, received_keeps, run_chosen, run_join, run_more}
pub use Rattle.run_history.proofs.Serves.{served_follows, served_more}
pub use Rattle.link_gate.proofs.ItemLemmas.{item_fits, item_is, received_is}
pub use Rattle.link_gate.proofs.Ordering.{in_order_shown, open_shown}
pub use Rattle.link_gate.proofs.Phasing.{closes-last, closes_by, open_by, phase_by, phases_behind, unopened_by}
pub use Rattle.replay.proofs.DifferLemmas.{differs_after, ended_differs, found_is, judge_differs, left_differs}
pub use Rattle.replay.proofs.JournalLemmas.{found_gone-more, last_split, last_taken-gave, pieces_in-gave, pieces_in-took, tells_still}
pub use Rattle.replay.proofs.LeavingLemmas.{leaves_both, leaves_then, leaves_untaken, logs_none, taken_known}
pub use Rattle.replay.proofs.LoopLemmas.{HasGoneOn, gone_hears, gone_nowhere, gone_turning, hears_then, hears_turning, turns_then}
pub use Rattle.replay.proofs.QuestionLemmas.{comes_to, ok_always, rises_behind}
pub use Rattle.replay.proofs.ReplayLemmas.{replay_chooses, replay_more, replay_ran, replay_start, replay_takes}
pub use Rattle.replay.proofs.RunLemmas.{ComesTo, Ran, comes_by, same_sends, with_send}
pub use Rattle.replay.proofs.StartLemmas.{answers_link}
pub use Rattle.standby.specs.Terms.{Answer, AreCounted, AreCounts, AreGiven, AreGivenInPart, AreOpen, AreOpenThen, Bounds, Cause, Choice, Coming, Difference, Differs, DiffersBy, Ended, Entry, Failed, Fails, Fits, Gives, Guest, HasAnswerCause, HasFound, HasNoFault, Heard, Image, IsCount, IsFresh, IsInOrder, IsItemOf, IsLaidOut, IsLastRefused, IsReplay, IsUnusable, Item, LeavesLink, Limits, LinkAnswers, LinkEvent, LinkFault, LinkHears, LinkTurns, Live, Log, LogsEvent, MAX_ITEMS, Marks, MayBegin, NextShows, Open, Path, Phases, Piece, Plain, Prefix, Recorded, Seen, Send, Served, Stage, Standing, Starved, StayOpen, Tells, TellsDifference, Told, Unanswered, Unheeded, Untaken, Unused, UsesBy, WaitsForItem, Wants, answer_of, bounds_of, brought, choice_by, closes, count_of, cut_entries, does_with, events_in, found_gone, guest_of, has, hear, hear_parts, heeded, in_order, is_bare, is_open, is_refused, items_by, items_in, items_of, live_of, logged, marks_of, opens, phase_after, pieces_in, planned_next, received, refusal, replay_of, rest_of, run, sent_to, serve, stage_of, standing_of, start_standing, taken_standing}
unfoldable pub use Rattle.standby.specs.Terms.{does, grant, heeded_behind, items_from, no_connections, serves, start, start_machine, turn}
pub use Rattle.standby.specs.declared.follower.Follower.{Follower}
pub use Rattle.standby.specs.declared.following.Unfollowed.{Unfollowed}
pub use Rattle.standby.specs.declared.kept.Kept.{Kept}
pub use Rattle.standby.specs.Hearing.{AreAwaited, HasHeard, HasStopped, HearsBy, HearsEvent, HearsMore, IsAwaited, IsLater, KeepsRun, Unheard}
pub use Rattle.standby.specs.Following.{AreFollowed, BreaksBy, CatchesUp, EndsAs, FollowsBy, HasBroken, HasCaughtUp, IsAsking, IsBroken, IsFollowing, IsStarvedBy, IsUnderWay, KeepsBy, LinkCatches, WasFollowed, kept_to}
pub use Rattle.standby.specs.Missing.{AllGiven, PartGiven, cut_in, given_to, has_got, in_pieces, is_opened, missing, missing_from, missing_of, output_of}
pub use Rattle.standby.specs.Giving.{HasCutOff, HasPassed, IsPassFault, KeepsGuest, LinkPasses, NoneTook, PassesBy, StandsHeard, one_send}
pub use Rattle.standby.specs.Serving.{AreServed, AreTold, AsksNext, EndsBy, HasServed, IsFollowed, IsRecordsEnd, MayServe, WasServed, plain_limits}
pub use Rattle.standby.specs.Laws.{AllIsHad, FollowedIsRun, FrontsAreHad, HadIn}
