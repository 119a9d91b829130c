-- The words and lemmas that this crate's proofs are written in: those of crates below, and its own words.
pub use Rattle.std.proofs.Common.{Bool, List, None, Option, Some, [], ap, append-nil, append_assoc, arith, cond, drop, eqb, false, inl, inr, leb, length, ltb, map, refl, subst, suc, sym, true, zero, ℕ, ◌&&◌, ◌++◌, ◌+◌, ◌-◌, ◌<◌, ◌∙◌, ◌∷◌, ◌≡◌, ◌≢◌, ◌≤◌, ◌⊎◌}
pub use Rattle.std.proofs.lemmas.Bool.{MatchBool-at_false, MatchBool-at_true, cases_lt, cond_both, eq-eqb, eqb-false, le-ltb, lt-leb, lt-ltb, ne_eqb}
pub use Rattle.std.proofs.lemmas.Option.{none-some, option_and_then_some, same_Some, slice_get_within}
pub use Rattle.std.specs.Prelude.{IsSome, MatchBool, MatchOption, is_some, option_and_then, option_map, slice_get}
pub use Rattle.run_history.proofs.Outputs.{prefix_sent, prefix_trans}
pub use Rattle.run_history.proofs.Repeats.{repeated_from, repeated_keeps}
pub use Rattle.run_history.proofs.Runs.{allocated_keeps, does_more, extends_same, received_keeps}
pub use Rattle.run_history.proofs.Serves.{allocates, serves_to}
pub use Rattle.session_history.proofs.Asked.{Later, asks_takes, later_of, served_grows, waits_of}
pub use Rattle.session_history.proofs.Growing.{ByChoice, ByEnd, ByItem, ByItself, BySend, Grows, Moved, moved}
pub use Rattle.session_history.proofs.Passing.{all_until, none_until, timed_on}
pub use Rattle.session_history.proofs.Paths.{served_on, served_same, served_with}
pub use Rattle.session_history.proofs.Sessions.{entries_of-then, piece_due, serving_account, serving_adopts, serving_event, serving_first, serving_on, serving_piece}
pub use Rattle.trials.specs.Terms.{All, Allocate, AreBetween, AreDue, AreGiven, AreLawful, AsksFor, BadAccess, Bounds, Cause, Chapter, Choice, Covers, Delay, Effect, Entry, Env, Fails, FailsBy, Free, Goes, Grant, Guest, Hang, Image, IsDue, IsDueAt, IsDueEvent, IsDuePiece, IsPrompt, Isolate, Item, Latest, LeavesNothing, Limits, Machine, Nothing, Override, Pad, Path, Place, Plain, Prefix, Request, Rules, Send, Served, Serving, Stands, State, Survivor, Tried, Wants, Zero, after, after_ending, does_with, entries_of, env_at, first_survivor, from_there, gone_on, granted, guest_of, is_refused, items_in, journal_of, latest, longer, moment_at, moment_of, origin, output, passed_in, place_of, planned_next, received, register, request_of, sent_to, serve, site_of, survives, takes, until}
unfoldable pub use Rattle.trials.specs.Terms.{agree, does, freed, grant, instruction_at, served_next, serves, start, start_machine, touched}
pub use Rattle.trials.specs.Trials.{ComesTo, IsBehindAt, IsContradicted, IsPast, IsTrial, IsUnharmed, plan_of_trial}
pub use Rattle.trials.specs.Tables.{Chance, IsRight, Trial, WalksOver, chances_at, environments, survivor_in, table}
pub use Rattle.trials.specs.Chains.{AreChained, AreCheckpoints, IsCheckpoint}
pub use Rattle.trials.specs.Laws.{AsksUnderAll, ChainedAdopt, ChainedAt, ChainedDrop, CheckpointUnharmed, NoneSurvives, OneResult, OneWalk, TrialComes, TrialServes, WalkAdopts, WalkGivesUp, everywhere}
pub use Rattle.trials.specs.Episodes.{AreRecovered, BeginsAs, IsRecovery, Recovery, adopted_by, episode_of, point_of}
pub use Rattle.trials.specs.EpisodeLaws.{OneRecovery, PointsRise, RecoveredFirst, RecoveredOn, RecoveredThen, RecoveryAdopts, RecoveryGivesUp}
