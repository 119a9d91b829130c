-- The words and lemmas that this crate's proofs are written in: those of crates below, and its own words.
pub use Rattle.std.proofs.Common.{Bool, List, None, Option, Some, [], ap, append-nil, append_assoc, arith, cond, drop, eqb, false, inl, inr, leb, length, length-append, ltb, map, refl, replicate, subst, suc, sym, take, true, zero, ℕ, ◌++◌, ◌+◌, ◌-◌, ◌<◌, ◌∙◌, ◌∷◌, ◌≡◌, ◌≢◌, ◌≤◌, ◌⊎◌}
pub use Rattle.std.proofs.lemmas.Bool.{and_right, both_ways, cases_Bool, cases_lt, cond_both, eq-eqb, eqb-true, le-leb, leb-false, lt-leb, or_cases, or_from, or_left, or_parts, or_right}
pub use Rattle.std.proofs.lemmas.List.{append_cancel_left, length-replicate, map-append, nil_from_length, same_from_push, take-append-le, take_more}
pub use Rattle.std.proofs.lemmas.Option.{get_or_from_slice_get, none-some, option_and_then_some, same_Some, slice_get_within}
pub use Rattle.std.specs.Prelude.{IfSome, is_none, is_some, not, option_and_then, option_map, slice_get, unwrap_or, ◌&&◌, ◌||◌}
pub use Rattle.links.proofs.Journaled.{events_in-append, pieces_in-append}
pub use Rattle.reply_ledger.proofs.PartLemmas.{sent_then}
pub use Rattle.run_history.proofs.Connections.{OpenWithin, closed_may, may, within_after, within_start}
pub use Rattle.run_history.proofs.Outputs.{prefix_sent, prefix_trans, sent_to-more}
pub use Rattle.run_history.proofs.Repeats.{repeated_add, repeated_from, repeated_join, repeated_keeps}
pub use Rattle.run_history.proofs.Runs.{allocated_keeps, element_behind, next_after, next_parts, received_keeps}
pub use Rattle.run_history.proofs.Serves.{Follows, IsUsed, served_follows, served_is_run, served_more, serves_to}
pub use Rattle.session_history.specs.Terms.{Answer, AsksFor, CLOSED, Choice, Chooses, Closed, Comes, ComesUntold, Coming, Counts, Effect, Emits, Ends, Entry, Fails, FailsBy, Framing, Goes, Grant, Grew, Guest, HasEnded, Heard, Image, IsInOrder, IsNext, IsPieceOf, Item, Limits, LinkEvent, Machine, Open, Override, Parts, Path, Phase, Phases, Piece, Prefix, Refuses, Run, Send, Served, State, Unopened, Wants, after, bare_item, behind_items, brought, chooses, connections_after, does_with, env_at, events_in, first_items, guest_of, hear, hear_parts, heard, in_order, is_refused, items_by, items_of, last_taken, message_item, origin, output, phases_after, pieces_in, planned_next, register, rest_of, run, sent_to, serve, takes}
unfoldable pub use Rattle.session_history.specs.Terms.{allocated, cut, cut_whole, does, grant, heard_from, items_from, next, no_connections, none_open, served_next, serves, start, start_machine}
pub use Rattle.session_history.specs.declared.ends.SessionEnd.{SessionEnd}
pub use Rattle.session_history.specs.declared.ends.Stop.{Stop}
pub use Rattle.session_history.specs.Heeding.{AreHeeded, Before, Bounds, LimitEvents, LimitItems, TooLong, Unheeded, events_of, heeded, items_in, nothing_before, received, refusal}
unfoldable pub use Rattle.session_history.specs.Heeding.{heeded_behind}
pub use Rattle.session_history.specs.Opened.{closes, is_gone, is_open, opens}
pub use Rattle.session_history.specs.Passing.{AreBetween, AreInOrder, Covers, IsFeasible, passed_behind, passed_in, until}
pub use Rattle.session_history.specs.Owing.{IsDueBy, IsMadeDue, IsOwed, IsPassed, Latest, Moment, OwesNothing, Place, Stands, behind, journal, latest, moment_at}
pub use Rattle.session_history.specs.Lawful.{AreDue, AreLawful, Chapter, IsDue, IsDueAt, IsDueEvent, IsDuePiece, IsPrompt, IsWholePiece, LeavesNothing, OnTheWay, Rules, Survivor, entries_of, from_there, gone_on, is_closed_by, is_closing, moves, place_of, then_place}
pub use Rattle.session_history.specs.Account.{HasPassedAll, IsAccount, IsBroken, Session, journal_of}
pub use Rattle.session_history.specs.Serving.{Carries, Ending, IsSoundBefore, Serving, ending_at, first_survivor, moment_of}
pub use Rattle.session_history.specs.Giving.{AreGiven}
pub use Rattle.session_history.specs.Ends.{AtEnd, EndsAt, EndsBy, HasCome, HasComeTo, IsEnd, IsEnded, IsLastRefused, IsLastTooLong, IsWaiting, StandsAt, answer_of, before_end, end_answer}
pub use Rattle.session_history.specs.AccountLaws.{AreInTurn, IsComplete, LinksOpenOnce, NoOtherAnswer, OneEnd, OpensOnce, PassesAtOnce, SentIsPassed, ServedIsPassed, piece_of}
