-- The words and lemmas that this crate's proofs are written in: those of crates below, and its own words.
pub use Rattle.std.proofs.Common.{Bool, List, None, Option, Some, [], ap, append-nil, append_assoc, arith, cond, drop, eqb, false, get_or, if◌then◌else◌, inl, inr, length, length-append, length-drop, map, not, refl, replicate, rules, subst, sym, take, true, ℕ, ◌&&◌, ◌++◌, ◌+◌, ◌-◌, ◌<◌, ◌^◌, ◌||◌, ◌∙◌, ◌∷◌, ◌≡◌, ◌≤◌, ◌⊎◌}
pub use Rattle.std.proofs.Math.Bool.{or-false, or_assoc}
pub use Rattle.std.proofs.Math.Seq.{drop-append-add, drop-append_seam, take-append_seam, take-length}
pub use Rattle.std.proofs.lemmas.Bool.{and_from, and_parts, and_right, cases_lt, cond_both, eq-eqb, eqb-true, false≢true, le-leb, le-ltb, leb-false, lt-leb, lt-ltb, ne_eqb, or_parts, or_right, true≢false}
pub use Rattle.std.proofs.lemmas.List.{drop-append-le, get_or-replicate, get_or-set_other, get_or-set_same, get_or_past, length-replicate, length-set, length-take-le, take-append-drop, take-append-le}
pub use Rattle.std.proofs.lemmas.Option.{get_or_from_slice_get, none-some, same_Some, slice_get_within}
pub use Rattle.std.specs.Prelude.{Err, Ok, Result, is_none, is_ok, is_some, nat_le, nat_lt, slice_set, ◌==◌}
pub use Rattle.item_log.proofs.Hearing.{none_places, one_more_event}
pub use Rattle.item_log.proofs.Shown.{logs_show, shown_items}
pub use Rattle.reply_ledger.proofs.ConnectionLemmas.{connection_of-changed, connection_of-push, is_open-changed, is_open-push, stamped_to-changed, stamped_to-passed, stamped_to-push}
pub use Rattle.reply_ledger.proofs.PartLemmas.{IsFirst, IsNext, IsRest, come, first_fits, first_length, first_next, is_open-gone, next_is, next_none, not_left, opened_known, rest_is, rest_none, room, room_gone, room_passed, room_passed_some, sent_then}
pub use Rattle.reply_ledger.proofs.RunLemmas.{length-bytes_of, length-stamped, stamps_of-append}
pub use Rattle.reply_ledger.proofs.ShowsLemmas.{bytes_of-stamped_of, shows-marked, shows-opens, shows-passed, shows-sent}
pub use Rattle.reply_ledger.proofs.StandsLemmas.{prefix-le}
pub use Rattle.run_history.proofs.Outputs.{prefix_sent, prefix_trans, sent_to-more}
pub use Rattle.session_history.proofs.Heeding.{events_of-append, events_of-gave, items_in-gave, one_more_heeded, passed_in-gave, passed_in-took, refused_unheeded}
pub use Rattle.link_gate.specs.Terms.{All, AreDuePieces, AreFronts, AreSendable, Bounds, CLOSED, CONNECTIONS, Closed, Closes, Coming, Connection, Counts, Cuts, Ends, Entry, Fits, Framing, Gave, GiveShows, Given, Gives, GivesAtClose, GoesBefore, Gone, HasGiveCause, HasHanded, HearFault, Heard, IsClosing, IsDueBy, IsDuePiece, IsHeard, IsHeeded, IsInOrder, IsItemOf, IsMadeDue, IsOpened, IsOwed, IsPassed, IsReady, IsSendable, IsUnheeded, IsWholePiece, KeepsItems, KeepsPhases, KeepsReplies, Latest, Ledger, LimitEvents, LimitItems, LinkEvent, LinkFault, Log, Moment, NotBefore, OPENED, Open, Opens, Parts, PassFault, Passed, Passes, PassesBy, PassesRest, Phase, Phases, Piece, Prefix, Rules, Seen, Send, Settles, Shows, Stands, StaysTold, StillComes, Tells, TellsHanded, Told, TooLong, Took, Unheeded, Unopened, bare_item, behind, behind_items, brought, but_given, closed_connection, closes, closing_of, cut_entries, events_in, events_of, first_items, gone_connection, hear, hear_parts, heard, heeded, in_order, is_close_of, is_closed_by, is_closing, is_gone, is_left, items_by, items_in, items_of, journal, latest, logged, may_pass, message_item, new_connection, opens, option_map, option_map_or, passed_connection, passed_in, passed_to, phase_after, phases_after, place_at, received, received_before, refusal, rest_of, sent_to, shown_part, then_entries, then_entry, then_hear, unwrap_or, with_change, with_connection, with_heard, with_passed, with_send}
unfoldable pub use Rattle.link_gate.specs.Terms.{changed, connection_of, cut, earlier_at, heard_from, heeded_behind, is_open, items_from, next_part, none_open, rest_part, stamped, stamped_of, stamped_to, stamps_of, times_of, unpassed}
pub use Rattle.link_gate.specs.Calls.{ComesLast, ComesOn, HasSameReplies, HearsBy, HearsEvent, HearsThis, IsShown, MayHear, Stays, Takes, TakesBehind}
pub use Rattle.link_gate.specs.Taking.{IsFaultOf, IsNew, TakesIn, TakesOrEnds, entered}
pub use Rattle.link_gate.specs.Passing.{AreStampedBy, HasPassCause, HasSameSends, PassShows}
pub use Rattle.link_gate.specs.Noting.{IsNoted}
