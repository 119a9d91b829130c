-- The words and lemmas that this crate's proofs are written in: those of crates below, and its own words.
pub use Rattle.std.proofs.Common.{Bool, List, None, Option, Some, [], add-one, ap, append-nil, append_assoc, arith, below_more, cond, drop, eqb, false, filter, inl, inr, leb, length, length-append, length-set, map, not, refl, rules, set, subst, suc, sym, take, true, true≢false, vec_len, zero, ℕ, ◌++◌, ◌+◌, ◌-◌, ◌<◌, ◌^◌, ◌∙◌, ◌∷◌, ◌≡◌, ◌≢◌, ◌≤◌, ◌⊎◌}
pub use Rattle.std.proofs.Math.Seq.{drop-append_seam, drop-cons, take-append_seam}
pub use Rattle.std.proofs.lemmas.Bool.{and_parts, both_ways, cond_both, eq-eqb, eqb-false, eqb-true, leb-false, leb-true, ltb-false, ltb-true, ne_eqb}
pub use Rattle.std.proofs.lemmas.List.{get_or-set_other, get_or-set_same, length-map, length-replicate, nil_from_length, take-append-drop}
pub use Rattle.std.proofs.lemmas.Option.{get_or_from_slice_get, none-some, option_and_then_some, same_Some, slice_get_past, slice_get_within, unwrap_or-slice_get}
pub use Rattle.std.specs.Prelude.{Err, IfOk, IsSome, Ok, Result, if◌then◌else◌, is_some, nat_lt, option_to_list, slice_get, slice_set, unwrap_or, ◌&&◌, ◌==◌, ◌||◌}
pub use Rattle.links.proofs.Growing.{tells_nothing, tells_then}
pub use Rattle.links.proofs.Journaled.{events_in-append, pieces_in-append}
pub use Rattle.block_book.proofs.Asks.{same-is, same-self}
pub use Rattle.run_history.proofs.Connections.{closed_may, no_connections_may, others_may, within_after}
pub use Rattle.run_history.proofs.Repeats.{repeated_add}
pub use Rattle.run_history.proofs.Runs.{Later, allocated_keeps, alone_is, does_more, element_behind, next_after, next_parts, received_keeps, run_chosen, run_from, run_join, run_more, run_one, slice_get_longer}
pub use Rattle.run_history.proofs.Serves.{ServesTo, map_some, served_follows, serves_to, serves_used, unchosen_after}
pub use Rattle.run_history.proofs.Shapes.{Alone, Keeps, MaySend, Picks, Same, Shape, Takes, does_shape}
pub use Rattle.link_gate.proofs.ItemLemmas.{item_fits, item_is, received_is}
pub use Rattle.link_gate.proofs.Ordering.{in_order_shown}
pub use Rattle.replay.specs.Terms.{Allocate, Answer, Ask, Block, Bounds, Cause, Choice, Chooses, Closed, Coming, Counts, CpuState, Difference, Effect, Emits, Ends, Entry, Fails, Fits, Framing, Free, Gives, Goes, Grant, Guest, HasEnded, Heap, Heard, Image, IsAccount, IsFresh, IsHeap, IsInOrder, IsItemOf, IsLaidOut, IsLastRefused, Item, ItemRefusal, Limits, Line, LinkEvent, LinkFault, Live, Log, MAX_ITEMS, Machine, Marks, MayBegin, Memory, NextShows, Nothing, Open, Override, Path, Phases, Piece, Prefix, Question, ReadFault, Recorded, Refused, Request, Rules, Run, RunsBy, Seen, Send, Session, Site, Standing, State, StaysTold, StillComes, Tells, Told, Turn, Unheeded, Wants, WriteFault, after, bare_item, brought, bytes_asked, chooses, chosen_standing, connections_after, cut_entries, effect, empty_heap, env_at, events_in, events_of, first_items, granted, guest_of, heap_after, hear, hear_parts, heeded, insert_live, is_bare, is_live_at, is_usable, items_by, items_in, items_of, journal_of, last_taken, line_of, listed, live_after, live_blocks, live_of, logged, message_item, most_blocks, origin, phase_after, phases_after, pieces_in, planned_next, quietly, received, recorded_of, recorded_turn, refusal, released, repeated, replaced, request_of, run, same_ask, serve, site_of, start_standing, taken_standing, takes, turn_to, unless_event, without_block}
unfoldable pub use Rattle.replay.specs.Terms.{allocated, does, grant, heeded_behind, instruction_at, is_allowed, is_block, items_from, next, no_connections, quiet_next, recorded, start, start_machine}
pub use Rattle.replay.specs.declared.player.Player.{Player}
pub use Rattle.replay.specs.Giving.{AreGiven, AreGivenInPart, BreaksOff, IsLastSend, found_gone, piece_of}
pub use Rattle.replay.specs.Replaying.{AreAsked, AreOfLines, Differs, Ended, EndsBy, Failed, HasAsk, HasReplayed, HasReplayedBy, IsAsking, IsOfLine, IsReplay, IsUnusable, LeavesLink, LinkAnswers, Replay, Starved, Unanswered, Untaken, Unused, WaitsForItem, WasAsked, bounds_of, choice_by}
pub use Rattle.replay.specs.Differing.{DiffersBy, HasFilledBy, HasFound, IsApart, IsDifference, IsInputEnd, Never, TellsDifference, WouldDo}
pub use Rattle.replay.specs.Playing.{AreOpen, AreOpenThen, GoesOnBy, HasCause, HasNoFault, IsBase, IsBetween, IsEnd, IsPlaying, IsSending, IsWaiting, IsWanting, IsWholeEnd, LeavesBy, LinkHears, LinkTurns, Stage, StayOpen, TurnsBy, UsesBy, WaitsBy, has, replay_of, stage_of, state_of}
pub use Rattle.replay.specs.Hearing.{HeedsEvent, LogsEvent, answer_of, refusal_answer}
pub use Rattle.replay.specs.Judging.{ended_apart, judged, left_over, unusable_apart}
pub use Rattle.replay.specs.Laws.{AreLinesOf, BringsFirst, HadOneStream, HasRoom, HasSession, IsNoMismatch, IsRecordOf, bare_line}
