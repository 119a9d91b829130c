-- The words and lemmas that this crate's proofs are written in: those of crates below, and its own words.
pub use Rattle.std.proofs.Common.{Bool, Err, List, None, Ok, Option, Result, Some, [], ap, append-nil, append_assoc, arith, cond, drop, eqb, false, inl, inr, length, length-append, length-drop, ltb, map, max, min, not, refl, rules, subst, suc, sym, take, true, zero, ℕ, ◌*◌, ◌++◌, ◌+◌, ◌-◌, ◌/◌, ◌<◌, ◌^◌, ◌∙◌, ◌∷◌, ◌≡◌, ◌≤◌, ◌⊎◌}
pub use Rattle.std.proofs.Math.Seq.{drop-length, take-add, take-length}
pub use Rattle.std.proofs.lemmas.Bool.{and_parts, cases_lt, eq-eqb, eqb-true, true≢false}
pub use Rattle.std.proofs.lemmas.List.{drop-append-le, drop-drop, get_or-replicate, get_or-set_other, get_or_past, length-replicate, length-take-le, map-append, take-append-drop, take-append-le}
pub use Rattle.std.proofs.lemmas.Option.{IfSome_then, none-some, same_Some}
pub use Rattle.std.specs.Prelude.{All, IfOk, IfSome, IsErrOf, IsSome, MatchOption, is_some, option_map, replicate, slice_get, slice_set, sum, unwrap_or, ◌&&◌, ◌==◌, ◌||◌, ◌≢◌}
pub use Rattle.rx_base.proofs.Composing.{rose_later}
pub use Rattle.links.proofs.Growing.{grew_more, grew_nothing, tells_nothing, tells_then}
pub use Rattle.guest_cpu.proofs.RunLemmas.{runs_serve, runs_start, runs_write}
pub use Rattle.guest_cpu.proofs.TakeLemmas.{asks_wants, takes_write}
pub use Rattle.session_history.proofs.Endings.{broken_account, ending_account, ending_none, ending_piece, events_in-given}
pub use Rattle.session_history.proofs.Heeding.{events_of-append, passed_in-took}
pub use Rattle.session_history.proofs.Paths.{served_on, served_same, served_with}
pub use Rattle.session_history.proofs.Sessions.{entries_of-then, serving_account, serving_adopts, serving_event, serving_first, serving_on, serving_piece}
pub use Rattle.link_gate.proofs.MomentLemmas.{closes-gave, due_by, due_not_gone, is_closing-gave, is_open-same, journal-then, latest-gave, not_gone, open_not_closed, owed_open, passed_then}
pub use Rattle.link_gate.proofs.Refusing.{IsEvent, events_behind, events_ended, heard_behind, heeded_without}
pub use Rattle.link_gate.proofs.ReplyLemmas.{closed_keeps, fronts_stay, no_rest, nothing_waits, sent_keeps}
pub use Rattle.trials.proofs.Asking.{asks_under_all}
pub use Rattle.trials.proofs.Going.{steps_later, taken_later}
pub use Rattle.trials.proofs.Planned.{past_request}
pub use Rattle.trials.proofs.Survivors.{recovered_first, recovered_on, recovered_then}
pub use Rattle.recovery.proofs.Chains.{chained_with, survivor_goes}
pub use Rattle.recovery.proofs.Forces.{in_force_later, in_force_none}
pub use Rattle.recovery.proofs.ForgetLemmas.{HasOldest, after_oldest, can_forget, has_oldest, oldest_kept, oldest_used}
pub use Rattle.recovery.proofs.Handled.{handled_adopts, handled_first, handled_near, handled_on, handled_save, has_ring, near_handles, none_followed, stands_up_to}
pub use Rattle.recovery.proofs.RingLemmas.{ring_beside, ring_fails, ring_more, ring_on}
pub use Rattle.recovery.proofs.Sending.{between_behind, times_low}
pub use Rattle.session_state.specs.Terms.{Adopted, AllocError, Answer, AreBehind, AreBetween, AreChained, AreDuePieces, AreFronts, AreGiven, AreHeeded, AreInOrder, AreRecovered, AreRinged, AreSendable, AreStampedBy, AsksFor, AtBreak, AtEnd, Bounds, Brings, CanGive, CanGoOn, Cause, Chapter, Checkpoint, Choice, ComesLast, ComesOn, Coming, Connection, Counts, CpuState, Ending, EndsBy, Entry, Env, Episode, EpisodeShows, Event, Fails, FailsBy, Failure, Framing, GoesOn, Grant, Grew, HandedLast, HasAdoptedRun, HasAnswerCause, HasEnded, HasHanded, HasHandled, HasNoEnding, HasPassCause, HasRecovery, HasRing, HasToRecover, HaveRings, Heap, HearFault, HearShows, Heard, HearsBy, Held, Image, IoFault, IsAccount, IsBroken, IsClosing, IsDueBy, IsDuePiece, IsEnd, IsFresh, IsHeard, IsHeeded, IsInForce, IsItemOf, IsLastRefused, IsMadeDue, IsNext, IsOpened, IsOwed, IsPassed, IsReady, IsRecovery, IsSendable, IsShown, IsSilent, IsSoundBefore, IsUnheeded, IsWaiting, Item, Keeping, KeepsItems, KeepsPassing, KeepsPhases, KeepsReplies, KeepsRing, KeepsSlots, Latest, LeavesNothing, LeavesRun, LeavesSession, Ledger, Limits, LinkEvent, Live, Log, MAX_ITEMS, MayPass, Moment, NotBefore, Noted, OneEpisode, Options, Override, OwesNothing, OwesNothingAtEnd, PassFault, Passed, Passes, PassesRest, Path, Phases, Prefix, Recovered, Recovery, Refuses, Rose, Rules, RunsWriting, SavesIf, Seen, Send, Served, Serving, Session, SessionBreak, SessionEnd, Shown, Shows, ShowsSession, Stand, Standing, Stands, StandsAt, State, Stays, Stop, Survivor, Takes, TakesBehind, TakesOn, Tells, TellsMore, TellsTable, Told, Trial, Try, Turn, Unheeded, Unnoted, Wants, WasAsked, Writes, adopted_by, after, alone, before_end, behind, behind_items, break_answer, brought, but_given, closed_connection, closes, closing_of, count_true, ending_at, entries_of, env_at, episode_of, events_in, events_of, failed_with, first_survivor, gone_on, guest_of, handle, hear, hear_parts, heeded, is_closed_by, is_closing, is_far, is_gone, is_left, is_open, items_in, items_of, journal, journal_of, keeping_by, latest, listed, live_of, live_with_item, longer, marks_of, may_send, moment_of, moves, no_replies, noted, nothing_before, oldest_of, opens, origin, passed_in, place_at, place_of, planned_next, received, received_before, received_range, recovery_of, ring_if, sent_to, standing_of, stands_of, starting_path, starting_stands, steps_of, survivor_in, table, taken_in, taken_standing, then_entries, then_entry, with_change, with_live, with_range, with_send}
unfoldable pub use Rattle.session_state.specs.Terms.{connection_of, does, grant, heard_from, next_part, no_connections, parts_behind, rest_part, served_next, serves, settled, stamped, stamps_of, times_of, turn, unpassed, waits}
pub use Rattle.session_state.specs.Options.{keeping_for, rules_in, rules_of}
pub use Rattle.session_state.specs.Sessions.{IsBegun, SessionState, env_of, held_in}
pub use Rattle.session_state.specs.Recovered.{AllAnswered, AreAllTables, AreLastTables, AreTables, FailsAtChoices, FailsUpTo, GivesUpBy, HasGivenUp, HasNoted, HasNothingBehind, HasWatched, IsHandedLast, IsNoteFault, IsNoteStop, IsTable, IsTelling, Outcome, RanOn, Telling, TriedOn, Walk, all_steps, episodes_of, last_of, spent, steps_unanswered, story_of, trials_of, walk_behind}
pub use Rattle.session_state.specs.Leaving.{CanForgetSends, HandledAt, HandlesRequests, HasKept, HasLeft, HoldsCheckpoints, IsAtRequest, IsCutShort, IsHandled, IsReadFault, IsRecorded, IsTrimmed, KeepsOldest, LeavesBy, UnlessGaveUp, keeping_of}
pub use Rattle.session_state.specs.Standing.{AnswersFor, EndsWithin, GoesWith, HasMissed, HasNotedMore, HasPassed, HasPassedDue, HasUnanswered, IsAsking, IsBetween, IsBrokenOff, IsCloseDone, IsEnding, IsFailing, IsGoing, IsHearing, IsLatestBefore, IsLatestDone, IsTold, IsWaitingFor, KeepsCheckpoints, Since, Story, entries, moment, sends, then_story, told_since, unwatched}
pub use Rattle.session_state.specs.Serving.{Adopting, AdoptsTo, BreaksAt, BreaksBy, BreaksNoting, BreaksOnce, BreaksPassing, CanPass, ComesBetween, GoesFurther, HasNoteRest, HasNoteStop, HasRun, HasSameFrame, HasSameGuest, HasSameOpen, HasServedLink, HasServedOn, HasStopCause, IsAdoptedLater, IsAnswerTo, IsCounted, IsFinishing, IsNoteAnswer, IsOkOrMemory, IsPassAnswer, IsStopAt, IsToldBy, IsUnnoted, LinkAnswers, LinkFinishes, LinkPasses, LinkServes, MayServe, NotesAnswer, NotesServe, PassesDue, PassesStory, StandsClosing, StandsPassing, StaysKnown, StopsBy, TakesAtEnd, TakesBy, TrimsAt, TrimsBy, UnlessBroken, WaitsBy, end_of, outcome_of, rules_by}
pub use Rattle.session_state.specs.Recording.{KeepsNotes, NotesUpTo}
