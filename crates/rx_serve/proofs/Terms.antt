-- The words and lemmas that this crate's proofs are written in: those of crates below, and its own words.
pub use Rattle.std.proofs.Common.{Bool, IfSome, List, None, Ok, Option, Some, [], ap, append-nil, append_assoc, arith, drop, eqb, false, get_or, inl, inr, leb, length, length-append, map, nat_lt, not, refl, rules, subst, suc, sym, take, true, true≢false, zero, ℕ, ◌%◌, ◌&&◌, ◌*◌, ◌++◌, ◌+◌, ◌-◌, ◌<◌, ◌^◌, ◌∙◌, ◌∷◌, ◌≡◌, ◌≤◌}
pub use Rattle.std.proofs.lemmas.Bool.{and_parts, cases_eq, cases_lt, eqb-true, leb-true, ltb-true, ne_eqb, or_cases, or_from, or_parts}
pub use Rattle.std.proofs.lemmas.List.{length-take-le, take-append-drop}
pub use Rattle.std.proofs.lemmas.List.Elements.{All-cons, All-from_get_or, All-head, All-nil, All-tail}
pub use Rattle.std.proofs.lemmas.Option.{none-some, option_and_then_some, same_Some, slice_get-get_or, slice_get_within}
pub use Rattle.std.specs.Prelude.{All, AllPairs, Err, IsErrOf, IsSome, IsSomeAnd, MatchOption, Result, Vec, flat_map, if◌then◌else◌, is_some, option_map, slice_get, slice_index_or, ◌==◌, ◌||◌, ◌≢◌, ◌⊎◌}
pub use Rattle.rx_base.proofs.Budgets.{few_in_all}
pub use Rattle.run_history.proofs.Repeats.{repeated_keeps}
pub use Rattle.run_history.proofs.Runs.{allocated_keeps, next_parts, received_keeps}
pub use Rattle.session_history.proofs.Ended.{at_its_end, came_to, holds_at_end, is_end_answer}
pub use Rattle.session_history.proofs.Endings.{events_in-given, given_broken, passed_all, received_at_end}
pub use Rattle.session_history.proofs.Growing.{ByChoice, ByEnd, ByItem, ByItself, BySend, Moved, moved}
pub use Rattle.recovery.proofs.Few.{few_items}
pub use Rattle.file_notes.proofs.CallingLemmas.{calls_then, front_all, front_behind, front_first}
pub use Rattle.file_notes.proofs.LawLemmas.{whole_texts, whole_texts_behind}
pub use Rattle.session_state.proofs.ending.StartLemmas.{begun_rules}
pub use Rattle.command_line.proofs.Ranges.{resumed_in_range, session_in_range}
pub use Rattle.rx_serve.specs.Terms.{Added, AddsAlone, Answer, AreAllTables, AreAsks, AreGiven, AreHeeded, AreInRange, AreTwo, AtEnd, BeginWith, BreaksOffTrunk, CalledPort, Calls, CallsFront, Carries, Choice, Chooses, ComesUntold, Coming, CommandValue, ComparesConverted, Contents, ConvertValue, ConvertsTrunk, Counts, DiagnoseValue, Difference, DrillEnds, Effect, Emits, Ended, Ends, EndsAfter, EndsAt, EndsBy, Entry, Episode, Fails, FileCall, Form, Global, Goes, GoesOver, GoesOverPort, Guard, Handed, HasAnswerCause, HasBoth, HasCause, HasComeTo, HasNoted, HasPassedAll, HasRanges, HasServedOver, Heap, Image, InRecord, InReport, IoFault, IsAccount, IsAsk, IsBegun, IsChoice, IsComplete, IsDrained, IsEnd, IsEnded, IsHandedLast, IsImage, IsNoteStop, IsOutcome, IsReading, IsReadyToServe, IsRecord, IsThird, Item, Keeping, KeepsToLiveBlocks, Left, Limits, LinkEvent, Loaded, MAX_ITEMS, Machine, MayBeHanded, Names, NoOtherAnswer, NoOtherEnd, NoneFailed, NoteList, NotedTablesAreTold, Nothing, OpensOnce, Options, Outcome, Override, OwesNothingAtEnd, Parts, PassesAtOnce, Path, Piece, Port, PortEntry, PortLimits, Prefix, ReadReport, ReadsRecord, ReadsUnfinished, RecordRefusal, Recorded, Refused, ReplayValue, ReplaysTrunk, ResumeValue, ResumesBy, ResumesTrunk, Rose, Route, Rules, Run, RunValue, Send, SendsAreWritten, SentIsPassed, ServeValue, Served, Serves, ServesOnTrunk, Session, SessionState, Shown, StandbyValue, Stands, StandsBehind, StandsBeside, Started, State, Stop, StopsFollowing, StopsTrunk, Stream, Telling, TellsMore, Trunk, Try, Turned, Unfinished, Unfollowed, Unnoted, UnnotedBy, VERSION, Wants, Watches, Way, WritesSends, adopted_try, after, all_kept, answer_as, answer_of, are_four, are_new, asm, before_end, bounds_of, choice_line, choice_lines, closes, command_of, convert, convert_shown, count_of, diagnose, diagnose_shown, diagnosis_text, drill, drill_shown, effect, end_answer, entries_of, env_at, events_in, events_of, fits, frame, framing, given_to, handed_of, has_fourth, have_names, have_six, head_text, heeded, is_ask, is_fifth, is_gone, is_line, items_in, journal_of, judged_from, judged_lines, judged_under, keeping_for, line_of, lines_of, lines_text, list_episodes, noted, nothing_before, nothing_kept, onto, origin, output, payload, piece_of, pieces_in, planned_next, positional, record_of, refused_behind, refused_from, refused_line, refused_lines, refused_under, replay, replay_shown, rest_text, resume, resume_shown, rules_behind, rules_by, rules_of, run, run_in, run_shown, sent_to, serve, serve_shown, standby, standby_shown, starting, starts_of, stop_as, story_of, text_of, texts_of, unfinished_last, unfinished_line, unframe, unframing, unnoted_of, written}
unfoldable pub use Rattle.rx_serve.specs.Terms.{allocated, conns_row, diagnose_form, diagnose_value, diagnosis_row, does, end_line, end_of, head_line, head_of, is_diagnose, is_resume, is_run, is_serve, line_text, next, permits, port_row, received, record_row, refusal, report_row, resume_form, resume_value, run_form, run_value, serve_form, serve_value, start, start_machine}
pub use Rattle.rx_serve.specs.declared.ending.End.{End}
pub use Rattle.rx_serve.specs.Limits.{counts_limit, program_limit, record_limit, report_limit}
pub use Rattle.rx_serve.specs.Outside.{Faults, HasFaults, IsUntouched, Outside, faults, outside}
pub use Rattle.rx_serve.specs.Loading.{HasFile, HasImage, HasLoadCause, LoadsFile}
pub use Rattle.rx_serve.specs.Assembly.{Assembles, HasAsmCause, LoadsText, Writes, WritesAssembled}
pub use Rattle.rx_serve.specs.Status.{status_of}
pub use Rattle.rx_serve.specs.Settings.{options_of, rule_of, rules_of_run, window_of}
pub use Rattle.rx_serve.specs.Ended.{HasNoSession}
pub use Rattle.rx_serve.specs.Route.{IsDone, IsServed, Passed, PassedCalls, PassedOver, PassedTrunk, trunk_of}
pub use Rattle.rx_serve.specs.Noting.{ClosesFiles, EndsFiles, HaveTexts, IsFilesAnswer, ServesNoted, ServesNotedBehind, StandsFrom, StartsFiles, WatchesNoted, names_of, report_form}
pub use Rattle.rx_serve.specs.Calling.{CallsAnswer, CallsAsm, CallsConvert, CallsEnding, CallsServed, CallsServedBehind, CallsWrite, before_session, replayed, replaying}
pub use Rattle.rx_serve.specs.Headline.{Headline, LastExits, received_items}
pub use Rattle.rx_serve.specs.Guarding.{KeepsToBlocks}
pub use Rattle.rx_serve.specs.Beginning.{HasBegun, StartsPartly}
pub use Rattle.rx_serve.specs.Running.{HasNotBegun, HasServed}
pub use Rattle.rx_serve.specs.Serving.{IsBindAnswer, ServeEnds, limits_of}
pub use Rattle.rx_serve.specs.Diagnosing.{CallsClosing, CallsDiagnosed, ClosesDiagnosis, DiagnoseEnds, HasDiagnosed, HasDiagnosis, HasText, IsKept, StartsDiagnosis, before_diagnosed}
pub use Rattle.rx_serve.specs.Replaying.{ComparesFile, HasBeenReplayed, HasRecord, HasRecording, HasReplayCause, ReplaysFile, window_in}
pub use Rattle.rx_serve.specs.Converting.{ComparesConversion, ConvertsFile, LeavesText}
pub use Rattle.rx_serve.specs.StandbyFiles.{HasTakeoverCause, LoadsTexts, OfCounts, OfProgram, OfRecord, loading}
pub use Rattle.rx_serve.specs.ResumeFiles.{AreHandedOver, FourTexts, HasHandingCause, HasHandoverCause, IsHanded, LargeCounts, LargeRecord, LargeReport, LoadsFour, ReadsAdopted, four_in, handed_shown, loading_four}
pub use Rattle.rx_serve.specs.StandingBy.{AreCovered, CallsRecording, ClosesRecording, EndsRecording, HasRecorded, IsBrokenOff, IsFirstShort, StandbyEnds, StartsRecording, TakesOver}
pub use Rattle.rx_serve.specs.Resuming.{HasResumed, ResumeEnds, ResumesSession, StartsPartlyBehind, StartsTakenOver, StopsNoted, before_taken, unreleased_answer}
pub use Rattle.rx_serve.specs.TakingOn.{ResumesNoted, ServesOnNoted, handed_in, new_names, resumed_answer}
pub use Rattle.rx_serve.specs.TextFrames.{TurnsInput, turned_answer}
pub use Rattle.rx_serve.specs.Commands.{ConvertEnds, ReplayEnds, Replays, RunEnds}
pub use Rattle.rx_serve.specs.Laws.{AllSendsAreGiven, AllSendsAreWritten, GivesAll, GivesOver, GoodClientsAreServed, GoodInputIsTaken, HasSameOutside, IsReplayedBy, NoServeIsRefused, OfClients, OnlyBadWordsAreRefused, RecordsAreConverted, RecordsAreReplayed, SecondVersionStays}
