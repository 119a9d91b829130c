-- The words that this crate's definitions are written in: those of crates below, and types of its code.
pub use Rattle.std.specs.declared.alloc.Global.{Global}
pub use Rattle.rx_base.specs.declared.fault.IoFault.{IoFault}
pub use Rattle.rx_base.specs.declared.item.Item.{Item}
pub use Rattle.rx_base.specs.declared.item.TheConstants.{MAX_ITEMS}
pub use Rattle.rx_base.specs.Faults.{HasCause, Rose}
pub use Rattle.rx_base.specs.Outside.{IsDrained, Stream}
pub use Rattle.rx_base.specs.Prefix.{Prefix}
pub use Rattle.rx_base.specs.Sends.{Send, sent_to}
pub use Rattle.rx_io.specs.declared.file_calls.FileCall.{FileCall}
pub use Rattle.rx_io.specs.declared.file_calls.FileCall.TheVariants.{Added, Loaded, Started}
pub use Rattle.rx_io.specs.Calling.{Calls}
pub use Rattle.rx_io.specs.Named.{Contents, Holds}
pub use Rattle.links.specs.declared.journal.Entry.{Entry}
pub use Rattle.links.specs.declared.journal.LinkEvent.{LinkEvent}
pub use Rattle.links.specs.Links.{ComesUntold, Coming, Counts, Piece, events_in, pieces_in}
pub use Rattle.ports.specs.declared.port_calls.PortEntry.{PortEntry}
pub use Rattle.port_link.specs.declared.place.PortLimits.{PortLimits}
pub use Rattle.block_book.specs.declared.choice.Choice.{Choice}
pub use Rattle.block_book.specs.Heap.{Heap}
pub use Rattle.trunk_wire.specs.Pieces.{payload}
pub use Rattle.trunk_text.specs.declared.turning.Ended.{Ended}
pub use Rattle.trunk_text.specs.Framing.{framing}
pub use Rattle.trunk_text.specs.Turns.{Moved, Turned, Way}
pub use Rattle.trunk_text.specs.Unframing.{unframing}
pub use Rattle.guest_image.specs.declared.image.Image.{Image}
pub use Rattle.elf_file.specs.Refusals.{IsImage}
unfoldable pub use Rattle.elf_file.specs.Refusals.{refusal}
pub use Rattle.elf_file.specs.Written.{written}
pub use Rattle.run_history.specs.declared.answer.Answer.{Answer}
pub use Rattle.run_history.specs.declared.answer.Answer.TheVariants.{AsmRefused, BadWords, CountsRefused, ElfRefused, Exited, FileFault, Finished, GaveUp, InputRefused, LimitEvents, LimitItems, Memory, MessageTooLong, Mismatch, ReadFault, RecordRefused, ReportRefused, Short, TooLarge, WriteFault}
unfoldable pub use Rattle.run_history.specs.Call.{allocated, received}
pub use Rattle.run_history.specs.Machine.{Chooses, Effect, Emits, Ends, Fails, Goes, Machine, State, Wants}
unfoldable pub use Rattle.run_history.specs.Machine.{start, start_machine}
pub use Rattle.run_history.specs.Run.{Run, after, effect, output}
unfoldable pub use Rattle.run_history.specs.Run.{does, next}
pub use Rattle.run_history.specs.Served.{Limits, Override, Path, Served, env_at, origin, planned_next}
unfoldable pub use Rattle.heap_guard.specs.Guard.{permits}
pub use Rattle.heap_guard.specs.Guarded.{KeepsToExtents, KeepsToLiveBlocks}
pub use Rattle.session_history.specs.declared.ends.Stop.{Stop}
pub use Rattle.session_history.specs.Account.{HasPassedAll, IsAccount, Session, journal_of}
pub use Rattle.session_history.specs.AccountLaws.{IsComplete, NoOtherAnswer, OpensOnce, PassesAtOnce, SentIsPassed, piece_of}
pub use Rattle.session_history.specs.Answering.{HasAnswerCause}
pub use Rattle.session_history.specs.Ends.{AtEnd, EndsAt, HasComeTo, IsEnd, IsEnded, OwesNothingAtEnd, answer_of, before_end, end_answer}
pub use Rattle.session_history.specs.Giving.{AreGiven}
pub use Rattle.session_history.specs.Heeding.{AreHeeded, events_of, heeded, items_in, nothing_before}
pub use Rattle.session_history.specs.Lawful.{Rules, entries_of}
pub use Rattle.session_history.specs.Opened.{closes, is_gone, is_open}
pub use Rattle.session_notes.specs.declared.episode.Episode.{Episode}
pub use Rattle.session_notes.specs.declared.episode.Try.{Try}
pub use Rattle.session_notes.specs.declared.note_list.NoteList.{NoteList}
pub use Rattle.session_notes.specs.Lists.{list_episodes}
pub use Rattle.session_notes.specs.Noting.{NoneFailed, Shown, Unnoted, noted}
pub use Rattle.follow.specs.Following.{AsksForMore, HasFollowed, heard_alone, rules_behind}
pub use Rattle.follow.specs.Handed.{Handed}
pub use Rattle.follow.specs.Plans.{adopted_try, plan_of}
pub use Rattle.recovery.specs.Handling.{Keeping}
pub use Rattle.recovery.specs.Watching.{TellsMore}
pub use Rattle.run_report.specs.declared.form.Form.{Form}
pub use Rattle.diagnosis.specs.Diagnosis.{diagnosis_text, head_text, rest_text}
pub use Rattle.schedule_file.specs.declared.recorded.RecordRefusal.{RecordRefusal}
pub use Rattle.schedule_file.specs.declared.recorded.RecordRefusal.TheVariants.{Refused}
pub use Rattle.schedule_file.specs.declared.recorded.Recorded.{Recorded}
pub use Rattle.schedule_file.specs.declared.recorded.TheConstants.{VERSION}
pub use Rattle.schedule_file.specs.declared.recorded.Unfinished.{Unfinished}
pub use Rattle.schedule_file.specs.Answers.{ReadsRecord, ReadsUnfinished}
pub use Rattle.schedule_file.specs.Lines.{choice_line, choice_lines, line_of, lines_text}
unfoldable pub use Rattle.schedule_file.specs.Lines.{end_line, head_line, line_text}
pub use Rattle.schedule_file.specs.Records.{IsAsk, IsChoice, IsReading, IsRecord, record_of, text_of}
pub use Rattle.schedule_file.specs.Refusals.{is_line, judged_from, judged_lines, judged_under, lines_of, onto, refused_behind, refused_from, refused_line, refused_lines, refused_under, unfinished_last, unfinished_line}
pub use Rattle.schedule_file.specs.Telling.{is_ask}
unfoldable pub use Rattle.schedule_file.specs.Telling.{end_of, head_of}
pub use Rattle.counts_file.specs.Counts.{count_of}
pub use Rattle.report_reading.specs.declared.reported.ReadReport.{ReadReport}
pub use Rattle.file_notes.specs.Asks.{AreAsks}
pub use Rattle.file_notes.specs.Beside.{IsThird, StandsBeside}
pub use Rattle.file_notes.specs.Calling.{AddsAlone, CallsFront, ending, is_addition, starting, starts_of, taking_over}
pub use Rattle.file_notes.specs.Left.{InRecord, InReport, Left, Nothing, unnoted_of}
pub use Rattle.file_notes.specs.Names.{AreTwo, Names}
pub use Rattle.file_notes.specs.Standing.{Stands, StandsBehind}
pub use Rattle.file_notes.specs.Texts.{report_text, told_text}
pub use Rattle.file_notes.specs.Writing.{AddsBoth, HasBoth, StartsBoth, TakesOverBoth, Writes, all_kept, nothing_kept}
pub use Rattle.session_state.specs.declared.options.Options.{Options}
pub use Rattle.session_state.specs.Options.{AreInRange, keeping_for, rules_of}
pub use Rattle.session_state.specs.Recovered.{AreAllTables, HasNoted, IsHandedLast, IsNoteStop, IsOutcome, Outcome, Telling, story_of}
pub use Rattle.session_state.specs.Serving.{IsReadyToServe, outcome_of, rules_by}
pub use Rattle.session_state.specs.Sessions.{IsBegun, SessionState}
pub use Rattle.session_following.specs.declared.unfollowed.Unfollowed.{Unfollowed}
pub use Rattle.session_following.specs.HandedOver.{handed_of}
pub use Rattle.session_following.specs.TakingOver.{IsUnfollowedBy, MayBeHanded, UnnotedBy, stop_as}
pub use Rattle.replay.specs.declared.difference.Difference.{Difference}
pub use Rattle.replay.specs.Replaying.{EndsBy, bounds_of}
pub use Rattle.routes.specs.Converting.{ComparesConverted, ConvertsTrunk, TellsConverted}
pub use Rattle.routes.specs.EndLaws.{AreAllHeeded, NoOtherEnd, SendsAreWritten}
pub use Rattle.routes.specs.OverPort.{CalledPort, EndsAfter, GoesOverPort}
pub use Rattle.routes.specs.PortCalls.{given_to}
pub use Rattle.routes.specs.Replaying.{ReplaysTrunk, WritesSends}
pub use Rattle.routes.specs.Resuming.{ResumesBy, ResumesTrunk, StopsFollowing, TakesUnfollowed, answer_as}
pub use Rattle.routes.specs.Serving.{GoesOver, HasServedOver, Port, Route, Serves, Trunk, Watches}
pub use Rattle.routes.specs.StandingBy.{BreaksOffTrunk, FollowsTrunk, ServesOnTrunk}
pub use Rattle.routes.specs.Trunk.{Carries, StopsTrunk, TakesTrunk, WritesWhole}
pub use Rattle.routes.specs.WatchLaws.{BeginWith, NotedTablesAreTold}
pub use Rattle.drill.specs.Drilling.{DrillEnds}
pub use Rattle.command_line.specs.declared.run_words.Guard.{Guard}
pub use Rattle.command_line.specs.Commands.{AsmValue, CommandValue, ConvertValue, DiagnoseValue, DrillValue, ReplayValue, ResumeValue, RunValue, ServeValue, StandbyValue, are_four, are_new, asm, command_of, convert, convert_shown, diagnose, diagnose_shown, drill, drill_shown, fits, frame, has_fourth, have_names, have_six, is_fifth, positional, replay, replay_shown, resume, resume_shown, run, run_in, run_shown, serve, serve_shown, standby, standby_shown, unframe}
unfoldable pub use Rattle.command_line.specs.Commands.{diagnose_form, diagnose_value, is_diagnose, is_resume, is_run, is_serve, resume_form, resume_value, run_form, run_value, serve_form, serve_value}
pub use Rattle.command_line.specs.Parts.{Parts, texts_of}
pub use Rattle.command_line.specs.Ranges.{HasRanges}
unfoldable pub use Rattle.command_line.specs.Table.{conns_row, diagnosis_row, port_row, record_row, report_row}
