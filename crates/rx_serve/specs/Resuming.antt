-- The command `resume`: a second host goes on for one that was killed. It follows that host's run, and serves on behind it.
use Rattle.std.specs.Prelude.{◌≡◌, ◌⊎◌, ◌≢◌, ℕ, ◌+◌, List, [], ◌++◌, All, drop, length, true, map, Option, Some, option_map, Result, Ok, Err}
use Rattle.follow.specs.Handed.{Finish as Place}
use Rattle.msg_frame.specs.declared.framing.Framing.{Framing}
use Rattle.run_history.specs.declared.answer.Answer.TheVariants as answer
use Rattle.schedule_file.specs.Lines as recording
use Rattle.schedule_file.specs.declared.recorded.Finish.{Finish}
use Rattle.session_following.specs.Reaching.{HasAskedBefore, HasNotReached}
use Rattle.session_following.specs.declared.unfollowed.Unfollowed.TheVariants as unfollowed
use Rattle.session_history.specs.declared.ends.SessionBreak.TheVariants as session_break
use Rattle.session_history.specs.declared.ends.Stop.TheVariants as stop
use Rattle.rx_serve.specs.Terms.{IoFault, Stream, Prefix, FileCall, Calls, Contents, LinkEvent, Coming, events_in, Choice, Image, Answer, Path, Served, origin, answer_of, items_in, Rules, Episode, NoneFailed, AsksForMore, HasFollowed, heard_alone, rules_behind, Handed, plan_of, VERSION, line_of, AreAsks, CallsFront, is_addition, taking_over, Left, unnoted_of, told_text, TakesOverBoth, Unfollowed, IsUnfollowedBy, UnnotedBy, stop_as, TakesUnfollowed, TakesTrunk, WritesWhole, ResumeValue, RunValue, run_in}
use Rattle.rx_serve.specs.declared.ending.End.{End}
use Rattle.rx_serve.specs.Ended.{HasNoSession}
use Rattle.rx_serve.specs.Noting.{IsFilesAnswer, StandsFrom, names_of, report_form}
use Rattle.rx_serve.specs.Outside.{IsUntouched, Outside}
use Rattle.rx_serve.specs.ResumeFiles.{AreHandedOver, FourTexts, HasHandoverCause, IsOfFour, loading_four}
use Rattle.rx_serve.specs.Route.{trunk_of}
use Rattle.rx_serve.specs.Running.{HasServedBehind}
use Rattle.rx_serve.specs.Settings.{rules_of_run}

-- ---- what is handed over

-- where a record's last line says that its run stood, as who follows takes it
abbrev pub finish_as : Finish → Place
finish_as finish = record { steps = finish.steps; taken = finish.taken }

-- what the record, the report and the counts of the four files hand over, with the image of the program, and the record's window and framing
pub record IsHandedOver (texts : FourTexts) (image : Image) (window : ℕ) (frame : Framing) (handed : Handed) : Type 0 where
  pub finish : Option Finish
  pub finish_is : handed.finish ≡ option_map finish_as finish
  pub are : AreHandedOver texts image (record { version = VERSION; window = window; frame = frame; lines = map line_of handed.choices; finish = finish }) handed.episodes handed.counts

-- ---- the two files that are written

-- The record is emptied, then the report is started with its first line and the episodes that were handed over, then the record gets its first line. After a
-- fault or want of memory, partly
abbrev pub StartsTakenOver : RunValue → List Episode → Option Contents → Option Contents → Result (Unit {0}) IoFault → Type 0
StartsTakenOver value episodes = TakesOverBoth (names_of value) (recording.head_line VERSION value.window value.frame) (told_text (report_form value.form) episodes)

-- the calls of that
abbrev pub before_taken : RunValue → List FileCall
before_taken value = taking_over (names_of value)

-- a fault or want of memory came as they were started; or they were, and there was no memory for a session
abbrev pub StartsPartlyBehind : RunValue → List Episode → Option Contents → Option Contents → Answer → Type 0
StartsPartlyBehind value episodes files files_later end =
    ((fault : IoFault) × (IsFilesAnswer fault end × StartsTakenOver value episodes files files_later (Err fault)))
    ⊎ ((end ≡ answer.Memory) × StartsTakenOver value episodes files files_later (Ok tt))

-- ---- what is left

-- No session began. Nothing was read, passed or run.
pub record HasNoFollower (value : RunValue) (episodes : List Episode) (old new : Outside) (end : End) : Type 0 where
  pub starts : StartsPartlyBehind value episodes old.files new.files end.answer
  pub called : CallsFront old.calls new.calls (before_taken value)
  pub untouched : IsUntouched old new
  pub nothing : HasNoSession end

-- the answer where a session wasn't released
abbrev pub unreleased_answer : Unfollowed → Answer
unreleased_answer (unfollowed.Mismatch step) = answer.Mismatch step
unreleased_answer (unfollowed.Short conn) = answer.Short conn
unreleased_answer (unfollowed.Stops why) = answer_of why

-- A host followed these events over a trunk, and heard perhaps one more behind them; its run stands there, under the plan of the report, and nowhere before had it
-- reached what was handed over; that is why it wasn't released. The bytes that the source lost are the frames of what it heard; a part of one more frame was asked
-- for. The sink gained none. Some first answers of the allocator of that run were noted, and as many instructions counted as it has, unless memory ran out.
pub record IsUnreleased (rules : Rules) (image : Image) (handed : Handed) (source source_later : Option Stream) (sink sink_later : Option (List ℕ)) (choices : List Choice) (counted : ℕ) (why : Unfollowed) : Type 0 where
  pub events : List LinkEvent
  pub last : List LinkEvent
  pub coming : Option Coming
  pub now : Path
  pub ran : Served rules.limits (items_in rules.bounds (heard_alone events)) (plan_of rules.limits.keep handed.episodes) (origin image) now
  pub not_before : HasNotReached rules.limits (items_in rules.bounds (heard_alone events)) image handed now
  pub asked : HasAskedBefore rules image handed events
  pub cause : IsUnfollowedBy rules image handed coming events last now why
  pub noted : Prefix choices now.choices
  pub counted_all : why ≢ unfollowed.Stops (stop.Breaks session_break.Memory) → counted ≡ now.steps
  pub took : TakesTrunk source source_later (events_in (heard_alone (events ++ last))) coming (AsksForMore rules image handed events)
  pub takes : TakesUnfollowed source source_later events last why
  pub wrote : WritesWhole sink sink_later []

-- So it was over input and output, and its notes stand in its two files behind what they were started with: a line of each of these answers of the allocator,
-- and no episode. What is left behind them is a part of the lines of answers behind those, where noting failed, or memory ran out; else nothing is.
pub record StopsNoted (rules : Rules) (image : Image) (value : RunValue) (handed : Handed) (old new : Outside) (why : Unfollowed) : Type 0 where
  pub choices : List Choice
  pub left : Left
  pub counted : ℕ
  pub counts : new.counter ≡ old.counter + counted
  pub follows : IsUnreleased rules image handed old.input new.input old.output new.output choices counted why
  pub stands : StandsFrom handed.episodes (names_of value) (report_form value.form) old.files new.files choices [] left
  pub failed : UnnotedBy (Some NoneFailed) (Some (unnoted_of left)) (drop (length choices) follows.now.choices) (Err (stop_as why))
  pub asks : AreAsks choices

-- A session was begun behind the first lines of its two files, and wasn't released: why; and the calls that were made add to the two. No last line was written.
-- Of the run that was followed the end tells nothing.
pub record HasNotResumed (value : RunValue) (image : Image) (handed : Handed) (old new : Outside) (end : End) : Type 0 where
  pub files_started : Option Contents
  pub starts : StartsTakenOver value handed.episodes old.files files_started (Ok tt)
  pub why : Unfollowed
  pub answered : end.answer ≡ unreleased_answer why
  pub stops : StopsNoted (rules_of_run value) image value handed (record old { files = files_started }) new why
  pub added : List FileCall
  pub each : All (λ call. is_addition (names_of value) call ≡ true) added
  pub made : Calls old.calls new.calls (before_taken value ++ added)
  pub nothing : HasNoSession end

-- It was released, behind these events: and from there on an ordinary session served, before which came what was followed.
pub record HasResumed (value : RunValue) (image : Image) (handed : Handed) (old new : Outside) (end : End) : Type 0 where
  pub events : List LinkEvent
  pub released : Path
  pub followed : HasFollowed (rules_of_run value) image handed events released
  pub served : HasServedBehind (λ (own : Image). own ≡ image) (λ (started : Option Contents). StartsTakenOver value handed.episodes old.files started (Ok tt)) (before_taken value) handed.episodes (rules_behind (rules_of_run value) handed events released) value (trunk_of old new) old new end

-- what is left where this was handed over
abbrev pub ResumesSession : RunValue → Image → Handed → Outside → Outside → End → Type 0
ResumesSession value image handed old new end =
    HasNoFollower value handed.episodes old new end ⊎ (HasNotResumed value image handed old new end ⊎ HasResumed value image handed old new end)

-- Nothing was handed over: a file can't be loaded or is refused, or memory ran out. Nothing was read from the input, written or run.
pub record HasNotHandedOver (value : ResumeValue) (old new : Outside) (end : End) : Type 0 where
  pub cause : HasHandoverCause old.files value end.answer
  pub same_files : new.files ≡ old.files
  pub called : CallsFront old.calls new.calls (loading_four value)
  pub untouched : IsUntouched old new
  pub nothing : HasNoSession end

-- The four files were loaded and read, and then a session took over, or none did.
pub record HasTakenOn (value : ResumeValue) (old new : Outside) (end : End) : Type 0 where
  pub window : ℕ
  pub frame : Framing
  pub image : Image
  pub handed : Handed
  pub loaded : IsOfFour old.files value (λ texts. IsHandedOver texts image window frame handed)
  pub calls_loaded : Option (List FileCall)
  pub called : Calls old.calls calls_loaded (loading_four value)
  pub resumes : ResumesSession (run_in value window frame) image handed (record old { calls = calls_loaded }) new end

-- what `resume` leaves
abbrev pub ResumeEnds : ResumeValue → Outside → Outside → End → Type 0
ResumeEnds value old new end = HasNotHandedOver value old new end ⊎ HasTakenOn value old new end
