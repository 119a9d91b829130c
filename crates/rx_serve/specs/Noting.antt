-- The two files of a session: its record and its report.
use Rattle.std.specs.Prelude.{◌≡◌, ◌⊎◌, ℕ, ◌+◌, List, [], ◌∷◌, length, Option, Some, Result, Ok, Err}
use Rattle.command_line.specs.declared.run_words.Form.{Form as Wanted}
use Rattle.command_line.specs.declared.run_words.Form.TheVariants as wanted
use Rattle.run_history.specs.declared.answer.Answer.TheVariants as answer
use Rattle.rx_base.specs.declared.fault.IoFault.TheVariants as fault
use Rattle.run_report.specs.declared.form.Form.TheVariants as form
use Rattle.run_report.specs.Report as report
use Rattle.schedule_file.specs.Lines as recording
use Rattle.rx_serve.specs.Terms.{IoFault, Contents, Choice, Image, Answer, IsEnd, Rules, Episode, Try, NoneFailed, noted, Keeping, TellsMore, Form, VERSION, record_of, text_of, AreAsks, Left, unnoted_of, Names, Stands, StandsBehind, report_text, AddsBoth, StartsBoth, AreAllTables, Outcome, story_of, Route, Serves, RunValue}
use Rattle.rx_serve.specs.Outside.{Outside}
use Rattle.rx_serve.specs.Status.{status_of}

-- a fault of a session's files, as its answer
abbrev pub IsFilesAnswer : IoFault → Answer → Type 0
IsFilesAnswer fault.Failed end = end ≡ answer.FileFault
IsFilesAnswer fault.Memory end = end ≡ answer.Memory

-- the names of the two files
abbrev pub names_of : RunValue → Names
names_of value = record { record_name = value.recording; report_name = value.report }

abbrev pub report_form : Wanted → Form
report_form wanted.Text = form.Text
report_form wanted.Json = form.Json

-- both files are started, each with its first line; after a fault or want of memory, partly
abbrev pub StartsFiles : RunValue → Option Contents → Option Contents → Result (Unit {0}) IoFault → Type 0
StartsFiles value = StartsBoth (names_of value) (recording.head_line VERSION value.window value.frame) (report.head_text (report_form value.form))

-- both files are ended, each with its last line, which tell how many items were taken and instructions done
abbrev pub EndsFiles : RunValue → Answer → ℕ → ℕ → Option Contents → Option Contents → Result (Unit {0}) IoFault → Type 0
EndsFiles value ended taken steps = AddsBoth (names_of value) (recording.end_line steps taken) (report.end_text (status_of ended) taken steps (report_form value.form))

-- both files have their whole texts, whatever they had: the record every answer of the allocator, the report every episode
abbrev pub HaveTexts : RunValue → List Choice → List Episode → Answer → ℕ → ℕ → Option Contents → Option Contents → Type 0
HaveTexts value choices episodes ended taken steps files files_later =
    StartsBoth (names_of value) (text_of (record_of value.window value.frame choices steps taken)) (report_text (report_form value.form) episodes (status_of ended) taken steps) files files_later (Ok tt)

-- what stands in the two files behind some episodes that were told before: the first one that was noted has the number behind theirs
abbrev pub StandsFrom : List Episode → Names → Form → Option Contents → Option Contents → List Choice → List Episode → Left → Type 0
StandsFrom [] names wanted = Stands names wanted
StandsFrom (first ∷ rest) names wanted = StandsBehind names wanted (length (first ∷ rest))

-- A session served, and what it noted stands in its two files behind what they were started with, so behind the episodes that were told before: a line of each
-- answer of the allocator that can't be rolled back, and the text of each episode. What is left behind them is a part of what the call of its notes that broke
-- it off was handed, so of lines of its own answers of the allocator, or of the text of its own last episode; else nothing is. The numbers of what was asked have
-- 32 bits each. So many instructions were counted.
pub record ServesNotedBehind (before : List Episode) (rules : Rules) (keeping : Keeping) (image : Image) (value : RunValue) (route : Route) (old new : Outside) (outcome : Outcome) : Type 0 where
  pub choices : List Choice
  pub episodes : List Episode
  pub left : Left
  pub counted : ℕ
  pub counts : new.counter ≡ old.counter + counted
  pub serves : Serves route rules keeping image outcome (noted (Some []) (Some []) (Some NoneFailed)) (noted (Some choices) (Some episodes) (Some (unnoted_of left))) counted
  pub stands : StandsFrom before (names_of value) (report_form value.form) old.files new.files choices episodes left
  pub asks : AreAsks choices

-- A session that was watched served so, and its watch, where it tells its tables, has told those of its recoveries more. What the watch counted isn't
-- the session's.
pub record WatchesNotedBehind (before : List Episode) (rules : Rules) (keeping : Keeping) (image : Image) (value : RunValue) (route : Route) (old new : Outside) (outcome : Outcome) (tables_before tables : Option (List (List Try))) : Type 0 where
  pub noted : ServesNotedBehind before rules keeping image value route old new outcome
  pub watched : TellsMore tables_before tables (AreAllTables rules (story_of noted.serves.telling) noted.serves.telling.walk outcome.stop)

-- both where no episode was told before
abbrev pub ServesNoted : Rules → Keeping → Image → RunValue → Route → Outside → Outside → Outcome → Type 0
ServesNoted = ServesNotedBehind []

abbrev pub WatchesNoted : Rules → Keeping → Image → RunValue → Route → Outside → Outside → Outcome → Option (List (List Try)) → Option (List (List Try)) → Type 0
WatchesNoted = WatchesNotedBehind []

-- What a session that came to this end leaves behind its notes. At an end of its own the last lines were written; where that failed, the answer
-- says it in place of the end. Where it was broken off, its files are left as they are.
abbrev pub ClosesFiles : RunValue → ℕ → ℕ → Option Contents → Option Contents → Answer → Answer → Type 0
ClosesFiles value taken steps files files_later ended end =
    (IsEnd ended × ((end ≡ ended) × EndsFiles value ended taken steps files files_later (Ok tt)))
    ⊎ ((IsEnd ended × ((why : IoFault) × (IsFilesAnswer why end × EndsFiles value ended taken steps files files_later (Err why))))
    ⊎ ((IsEnd ended → ⊥) × ((end ≡ ended) × (files_later ≡ files))))
