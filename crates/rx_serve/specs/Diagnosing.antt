-- The command `diagnose`: a session of a program as of `run`, and a diagnosis of each of its failures in a file of its own.
use Rattle.std.specs.Prelude.{◌≡◌, ◌⊎◌, ℕ, ◌≤◌, true, List, [], ◌∷◌, ◌++◌, take, All, Option, None, Some, Result, Ok, Err}
use Rattle.rx_serve.specs.Terms.{IoFault, Prefix, FileCall, Added, Calls, Contents, Image, Answer, IsEnd, answer_of, Episode, Try, NoteList, list_episodes, diagnosis_text, head_text, rest_text, StandsBeside, CallsFront, is_addition, starts_of, Writes, all_kept, nothing_kept, AreAllTables, story_of, BeginWith, DiagnoseValue}
use Rattle.rx_serve.specs.declared.ending.End.{End}
use Rattle.rx_serve.specs.Calling.{IsEnding, before_session}
use Rattle.rx_serve.specs.Ended.{HasNoSession}
use Rattle.rx_serve.specs.Loading.{HasImage}
use Rattle.rx_serve.specs.Noting.{IsFilesAnswer, StartsFiles, names_of}
use Rattle.rx_serve.specs.Outside.{Outside, IsUntouched}
use Rattle.rx_serve.specs.Route.{trunk_of}
use Rattle.rx_serve.specs.Running.{HasNotBegun, HasServed}
use Rattle.rx_serve.specs.Settings.{rules_of_run, window_of}
use Rattle.rx_serve.specs.Status.{status_of}

-- the diagnosis is started, with its first line; after a fault or want of memory a part of that may stand there
abbrev pub StartsDiagnosis : DiagnoseValue → Option Contents → Option Contents → Result (Unit {0}) IoFault → Type 0
StartsDiagnosis value old new = Writes nothing_kept old new value.diagnosis head_text

-- the calls before a session: those of a `run`, and then the diagnosis is started
abbrev pub before_diagnosed : DiagnoseValue → List FileCall
before_diagnosed value = before_session value.session ++ starts_of value.diagnosis

-- The program was read, the two files of the session were started, and then the diagnosis couldn't be. Nothing was read, passed or run.
pub record HasNoDiagnosis (value : DiagnoseValue) (old new : Outside) (end : End) : Type 0 where
  pub image : Image
  pub program : HasImage old.files value.session.program (window_of value.session) image
  pub files_started : Option Contents
  pub starts : StartsFiles value.session old.files files_started (Ok tt)
  pub fault : IoFault
  pub answered : IsFilesAnswer fault end.answer
  pub diagnosis : StartsDiagnosis value files_started new.files (Err fault)
  pub called : CallsFront old.calls new.calls (before_diagnosed value)
  pub untouched : IsUntouched old new
  pub nothing : HasNoSession end

-- a copy of the episodes that were noted, unless it was given up
abbrev pub IsKept : Option NoteList → List Episode → Type 0
IsKept None episodes = Unit {0}
IsKept (Some list) episodes = list_episodes list ≡ episodes

-- What a session that was answered so in a `run` leaves behind the last lines of its files: at an end the rest of the diagnosis is added; where that fails,
-- the answer says it. Else the files are left as they are.
abbrev pub ClosesDiagnosis : DiagnoseValue → List Episode → List (List Try) → Option Contents → Option Contents → Answer → Answer → Type 0
ClosesDiagnosis value episodes tables files files_later ended end =
    (IsEnd ended × ((end ≡ ended) × Writes all_kept files files_later value.diagnosis (rest_text episodes tables (status_of ended)) (Ok tt)))
    ⊎ ((IsEnd ended × ((why : IoFault) × (IsFilesAnswer why end × Writes all_kept files files_later value.diagnosis (rest_text episodes tables (status_of ended)) (Err why))))
    ⊎ ((IsEnd ended → ⊥) × ((end ≡ ended) × (files_later ≡ files))))

-- the calls of that: all at an end, none where the session came to none
pub record IsClosing (value : DiagnoseValue) (ended end : Answer) (rest : List FileCall) : Type 0 where
  pub begins : Prefix rest (Added value.diagnosis ∷ [])
  pub whole : IsEnd end → rest ≡ Added value.diagnosis ∷ []
  pub none : (IsEnd ended → ⊥) → rest ≡ []

pub record CallsClosing (value : DiagnoseValue) (old new : Option (List FileCall)) (ended end : Answer) : Type 0 where
  pub rest : List FileCall
  pub is : IsClosing value ended end rest
  pub made : Calls old new rest

-- What the diagnosis has behind a session that was answered so in a `run`. At an end its whole text, by the episodes that were noted and the tables that were
-- told; or the rest of it couldn't be added, which the answer says, and a part of it may stand there. Else its first line alone.
abbrev pub HasText : List Episode → List (List Try) → Answer → Answer → List ℕ → Type 0
HasText episodes tables ended end text =
    (IsEnd ended × ((end ≡ ended) × (text ≡ diagnosis_text episodes tables (status_of ended))))
    ⊎ ((IsEnd ended × ((why : IoFault) × (IsFilesAnswer why end × ((count : ℕ) × (text ≡ head_text ++ take count (rest_text episodes tables (status_of ended)))))))
    ⊎ ((IsEnd ended → ⊥) × ((end ≡ ended) × (text ≡ head_text))))

-- where the files told what they have
abbrev pub HasDiagnosis : DiagnoseValue → List Episode → List (List Try) → Answer → Answer → Option Contents → Option Contents → Type 0
HasDiagnosis value episodes tables ended end None new = Unit {0}
HasDiagnosis value episodes tables ended end (Some old) None = ⊥
HasDiagnosis value episodes tables ended end (Some old) (Some new) = (text : List ℕ) × ((new value.diagnosis ≡ Some text) × HasText episodes tables ended end text)

-- All calls before the session were made, then some each of which adds to the record or to the report, then those that end both files, then the one that
-- adds the rest of the diagnosis, or some first ones of these three.
pub record CallsDiagnosed (value : DiagnoseValue) (old new : Option (List FileCall)) (stopped ended end : Answer) : Type 0 where
  pub added : List FileCall
  pub each : All (λ call. is_addition (names_of value.session) call ≡ true) added
  pub last : List FileCall
  pub is : IsEnding value.session stopped ended last
  pub rest : List FileCall
  pub closing : IsClosing value ended end rest
  pub made : Calls old new (before_diagnosed value ++ (added ++ (last ++ rest)))

-- A session served, and left what a `run` leaves: of an outside in which the diagnosis has what it had, and in which is counted what was not for its tables
-- alone. Each table is the whole one of its failure, and begins with the tries of its episode.
pub record HasDiagnosed (value : DiagnoseValue) (old new : Outside) (end : End) : Type 0 where
  pub beside : Outside
  pub ended : Answer
  pub served : HasServed value.session (trunk_of old beside) old beside (record end { answer = ended })
  pub stands : StandsBeside value.diagnosis old.files beside.files new.files
  pub same : new ≡ record beside { files = new.files; calls = new.calls; counter = new.counter }
  pub counted : beside.counter ≤ new.counter
  pub tables : List (List Try)
  pub are : AreAllTables (rules_of_run value.session) (story_of served.noted.serves.telling) served.noted.serves.telling.walk served.why tables
  pub begin : IsEnd ended → BeginWith served.noted.episodes tables
  pub answered : (end.answer ≡ ended) ⊎ (IsEnd ended × ((why : IoFault) × IsFilesAnswer why end.answer))
  pub diagnosis : HasDiagnosis value served.noted.episodes tables ended end.answer old.files new.files
  pub called : CallsDiagnosed value old.calls new.calls (answer_of served.why) ended end.answer

-- what `diagnose` leaves: no session began; or its diagnosis couldn't be started; or a session served
abbrev pub DiagnoseEnds : DiagnoseValue → Outside → Outside → End → Type 0
DiagnoseEnds value old new end = HasNotBegun value.session old new end ⊎ (HasNoDiagnosis value old new end ⊎ HasDiagnosed value old new end)
