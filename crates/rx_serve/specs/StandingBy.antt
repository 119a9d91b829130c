-- The command `standby`: a recorded run is followed, clients get what they miss, and the run goes on with a record of its own.
use Rattle.std.specs.Prelude.{◌≡◌, ◌⊎◌, ℕ, ◌+◌, ◌<◌, ◌≤◌, List, [], ◌∷◌, ◌++◌, length, Option, None, Result, Ok, Err}
use Rattle.file_notes.specs.Writing as files
use Rattle.run_history.specs.declared.answer.Answer.TheVariants as answer
use Rattle.rx_serve.specs.Terms.{IoFault, Stream, Prefix, Send, sent_to, FileCall, Added, Calls, Contents, Entry, Choice, Image, Answer, IsEnd, Recorded, VERSION, choice_lines, end_line, head_line, record_of, text_of, count_of, CallsFront, starts_of, BreaksOffTrunk, FollowsTrunk, ServesOnTrunk, StandbyValue}
use Rattle.rx_serve.specs.declared.ending.End.{End}
use Rattle.rx_serve.specs.Ended.{HasNoSession}
use Rattle.rx_serve.specs.Noting.{IsFilesAnswer}
use Rattle.rx_serve.specs.Outside.{IsUntouched, Outside}
use Rattle.rx_serve.specs.StandbyFiles.{AreTexts, HasTakeoverCause, IsOfTexts, loading}

-- ---- the record that is written

-- it is started with its first line, whatever it had; after a fault or want of memory, partly
abbrev pub StartsRecording : StandbyValue → Recorded → Option Contents → Option Contents → Result (Unit {0}) IoFault → Type 0
StartsRecording value recorded old new = files.Writes files.nothing_kept old new value.recording (head_line VERSION recorded.window recorded.frame)

-- a line of each answer of the allocator and the last line are added
abbrev pub EndsRecording : StandbyValue → List Choice → ℕ → ℕ → Option Contents → Option Contents → Result (Unit {0}) IoFault → Type 0
EndsRecording value choices steps taken old new = files.Writes files.all_kept old new value.recording (choice_lines choices ++ end_line steps taken)

-- it has the text of version 2 of a run with these answers of the allocator, so many instructions and items, whatever it had; no other file changed
abbrev pub HasRecorded : StandbyValue → Recorded → List Choice → ℕ → ℕ → Option Contents → Option Contents → Type 0
HasRecorded value recorded choices steps taken old new =
    files.Writes files.nothing_kept old new value.recording (text_of (record_of recorded.window recorded.frame choices steps taken)) (Ok tt)

-- What is left behind its first line by a run that was served on to the first of these answers, where the second was answered. At an end the rest was
-- added; where that failed, the answer says it in place of the end. At a fault nothing was added.
abbrev pub ClosesRecording : StandbyValue → List Choice → ℕ → ℕ → Option Contents → Option Contents → Answer → Answer → Type 0
ClosesRecording value choices steps taken old new ended end =
    (IsEnd ended × ((end ≡ ended) × EndsRecording value choices steps taken old new (Ok tt)))
    ⊎ ((IsEnd ended × ((why : IoFault) × (IsFilesAnswer why end × EndsRecording value choices steps taken old new (Err why))))
    ⊎ ((IsEnd ended → ⊥) × ((end ≡ ended) × (new ≡ old))))

-- some first ones of the calls that end it: the one there is at an end, and none where the run came to none
pub record CallsRecording (value : StandbyValue) (old new : Option (List FileCall)) (ended end : Answer) : Type 0 where
  pub last : List FileCall
  pub begins : Prefix last (Added value.recording ∷ [])
  pub whole : IsEnd end → last ≡ Added value.recording ∷ []
  pub none : (IsEnd ended → ⊥) → last ≡ []
  pub made : Calls old new last

-- at an end each answer of the allocator stands in it, else none
abbrev pub TellsChoices : List Choice → End → Type 0
TellsChoices choices end = (IsEnd end.answer × (end.recorded ≡ length choices) × (end.tail ≡ [])) ⊎ ((IsEnd end.answer → ⊥) × (end.recorded ≡ 0) × (end.tail ≡ choices))

-- ---- what clients have

-- no client has more by its count than was sent to it
abbrev pub AreCovered : List (ℕ × ℕ) → List Send → Type 0
AreCovered counts sends = (conn : ℕ) → count_of counts conn ≤ length (sent_to conn sends)

-- this is the least connection whose client has more
abbrev pub IsFirstShort : List (ℕ × ℕ) → List Send → ℕ → Type 0
IsFirstShort counts sends conn = (length (sent_to conn sends) < count_of counts conn) × ((other : ℕ) → other < conn → count_of counts other ≤ length (sent_to other sends))

-- ---- what is left

-- The recorded run was followed, and that broke off. So many instructions were counted, and no file was called.
pub record IsBrokenOff (image : Image) (recorded : Recorded) (old new : Outside) (end : End) : Type 0 where
  pub counted : ℕ
  pub counts : new.counter ≡ old.counter + counted
  pub breaks : BreaksOffTrunk image recorded old.input new.input old.output new.output end.answer end.difference counted
  pub same_files : new.files ≡ old.files
  pub same_calls : new.calls ≡ old.calls
  pub nothing : HasNoSession end

-- It was followed to the record's end, and nothing was served: a client has more than the run sent to it, and no file was called; or the record that is
-- written couldn't be started.
pub record IsNotServed (value : StandbyValue) (image : Image) (recorded : Recorded) (counts : List (ℕ × ℕ)) (old new : Outside) (end : End) : Type 0 where
  pub counted : new.counter ≡ old.counter + recorded.steps
  pub entries : List Entry
  pub sends : List Send
  pub follows : FollowsTrunk image recorded old.input new.input old.output new.output entries sends
  pub stops :
      ((conn : ℕ) × (end.answer ≡ answer.Short conn) × IsFirstShort counts sends conn × (new.files ≡ old.files) × (new.calls ≡ old.calls))
      ⊎ ((why : IoFault) × IsFilesAnswer why end.answer × AreCovered counts sends × StartsRecording value recorded old.files new.files (Err why) × CallsFront old.calls new.calls (starts_of value.recording))
  pub nothing : HasNoSession end
  pub differs : end.difference ≡ None

-- It was followed to the record's end, the record that is written was started, and the run was served on to an answer: one account of all of it, whose
-- first entries are those of the run that was followed. At an end that record is whole.
pub record IsServedOn (value : StandbyValue) (image : Image) (recorded : Recorded) (counts : List (ℕ × ℕ)) (old new : Outside) (end : End) : Type 0 where
  pub counted : new.counter ≡ old.counter + end.steps
  pub entries : List Entry
  pub sends : List Send
  pub input_followed : Option Stream
  pub output_followed : Option (List ℕ)
  pub follows : FollowsTrunk image recorded old.input input_followed old.output output_followed entries sends
  pub covered : AreCovered counts sends
  pub files_started : Option Contents
  pub starts : StartsRecording value recorded old.files files_started (Ok tt)
  pub ended : Answer
  pub choices : List Choice
  pub serves : ServesOnTrunk image recorded value.budget counts entries old.input new.input old.output new.output ended choices end.steps end.taken
  pub told : TellsChoices choices end
  pub closes : ClosesRecording value choices end.steps end.taken files_started new.files ended end.answer
  pub text : IsEnd end.answer → HasRecorded value recorded choices end.steps end.taken old.files new.files
  pub calls_started : Option (List FileCall)
  pub started : Calls old.calls calls_started (starts_of value.recording)
  pub closing : CallsRecording value calls_started new.calls ended end.answer
  pub differs : end.difference ≡ None

abbrev pub TakesOver : StandbyValue → Image → Recorded → List (ℕ × ℕ) → Outside → Outside → End → Type 0
TakesOver value image recorded counts old new end =
    IsBrokenOff image recorded old new end ⊎ (IsNotServed value image recorded counts old new end ⊎ IsServedOn value image recorded counts old new end)

-- Nothing was taken over: a file can't be loaded or is refused, or memory ran out. Nothing was read from the input, written or run.
pub record HasNotTakenOver (value : StandbyValue) (old new : Outside) (end : End) : Type 0 where
  pub cause : HasTakeoverCause old.files value end.answer
  pub same_files : new.files ≡ old.files
  pub called : CallsFront old.calls new.calls (loading value)
  pub untouched : IsUntouched old new
  pub nothing : HasNoSession end
  pub differs : end.difference ≡ None

-- The three files were loaded and read, and then a run was taken over, or not.
pub record HasTakenUp (value : StandbyValue) (old new : Outside) (end : End) : Type 0 where
  pub image : Image
  pub recorded : Recorded
  pub counts : List (ℕ × ℕ)
  pub loaded : IsOfTexts old.files value (λ texts. AreTexts texts image recorded counts)
  pub calls_loaded : Option (List FileCall)
  pub called : Calls old.calls calls_loaded (loading value)
  pub takes : TakesOver value image recorded counts (record old { calls = calls_loaded }) new end

-- what `standby` leaves
abbrev pub StandbyEnds : StandbyValue → Outside → Outside → End → Type 0
StandbyEnds value old new end = HasNotTakenOver value old new end ⊎ HasTakenUp value old new end
