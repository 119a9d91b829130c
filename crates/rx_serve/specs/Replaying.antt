-- The command `replay`: a program and a record of it are loaded, and the recorded run is done again.
use Rattle.std.specs.Prelude.{◌≡◌, ◌⊎◌, ℕ, ◌+◌, ◌*◌, ◌^◌, List, Option, None, Some, Result, Ok, Err}
use Rattle.std.proofs.Common.{inl, inr}
use Rattle.replay.specs.Differing.{TellsDifference}
use Rattle.rx_serve.specs.Terms.{Calls, Contents, Image, IsImage, refusal, Answer, ElfRefused, FileFault, Memory, RecordRefused, TooLarge, Recorded, IsReading, refused_line, Difference, ReplaysTrunk, ReplayValue}
use Rattle.rx_serve.specs.Limits.{program_limit, record_limit}
use Rattle.rx_serve.specs.Loading.{HasFile, IsTooLarge}
use Rattle.rx_serve.specs.Calling.{replaying}
use Rattle.rx_serve.specs.Outside.{Outside, IsUntouched}

-- the file of a name is the text of this record
pub record HasRecord (told : Option Contents) (name : List ℕ) (recorded : Recorded) : Type 0 where
  pub text : List ℕ
  pub file : HasFile told name record_limit text
  pub is : IsReading text recorded

-- and here it is that of none: this line is the first one, from 1, that isn't of its form
pub record HasNoRecord (told : Option Contents) (name : List ℕ) (line : ℕ) : Type 0 where
  pub text : List ℕ
  pub file : HasFile told name record_limit text
  pub refused : refused_line text ≡ Some line
  pub none : (recorded : Recorded) → IsReading text recorded → ⊥

-- the record of a name, or why there is none
abbrev pub LoadsRecord : Option Contents → List ℕ → Result Recorded Answer → Type 0
LoadsRecord told name (Ok recorded) = HasRecord told name recorded
LoadsRecord told name (Err (RecordRefused line)) = HasNoRecord told name line
LoadsRecord told name (Err TooLarge) = IsTooLarge told name record_limit
LoadsRecord told name (Err FileFault) = Unit {0}
LoadsRecord told name (Err Memory) = Unit {0}
LoadsRecord told name (Err _) = ⊥

-- the bytes of a record's window
abbrev pub window_in : Recorded → ℕ
window_in recorded = recorded.window * 2 ^ 20

-- a program file was loaded, and behind it this holds
pub record IsBehindProgram (told : Option Contents) (value : ReplayValue) (P : List ℕ → Type 0) : Type 0 where
  pub program : List ℕ
  pub file : HasFile told value.program program_limit program
  pub behind : P program

-- the program file is refused in the window of its record, by the number of the first refusal that holds
pub record HasWindowRefusal (told : Option Contents) (name : List ℕ) (kind : ℕ) (program : List ℕ) : Type 0 where
  pub recorded : Recorded
  pub recording : HasRecord told name recorded
  pub refused : refusal program (window_in recorded) ≡ Some kind

-- Why no replay began, of the files as they are. The program is loaded first, then its record; the record is read first, then the image.
abbrev pub HasReplayCause : Option Contents → ReplayValue → Answer → Type 0
HasReplayCause told value TooLarge = IsTooLarge told value.program program_limit ⊎ IsBehindProgram told value (λ _. IsTooLarge told value.recording record_limit)
HasReplayCause told value (RecordRefused line) = IsBehindProgram told value (λ _. HasNoRecord told value.recording line)
HasReplayCause told value (ElfRefused kind) = IsBehindProgram told value (HasWindowRefusal told value.recording kind)
HasReplayCause told value FileFault = Unit {0}
HasReplayCause told value Memory = Unit {0}
HasReplayCause told value _ = ⊥

-- a program and a record of it were loaded, and this is the program's image in the record's window
pub record HasRecording (told : Option Contents) (value : ReplayValue) (image : Image) (recorded : Recorded) : Type 0 where
  pub program : List ℕ
  pub file : HasFile told value.program program_limit program
  pub recording : HasRecord told value.recording recorded
  pub is : IsImage program (window_in recorded) image

-- the image and the record, or why there is none of them
abbrev pub LoadsRecording : Option Contents → ReplayValue → Result (Image × Recorded) Answer → Type 0
LoadsRecording told value (Ok both) = HasRecording told value both.0 both.1
LoadsRecording told value (Err end) = HasReplayCause told value end

-- no replay began: a file can't be loaded or is refused, or memory ran out. Nothing was read, written or run
pub record HasNotReplayed (value : ReplayValue) (old new : Outside) (end : Answer) : Type 0 where
  pub cause : HasReplayCause old.files value end
  pub untouched : IsUntouched old new

-- the record was replayed over the trunk, with the image of the program in the record's window, and so many instructions were counted
pub record HasBeenReplayed (value : ReplayValue) (old new : Outside) (end : Answer) : Type 0 where
  pub image : Image
  pub recorded : Recorded
  pub loaded : HasRecording old.files value image recorded
  pub called : Calls old.calls new.calls (replaying value)
  pub counted : ℕ
  pub counts : new.counter ≡ old.counter + counted
  pub replays : ReplaysTrunk image recorded old.input new.input old.output new.output end counted

abbrev pub ReplaysFile : ReplayValue → Outside → Outside → Answer → Type 0
ReplaysFile value old new end = HasNotReplayed value old new end ⊎ HasBeenReplayed value old new end

-- what differs is there exactly at Mismatch of a replay that began, and then it is so of that replay
abbrev pub TellsFile : (value : ReplayValue) (old new : Outside) (end : Answer) → ReplaysFile value old new end → Option Difference → Type 0
TellsFile value old new end (inl none) found = found ≡ None
TellsFile value old new end (inr done) found = TellsDifference done.recorded done.replays.entries done.replays.replay end found

-- what is left of a replay, and what differs from the record
pub record ComparesFile (value : ReplayValue) (old new : Outside) (end : Answer) (found : Option Difference) : Type 0 where
  pub replays : ReplaysFile value old new end
  pub differs : TellsFile value old new end replays found
