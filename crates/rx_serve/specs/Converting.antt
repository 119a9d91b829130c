-- The command `convert`: a program and a record of it are loaded, the recorded run is done again, and then its record of version 2 is written.
use Rattle.std.specs.Prelude.{◌≡◌, ◌⊎◌, ℕ, ◌+◌, List, Option, None, Result, Ok, Err}
use Rattle.std.proofs.Common.{inl, inr}
use Rattle.rx_serve.specs.Terms.{Calls, Image, Answer, Recorded, Difference, ConvertsTrunk, TellsConverted, ConvertValue}
use Rattle.rx_serve.specs.Assembly.{Writes}
use Rattle.rx_serve.specs.Calling.{replayed, replaying}
use Rattle.rx_serve.specs.Outside.{Outside, IsUntouched}
use Rattle.rx_serve.specs.Replaying.{HasReplayCause, HasRecording}

-- no run began, by a cause that a replay has too: nothing was read or run, and no file was touched
pub record HasNotConverted (value : ConvertValue) (old new : Outside) (end : Answer) : Type 0 where
  pub cause : HasReplayCause old.files (replayed value) end
  pub same_files : new.files ≡ old.files
  pub untouched : IsUntouched old new

-- What is left of a run that has a text: the text stands under its name, or after a fault or want of memory a first part of it, or what stood there
-- before. Of a run that has none, by an answer of its own: every file as it was, and the two that are loaded were called alone.
abbrev pub LeavesText : ConvertValue → Outside → Outside → Result (List ℕ) Answer → Answer → Type 0
LeavesText value old new (Ok text) end = Writes old.files new.files value.out text end
LeavesText value old new (Err why) end = (end ≡ why) × ((new.files ≡ old.files) × Calls old.calls new.calls (replaying (replayed value)))

-- the recorded run was done over the input, with the image of the program in the record's window, and so many instructions were counted
pub record HasBeenConverted (value : ConvertValue) (old new : Outside) (end : Answer) : Type 0 where
  pub image : Image
  pub recorded : Recorded
  pub loaded : HasRecording old.files (replayed value) image recorded
  pub counted : ℕ
  pub counts : new.counter ≡ old.counter + counted
  pub text : Result (List ℕ) Answer
  pub converts : ConvertsTrunk image recorded old.input new.input text counted
  pub leaves : LeavesText value old new text end

abbrev pub ConvertsFile : ConvertValue → Outside → Outside → Answer → Type 0
ConvertsFile value old new end = HasNotConverted value old new end ⊎ HasBeenConverted value old new end

-- what differs is there exactly where a run that was done comes to Mismatch, and then it is so of that run
abbrev pub TellsConversion : (value : ConvertValue) (old new : Outside) (end : Answer) → ConvertsFile value old new end → Option Difference → Type 0
TellsConversion value old new end (inl none) found = found ≡ None
TellsConversion value old new end (inr done) found = TellsConverted done.image done.recorded old.input new.input done.text done.counted done.converts found

-- what is left of a conversion, and what differs from the record
pub record ComparesConversion (value : ConvertValue) (old new : Outside) (end : Answer) (found : Option Difference) : Type 0 where
  pub converts : ConvertsFile value old new end
  pub differs : TellsConversion value old new end converts found
