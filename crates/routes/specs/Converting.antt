-- What a conversion over a source leaves: what a replay does that gives nothing, and the text of its run.
use Rattle.std.specs.Prelude.{◌≡◌, ◌≤◌, ℕ, List, Option, None, Result, Ok, Err, IsErrOf}
use Rattle.run_history.specs.declared.answer.Answer.TheVariants as answer
use Rattle.routes.specs.Terms.{Rose, Stream, Choice, Image, Answer, Recorded, record_of, text_of, Difference, HasDifference}
use Rattle.routes.specs.Replaying.{ReplaysTrunk}

-- the text in version 2 of a record whose run used these answers of the allocator
abbrev pub converted : Recorded → List Choice → List ℕ
converted recorded choices = text_of (record_of recorded.window recorded.frame choices recorded.steps recorded.taken)

-- a replay that gave nothing came to the record's end, and the text is that of its run
pub record ConvertsWhole (image : Image) (recorded : Recorded) (source source_later : Option Stream) (text : List ℕ) (counted : ℕ) : Type 0 where
  pub replayed : ReplaysTrunk image recorded source source_later None None answer.Finished counted
  pub text_is : text ≡ converted recorded replayed.replay.choices

-- The text of its run; or what a replay leaves at each other answer that it has, where it gives nothing. At want of memory it may have come to the
-- record's end.
abbrev pub ConvertsTrunk : Image → Recorded → Option Stream → Option Stream → Result (List ℕ) Answer → ℕ → Type 0
ConvertsTrunk image recorded source source_later (Ok text) counted = ConvertsWhole image recorded source source_later text counted
ConvertsTrunk image recorded source source_later (Err answer.Finished) counted = ⊥
ConvertsTrunk image recorded source source_later (Err answer.WriteFault) counted = ⊥
ConvertsTrunk image recorded source source_later (Err end) counted = ReplaysTrunk image recorded source source_later None None end counted

-- what differs is there exactly where the run comes to Mismatch, and then it is so of that run
abbrev pub TellsConverted : (image : Image) (recorded : Recorded) (source source_later : Option Stream) (result : Result (List ℕ) Answer) (counted : ℕ) → ConvertsTrunk image recorded source source_later result counted → Option Difference → Type 0
TellsConverted image recorded source source_later (Err (answer.Mismatch step)) counted converts found = HasDifference recorded converts.entries converts.replay found
TellsConverted image recorded source source_later _ counted converts found = found ≡ None

-- what a conversion leaves, and what differs from the record
pub record ComparesConverted (image : Image) (recorded : Recorded) (source source_later : Option Stream) (result : Result (List ℕ) Answer) (found : Option Difference) (counted : ℕ) : Type 0 where
  pub converts : ConvertsTrunk image recorded source source_later result counted
  pub differs : TellsConverted image recorded source source_later result counted converts found

-- no count of failed calls of the source falls, and a fault of it is answered only where its own rose
abbrev pub HasConvertCause : ℕ → ℕ → Result (List ℕ) Answer → Type 0
HasConvertCause before now result = (before ≤ now) × (IsErrOf result answer.ReadFault → Rose before now)

-- what a conversion answers, by what its replay came to, and the answers of the allocator that the replay used
abbrev pub Concludes : Recorded → Answer → List Choice → Result (List ℕ) Answer → Type 0
Concludes recorded answer.Finished choices (Ok text) = text ≡ converted recorded choices
Concludes recorded answer.Finished choices (Err end) = end ≡ answer.Memory
Concludes recorded came choices result = result ≡ Err came
