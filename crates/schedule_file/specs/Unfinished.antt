-- The text that a session leaves which is killed: its last line may be missing, and behind the others may stand a torn line.
use Rattle.std.specs.Prelude.{◌≡◌, ◌^◌, ◌<◌, ◌≤◌, List, ℕ, [], ◌++◌, All, Option, None, Some, IfSome}
use Rattle.schedule_file.specs.Terms.{MAX_ITEMS, IsTorn, Finish, Line, Recorded, MAX_WINDOW, VERSION, Unfinished}
use Rattle.schedule_file.specs.Lines.{head_line, lines_text, end_line}
use Rattle.schedule_file.specs.Records.{IsAnswer}

-- the numbers of a last line are in their ranges
abbrev pub IsFinish : Finish → Type 0
IsFinish finish = (finish.steps < 2 ^ 63) × (finish.taken ≤ MAX_ITEMS)

-- the numbers are in their ranges, as those of a record
pub record IsUnfinished (value : Unfinished) : Type 0 where
  pub some_version : 1 ≤ value.version
  pub version : value.version ≤ VERSION
  pub some_window : 1 ≤ value.window
  pub window : value.window ≤ MAX_WINDOW
  pub lines : All (IsAnswer value.version) value.lines
  pub finish : IfSome value.finish IsFinish

-- the last line, where it is there
abbrev pub finish_text : Option Finish → List ℕ
finish_text None = []
finish_text (Some finish) = end_line finish.steps finish.taken

-- the whole lines, and some bytes behind them
abbrev pub text_before : Unfinished → List ℕ → List ℕ
text_before value torn = head_line value.version value.window value.frame ++ (lines_text value.lines ++ (finish_text value.finish ++ torn))

-- the bytes behind them are a torn line, of which nothing may be there; behind the last line nothing is
abbrev pub IsTornBehind : Option Finish → List ℕ → Type 0
IsTornBehind None torn = IsTorn torn
IsTornBehind (Some finish) torn = torn ≡ []

-- a text is that of an unfinished record whose numbers are in their ranges
pub record IsUnfinishedReading (text : List ℕ) (value : Unfinished) : Type 0 where
  pub is : IsUnfinished value
  pub torn : List ℕ
  pub is_torn : IsTornBehind value.finish torn
  pub text_is : text_before value torn ≡ text

-- a record, as one whose last line is there
abbrev pub finish_of : Recorded → Finish
finish_of value = record { steps = value.steps; taken = value.taken }

abbrev pub unfinished_of : Recorded → Unfinished
unfinished_of value = record { version = value.version; window = value.window; frame = value.frame; lines = value.lines; finish = Some (finish_of value) }

-- what is read of a record's text of which these bytes were cut off: the answers in front, and the last line only where none were
pub record IsCutOf (value : Recorded) (rest : List ℕ) (read : Unfinished) : Type 0 where
  pub version : read.version ≡ value.version
  pub window : read.window ≡ value.window
  pub frame : read.frame ≡ value.frame
  pub more : List Line
  pub lines : read.lines ++ more ≡ value.lines
  pub ended : IfSome read.finish (λ found. (found ≡ finish_of value) × (rest ≡ []))
