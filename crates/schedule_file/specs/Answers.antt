-- What the calls answer.
use Rattle.std.specs.Prelude.{◌≡◌, ℕ, List, Some, Result, Ok, Err}
pub use Rattle.text_lines.specs.Written.{Writes}
use Rattle.schedule_file.specs.Terms.{RecordRefusal, Memory, Refused, Recorded, Unfinished}
use Rattle.schedule_file.specs.Records.{IsReading}
use Rattle.schedule_file.specs.Refusals.{refused_line, unfinished_line}
use Rattle.schedule_file.specs.Unfinished.{IsUnfinishedReading}

-- at Ok a text's reading; a text that is refused has none, and its line is the first that isn't of its form
abbrev pub ReadsRecord : List ℕ → Result Recorded RecordRefusal → Type 0
ReadsRecord text (Ok value) = IsReading text value
ReadsRecord text (Err (Refused line)) = (refused_line text ≡ Some line) × ((value : Recorded) → IsReading text value → ⊥)
ReadsRecord text (Err Memory) = Unit {0}

-- the same of a text that may lack its last line: it is refused at the first line that isn't in its place
abbrev pub ReadsUnfinished : List ℕ → Result Unfinished RecordRefusal → Type 0
ReadsUnfinished text (Ok value) = IsUnfinishedReading text value
ReadsUnfinished text (Err (Refused line)) = (unfinished_line text ≡ Some line) × ((value : Unfinished) → IsUnfinishedReading text value → ⊥)
ReadsUnfinished text (Err Memory) = Unit {0}
