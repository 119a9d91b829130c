-- What holds of every record and its text.
use Rattle.std.specs.Prelude.{◌≡◌, ℕ, ◌^◌, ◌<◌, ◌≤◌, true, None, Some, List, ◌++◌, All, length}
use Rattle.schedule_file.specs.Terms.{MAX_ITEMS, Choice, Framing, Finish, Head, Line, Recorded, MAX_WINDOW, VERSION, Unfinished}
use Rattle.schedule_file.specs.Lines.{head_line, line_text, end_line, choice_lines}
use Rattle.schedule_file.specs.Records.{IsAnswer, IsChoice, IsRecord, IsReading, text_of, record_of}
use Rattle.schedule_file.specs.Telling.{is_head, head_of, answer_of, is_end, end_of}
use Rattle.schedule_file.specs.Refusals.{is_line, refused_line, unfinished_line}
use Rattle.schedule_file.specs.Unfinished.{IsCutOf, IsUnfinishedReading, unfinished_of}

-- two records with the same text are the same
abbrev pub OneReading : Type 0
OneReading = (a b : Recorded) → IsRecord a → IsRecord b → text_of a ≡ text_of b → a ≡ b

-- a text has a reading exactly where no line of it is refused
abbrev pub ReadUnlessRefused : Type 0
ReadUnlessRefused =
    (text : List ℕ) →
    ((value : Recorded) → IsReading text value → refused_line text ≡ None)
    × (refused_line text ≡ None → (value : Recorded) × IsReading text value)

-- the text of more answers is the same text with their lines before the last one, so a text may be written piece by piece
abbrev pub WrittenInPieces : Type 0
WrittenInPieces =
    (window : ℕ) (frame : Framing) (choices more : List Choice) (steps taken : ℕ) →
    text_of (record_of window frame (choices ++ more) steps taken) ≡ head_line VERSION window frame ++ choice_lines choices ++ choice_lines more ++ end_line steps taken

-- what is written of some answers is read as their record
abbrev pub WrittenIsRead : Type 0
WrittenIsRead =
    (window : ℕ) (frame : Framing) (choices : List Choice) (steps taken : ℕ) →
    1 ≤ window → window ≤ MAX_WINDOW → All IsChoice choices → steps < 2 ^ 63 → taken ≤ MAX_ITEMS →
    IsReading (head_line VERSION window frame ++ (choice_lines choices ++ end_line steps taken)) (record_of window frame choices steps taken)

-- each line that is written ends with a line feed, and holds no other one
abbrev pub LinesAreLines : Type 0
LinesAreLines =
    ((version window : ℕ) (frame : Framing) → version < 2 ^ 64 → window < 2 ^ 64 → is_line (head_line version window frame) ≡ true)
    × ((line : Line) → is_line (line_text line) ≡ true)
    × ((steps taken : ℕ) → steps < 2 ^ 64 → taken < 2 ^ 64 → is_line (end_line steps taken) ≡ true)

-- a line is read as a value exactly where the value is in range and the line is what is written of it
abbrev pub ReadAsWritten : Type 0
ReadAsWritten =
    ((line : List ℕ) (head : Head) → head_of line ≡ Some head → (is_head head ≡ true) × (head_line head.version head.window head.frame ≡ line))
    × ((head : Head) → is_head head ≡ true → head_of (head_line head.version head.window head.frame) ≡ Some head)
    × ((version : ℕ) (line : List ℕ) (answer : Line) → answer_of version line ≡ Some answer → IsAnswer version answer × (line_text answer ≡ line))
    × ((version : ℕ) (answer : Line) → IsAnswer version answer → answer_of version (line_text answer) ≡ Some answer)
    × ((line : List ℕ) (finish : Finish) → end_of line ≡ Some finish → (is_end finish ≡ true) × (end_line finish.steps finish.taken ≡ line))
    × ((finish : Finish) → is_end finish ≡ true → end_of (end_line finish.steps finish.taken) ≡ Some finish)

-- ---- of a record that may lack its last line

-- two readings of one text are the same
abbrev pub OneUnfinished : Type 0
OneUnfinished = (text : List ℕ) (a b : Unfinished) → IsUnfinishedReading text a → IsUnfinishedReading text b → a ≡ b

-- a text has a reading exactly where no line of it is refused
abbrev pub UnfinishedUnlessRefused : Type 0
UnfinishedUnlessRefused =
    (text : List ℕ) →
    ((value : Unfinished) → IsUnfinishedReading text value → unfinished_line text ≡ None)
    × (unfinished_line text ≡ None → (value : Unfinished) × IsUnfinishedReading text value)

-- a text is a record's exactly where its reading has a last line, and then it has the record's values
abbrev pub FinishedIsRecord : Type 0
FinishedIsRecord =
    (text : List ℕ) (value : Recorded) → (IsReading text value → IsUnfinishedReading text (unfinished_of value)) × (IsUnfinishedReading text (unfinished_of value) → IsReading text value)

-- at which line a text is refused that may lack its last line, there it is refused as a record's too
abbrev pub RefusedAsRecord : Type 0
RefusedAsRecord = (text : List ℕ) (line : ℕ) → unfinished_line text ≡ Some line → refused_line text ≡ Some line

-- a record's text that is cut off behind its first line is read, and by OneUnfinished as nothing else
abbrev pub CutIsRead : Type 0
CutIsRead =
    (value : Recorded) (front rest : List ℕ) →
    IsRecord value → front ++ rest ≡ text_of value → length (head_line value.version value.window value.frame) ≤ length front →
    (read : Unfinished) × (IsUnfinishedReading front read × IsCutOf value rest read)
