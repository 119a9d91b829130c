-- At which line a text is refused.
use Rattle.std.specs.Prelude.{ℕ, ◌+◌, List, [], ◌∷◌, Option, Some, None, is_some, if◌then◌else◌}
pub use Rattle.text_lines.specs.Lines.{is_line, lines_of, onto}
use Rattle.schedule_file.specs.Terms.{Head}
use Rattle.schedule_file.specs.Telling.{head_of, answer_of, end_of}

-- behind the last line nothing follows
abbrev pub refused_behind : ℕ → List (List ℕ) → Option ℕ
refused_behind number [] = None
refused_behind number (line ∷ lines) = Some number

-- the last line. Where it is missing, its number is refused
abbrev pub refused_last : ℕ → List (List ℕ) → Option ℕ
refused_last number [] = Some number
refused_last number (line ∷ lines) = if is_some (end_of line) then refused_behind (number + 1) lines else Some number

-- the last line, or a torn one, or none
abbrev pub unfinished_last : ℕ → List (List ℕ) → Option ℕ
unfinished_last number [] = None
unfinished_last number (line ∷ lines) = if is_some (end_of line) then refused_behind (number + 1) lines else if is_line line then Some number else None

-- the lines behind the first one, from a number on: those of answers in a version, and behind them what is judged so
abbrev pub judged_from : (ℕ → List (List ℕ) → Option ℕ) → ℕ → ℕ → List (List ℕ) → Option ℕ
judged_from judge version number [] = judge number []
judged_from judge version number (line ∷ lines) = if is_some (answer_of version line) then judged_from judge version (number + 1) lines else judge number (line ∷ lines)

-- those behind what the first line is read as, which tells the version
abbrev pub judged_under : (ℕ → List (List ℕ) → Option ℕ) → Option Head → List (List ℕ) → Option ℕ
judged_under judge None lines = Some 1
judged_under judge (Some head) lines = judged_from judge head.version 2 lines

abbrev pub judged_lines : (ℕ → List (List ℕ) → Option ℕ) → List (List ℕ) → Option ℕ
judged_lines judge [] = Some 1
judged_lines judge (line ∷ lines) = judged_under judge (head_of line) lines

-- ---- of a record

abbrev pub refused_from : ℕ → ℕ → List (List ℕ) → Option ℕ
refused_from version number lines = judged_from refused_last version number lines

abbrev pub refused_under : Option Head → List (List ℕ) → Option ℕ
refused_under head lines = judged_under refused_last head lines

abbrev pub refused_lines : List (List ℕ) → Option ℕ
refused_lines lines = judged_lines refused_last lines

-- the first line, from 1, that isn't of its form, if there is one
abbrev pub refused_line : List ℕ → Option ℕ
refused_line text = refused_lines (lines_of text)

-- ---- of a record that may lack its last line

-- the first line, from 1, that isn't in its place, if there is one
abbrev pub unfinished_line : List ℕ → Option ℕ
unfinished_line text = judged_lines unfinished_last (lines_of text)
