-- What the parts of the code answer. Nothing here is promised to callers of the crate.
use Rattle.std.specs.Prelude.{◌≡◌, ℕ, List, ◌++◌, All, Option, None}
use Rattle.schedule_file.specs.Terms.{first_line, Finish, Head, Line, Unfinished}
use Rattle.schedule_file.specs.declared.writing.LineBytes.{LineBytes}
use Rattle.schedule_file.specs.declared.writing.LineBytes.TheVariants.{Alone, One, Three, Two}
use Rattle.schedule_file.specs.Lines.{lines_text}
use Rattle.schedule_file.specs.Records.{IsAnswer}
use Rattle.schedule_file.specs.Telling.{answer_of}

-- the bytes of a line, by how many numbers stand behind its front
abbrev pub bytes_of : LineBytes → List ℕ
bytes_of (Alone bytes) = bytes
bytes_of (One bytes) = bytes
bytes_of (Two bytes) = bytes
bytes_of (Three bytes) = bytes

-- a text is the lines of some answers in a version and what stands behind them
pub record IsBehind (version : ℕ) (text : List ℕ) (lines : List Line) (rest : List ℕ) : Type 0 where
  pub whole : lines_text lines ++ rest ≡ text
  pub are_answers : All (IsAnswer version) lines

-- and that doesn't begin with the line of an answer
pub record AreAllLines (version : ℕ) (text : List ℕ) (lines : List Line) (rest : List ℕ) : Type 0 where
  pub behind : IsBehind version text lines rest
  pub no_more : answer_of version (first_line rest) ≡ None

abbrev pub unfinished_with : Head → List Line → Option Finish → Unfinished
unfinished_with head lines finish = record { version = head.version; window = head.window; frame = head.frame; lines = lines; finish = finish }
