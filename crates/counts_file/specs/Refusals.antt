-- At which line a text is refused.
use Rattle.std.specs.Prelude.{ℕ, ◌+◌, List, [], ◌∷◌, Option, Some, None, is_some, if◌then◌else◌}
use Rattle.text_lines.specs.Lines.{lines_of}
use Rattle.counts_file.specs.Telling.{count_told, count_in}

-- some lines from a number on, whose connections begin at this one or above it, and rise
abbrev pub refused_from : ℕ → ℕ → List (List ℕ) → Option ℕ
refused_from number least [] = None
refused_from number least (line ∷ lines) = if is_some (count_in least line) then refused_from (number + 1) ((count_told line).0 + 1) lines else Some number

-- the first line, from 1, that isn't of its form, if there is one
abbrev pub refused_line : List ℕ → Option ℕ
refused_line text = refused_from 1 0 (lines_of text)
