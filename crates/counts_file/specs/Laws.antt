-- What holds of all counts and their texts.
use Rattle.std.specs.Prelude.{◌≡◌, ℕ, ◌≤◌, true, List, All, Contains, None, Some, ◌≢◌}
use Rattle.text_lines.specs.Lines.{is_line}
use Rattle.counts_file.specs.Counts.{AreCounts, IsCount, IsReading, count_of}
use Rattle.counts_file.specs.Lines.{written_count}
use Rattle.counts_file.specs.Refusals.{refused_line}
use Rattle.counts_file.specs.Telling.{count_in}

-- a text has one reading at most
abbrev pub OneReading : Type 0
OneReading = (text : List ℕ) (a b : List (ℕ × ℕ)) → IsReading text a → IsReading text b → a ≡ b

-- a text has a reading exactly where no line of it is refused
abbrev pub ReadUnlessRefused : Type 0
ReadUnlessRefused =
    (text : List ℕ) →
    ((counts : List (ℕ × ℕ)) → IsReading text counts → refused_line text ≡ None)
    × (refused_line text ≡ None → (counts : List (ℕ × ℕ)) × IsReading text counts)

-- a line is read as a connection from a least one on and its count exactly where both are in range and it is what is written of them
abbrev pub ReadAsWritten : Type 0
ReadAsWritten =
    ((least : ℕ) (text : List ℕ) (line : ℕ × ℕ) → count_in least text ≡ Some line → (least ≤ line.0) × IsCount line × (written_count line ≡ text))
    × ((least : ℕ) (line : ℕ × ℕ) → least ≤ line.0 → IsCount line → count_in least (written_count line) ≡ Some line)

-- each line that is written ends with a line feed, and holds no other one
abbrev pub LinesAreLines : Type 0
LinesAreLines = (line : ℕ × ℕ) → IsCount line → is_line (written_count line) ≡ true

-- the count of a connection is the one on its line, and 0 where it has none
abbrev pub IsOnTheLine : Type 0
IsOnTheLine =
    (counts : List (ℕ × ℕ)) → AreCounts counts →
    ((line : ℕ × ℕ) → Contains counts line → count_of counts line.0 ≡ line.1)
    × ((conn : ℕ) → All (λ line. line.0 ≢ conn) counts → count_of counts conn ≡ 0)
