-- Which values counts may have, what a reading of a text is, and what a connection has.
use Rattle.std.specs.Prelude.{◌≡◌, ℕ, ◌^◌, ◌<◌, List, [], ◌∷◌, All, AllPairs, if◌then◌else◌, ◌==◌}
use Rattle.rx_base.specs.declared.item.TheConstants.{CONNECTIONS}
use Rattle.counts_file.specs.Lines.{text_of}

-- the numbers of a line are in their ranges
abbrev pub IsCount : ℕ × ℕ → Type 0
IsCount line = (line.0 < CONNECTIONS) × (line.1 < 2 ^ 63)

-- one line's connection is below another's
abbrev pub IsBelow : ℕ × ℕ → ℕ × ℕ → Type 0
IsBelow line later = line.0 < later.0

-- the lines are in range, and each connection is below all later ones
pub record AreCounts (counts : List (ℕ × ℕ)) : Type 0 where
  pub in_range : All IsCount counts
  pub rising : AllPairs IsBelow counts

-- a text is that of counts that are in range and rise
abbrev pub IsReading : List ℕ → List (ℕ × ℕ) → Type 0
IsReading text counts = AreCounts counts × (text_of counts ≡ text)

-- what a connection has: the count of its line, 0 where it has none
abbrev pub count_of : List (ℕ × ℕ) → ℕ → ℕ
count_of [] conn = 0
count_of (line ∷ lines) conn = if line.0 == conn then line.1 else count_of lines conn
