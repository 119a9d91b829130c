-- What the parts of the code answer. Nothing here is promised to callers of the crate.
use Rattle.std.specs.Prelude.{◌≡◌, ℕ, ◌+◌, ◌≤◌, List, [], ◌∷◌, ◌++◌, length, None}
use Rattle.text_lines.specs.Lines.{first_line}
use Rattle.rx_base.specs.declared.item.TheConstants.{CONNECTIONS}
use Rattle.counts_file.specs.Counts.{IsCount}
use Rattle.counts_file.specs.Lines.{text_of}
use Rattle.counts_file.specs.Telling.{count_in}

-- lines that are in range, of connections that begin at this one or above it, and rise
abbrev pub AreFrom : ℕ → List (ℕ × ℕ) → Type 0
AreFrom least [] = Unit {0}
AreFrom least (line ∷ lines) = (least ≤ line.0) × (IsCount line × AreFrom (line.0 + 1) lines)

-- the least connection that a line behind these may have
abbrev pub next_from : ℕ → List (ℕ × ℕ) → ℕ
next_from least [] = least
next_from least (line ∷ lines) = next_from (line.0 + 1) lines

-- a text is the lines of some counts and what stands behind them
pub record IsBehind (text : List ℕ) (counts : List (ℕ × ℕ)) (rest : List ℕ) : Type 0 where
  pub whole : text_of counts ++ rest ≡ text
  pub are : AreFrom 0 counts
  pub few : length counts ≤ next_from 0 counts
  pub small : next_from 0 counts ≤ CONNECTIONS

-- and that doesn't begin with a line that may stand behind them
pub record AreAllLines (text : List ℕ) (counts : List (ℕ × ℕ)) (rest : List ℕ) : Type 0 where
  pub behind : IsBehind text counts rest
  pub no_more : count_in (next_from 0 counts) (first_line rest) ≡ None
