-- The text of counts, one spelling for each. Every line ends with a line feed.
use Rattle.std.specs.Prelude.{ℕ, List, [], ◌∷◌, ◌++◌, codes, flat_map}
use Rattle.std.specs.Fmt.{decimal}

-- the line of a connection: `CONN COUNT`. A decimal number has no leading zeros
unfoldable pub count_line : ℕ → ℕ → List ℕ
count_line conn count = decimal conn ++ (codes " " ++ (decimal count ++ 10 ∷ []))

abbrev pub written_count : ℕ × ℕ → List ℕ
written_count line = count_line line.0 line.1

-- one line for each connection
abbrev pub text_of : List (ℕ × ℕ) → List ℕ
text_of counts = flat_map written_count counts
