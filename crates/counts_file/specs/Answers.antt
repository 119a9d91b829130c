-- What the calls answer.
use Rattle.std.specs.Prelude.{◌≡◌, ℕ, List, Some, Result, Ok, Err}
use Rattle.counts_file.specs.declared.counts.CountsRefusal.{CountsRefusal}
use Rattle.counts_file.specs.declared.counts.CountsRefusal.TheVariants.{Memory, Refused}
use Rattle.counts_file.specs.Counts.{IsReading}
use Rattle.counts_file.specs.Refusals.{refused_line}

-- at Ok a text's reading; a text that is refused has none, and its line is the first that isn't of its form
abbrev pub ReadsCounts : List ℕ → Result (List (ℕ × ℕ)) CountsRefusal → Type 0
ReadsCounts text (Ok counts) = IsReading text counts
ReadsCounts text (Err (Refused line)) = (refused_line text ≡ Some line) × ((counts : List (ℕ × ℕ)) → IsReading text counts → ⊥)
ReadsCounts text (Err Memory) = Unit {0}
