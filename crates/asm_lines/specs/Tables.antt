-- Tables in the code.
use Rattle.std.specs.Prelude.{ℕ, List, map}
use Rattle.std.proofs.Common.{Bor}

-- the rows of a table
abbrev pub rows_of : {Value : Type 0} → List (Bor (List ℕ) × Value) → List (List ℕ × Value)
rows_of rows = map (λ row. (row.0.now, row.1)) rows
