-- One step after another.
use Rattle.std.specs.Prelude.{ℕ, zero, suc, Option, Some, option_and_then}

-- so many steps, if each of them is there
abbrev pub repeated : {X : Type 0} → (X → Option X) → ℕ → X → Option X
repeated step zero x = Some x
repeated step (suc count) x = option_and_then step (repeated step count x)
