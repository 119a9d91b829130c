-- A line that is read by writing it again, and what calls answer that read or write one.
use Rattle.std.specs.Prelude.{◌≡◌, ℕ, Bool, ◌&&◌, List, Option, Some, None, Result, Ok, Err, bytes_eq, if◌then◌else◌}
use Rattle.std.specs.declared.alloc.AllocError.{AllocError}

-- the value that a line tells, if that is in range and the line is what is written of it
abbrev pub if_written : {Value : Type 0} → (Value → Bool) → (Value → List ℕ) → Value → List ℕ → Option Value
if_written in_range write told line = if in_range told && bytes_eq (write told) line then Some told else None

-- a value is what a line is read as, or memory ran out
abbrev pub Tells : {Value : Type 0} → Option Value → Result (Option Value) AllocError → Type 0
Tells told (Ok value) = value ≡ told
Tells told (Err error) = Unit {0}

-- these bytes are written, or memory ran out
abbrev pub Writes : List ℕ → Result (List ℕ) AllocError → Type 0
Writes bytes (Ok written) = written ≡ bytes
Writes bytes (Err error) = Unit {0}
