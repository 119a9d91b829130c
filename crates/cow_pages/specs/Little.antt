-- Numbers of several bytes, the lowest byte first.
use Rattle.std.specs.Prelude.{ℕ, zero, suc, ◌+◌, ◌*◌, ◌/◌, ◌%◌, List, [], ◌∷◌}

-- the number of these bytes
abbrev pub little_number : List ℕ → ℕ
little_number [] = 0
little_number (byte ∷ bytes) = byte + 256 * little_number bytes

-- the first so many bytes of a number
abbrev pub little_bytes : ℕ → ℕ → List ℕ
little_bytes zero n = []
little_bytes (suc count) n = n % 256 ∷ little_bytes count (n / 256)
