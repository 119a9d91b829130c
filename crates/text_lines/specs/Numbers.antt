-- Decimal numbers in front of bytes.
use Rattle.std.specs.Prelude.{ℕ, ◌+◌, ◌-◌, ◌*◌, ◌^◌, min, List, [], ◌∷◌, drop, if◌then◌else◌}
use Rattle.std.specs.Char.{is_ascii_digit}

-- the number of the decimal digits in front of some bytes, which stand behind others of this number
abbrev pub number_from : ℕ → List ℕ → ℕ
number_from number [] = number
number_from number (byte ∷ bytes) = if is_ascii_digit byte then number_from (10 * number + (byte - 48)) bytes else number

-- what stands behind the decimal digits in front
abbrev pub behind_digits : List ℕ → List ℕ
behind_digits [] = []
behind_digits (byte ∷ bytes) = if is_ascii_digit byte then behind_digits bytes else byte ∷ bytes

-- a number as far as it is told: those above the largest of their type are in no range
abbrev pub clipped : ℕ → ℕ
clipped n = min n (2 ^ 64 - 1)

-- the number in front, and the one that stands behind it and one byte more
abbrev pub first_number : List ℕ → ℕ
first_number bytes = number_from 0 bytes

abbrev pub second_number : List ℕ → ℕ
second_number bytes = number_from 0 (drop 1 (behind_digits bytes))
