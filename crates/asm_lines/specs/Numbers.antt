-- Numbers: decimal, with `-` allowed in front, or `0x` and one to eight hexadecimal digits.
use Rattle.std.specs.Prelude.{ℕ, ◌+◌, ◌-◌, ◌*◌, ◌^◌, min, ◌&&◌, List, [], ◌∷◌, length, Option, Some, None, option_map, option_and_then, ℤ, pos, negsuc, neg_ℤ, nat_le, if◌then◌else◌, ◌==◌}
use Rattle.asm_lines.specs.Bytes.{is_digit}

-- the number of some decimal digits that stand behind others, which are this number
abbrev pub decimal_from : ℕ → List ℕ → Option ℕ
decimal_from number [] = Some number
decimal_from number (digit ∷ digits) = if is_digit digit then decimal_from (10 * number + (digit - 48)) digits else None

unfoldable pub decimal : List ℕ → Option ℕ
decimal [] = None
decimal (digit ∷ digits) = decimal_from 0 (digit ∷ digits)

-- the value of a hexadecimal digit: 0 to 9, a to f or A to F
abbrev pub hex_digit : ℕ → Option ℕ
hex_digit byte =
    if is_digit byte then Some (byte - 48) else
    if nat_le 97 byte && nat_le byte 102 then Some (byte - 87) else
    if nat_le 65 byte && nat_le byte 70 then Some (byte - 55) else
    None

abbrev pub hexadecimal_from : ℕ → List ℕ → Option ℕ
hexadecimal_from number [] = Some number
hexadecimal_from number (digit ∷ digits) = option_and_then (λ value. hexadecimal_from (16 * number + value) digits) (hex_digit digit)

unfoldable pub hexadecimal : List ℕ → Option ℕ
hexadecimal digits = if nat_le 1 (length digits) && nat_le (length digits) 8 then hexadecimal_from 0 digits else None

-- a decimal number, with or without a sign
unfoldable pub signed_decimal : List ℕ → Option ℤ
signed_decimal [] = None
signed_decimal (first ∷ rest) = if first == 45 then option_map (λ n. neg_ℤ (pos n)) (decimal rest) else option_map pos (decimal (first ∷ rest))

-- the number that some bytes are
unfoldable pub number_of : List ℕ → Option ℤ
number_of (first ∷ second ∷ rest) =
    if (first == 48) && (second == 120) then option_map pos (hexadecimal rest) else signed_decimal (first ∷ second ∷ rest)
number_of (first ∷ []) = signed_decimal (first ∷ [])
number_of [] = None

-- a number as far as it is told: those past 2 ^ 32 are in no range, and are told as 2 ^ 32
abbrev pub clipped : ℕ → ℕ
clipped n = min n (2 ^ 32)

abbrev pub clipped_int : ℤ → ℤ
clipped_int (pos n) = pos (clipped n)
clipped_int (negsuc n) = neg_ℤ (pos (clipped (n + 1)))
