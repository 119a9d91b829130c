-- A connection's number: decimal, 0 to 65535, without a sign and without a zero in front.
use Rattle.std.specs.Prelude.{ℕ, ◌+◌, ◌-◌, ◌*◌, ◌/◌, ◌%◌, Bool, false, not, ◌&&◌, List, [], ◌∷◌, drop, Option, None, Some, nat_le, nat_lt, if◌then◌else◌, ◌==◌}

abbrev pub is_digit : ℕ → Bool
is_digit byte = nat_le 48 byte && nat_le byte 57

abbrev pub begins_with_digit : List ℕ → Bool
begins_with_digit [] = false
begins_with_digit (first ∷ rest) = is_digit first

-- the number that goes on with the digits in front, where those before them are this one, and what stands behind them
abbrev pub digits_from : ℕ → List ℕ → Option (ℕ × List ℕ)
digits_from value [] = Some (value, [])
digits_from value (byte ∷ rest) =
    if is_digit byte then (if nat_lt 65535 (10 * value + (byte - 48)) then None else digits_from (10 * value + (byte - 48)) rest)
    else Some (value, byte ∷ rest)

-- the number in front of some bytes, and what stands behind it
abbrev pub number : List ℕ → Option (ℕ × List ℕ)
number [] = None
number (first ∷ rest) =
    if not (is_digit first) then None
    else if (first == 48) && begins_with_digit rest then None
    else digits_from (first - 48) rest

-- the last digit of a number
abbrev pub digit : ℕ → ℕ
digit n = 48 + n % 10

abbrev pub five_digits : ℕ → List ℕ
five_digits n = digit (n / 10000) ∷ digit (n / 1000) ∷ digit (n / 100) ∷ digit (n / 10) ∷ digit n ∷ []

-- how many zeros stand in front of its five digits
abbrev pub zeros : ℕ → ℕ
zeros n =
    if nat_lt n 10 then 4
    else if nat_lt n 100 then 3
    else if nat_lt n 1000 then 2
    else if nat_lt n 10000 then 1
    else 0

-- a number of at most five digits, as it is written
abbrev pub decimal : ℕ → List ℕ
decimal n = drop (zeros n) (five_digits n)
