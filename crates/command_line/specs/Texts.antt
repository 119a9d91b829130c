-- What one word may be: a name, or a number.
use Rattle.std.specs.Prelude.{ℕ, ◌^◌, ◌==◌, ◌&&◌, Bool, false, not, List, [], ◌∷◌, Option, Some, None, if◌then◌else◌, nat_lt}
use Rattle.command_line.specs.Terms.{is_ascii_digit, list_all, digits_value}
use Rattle.command_line.specs.declared.texts.TheConstants.{DASH, ZERO}

abbrev pub Text : Type 0
Text = List ℕ

-- a word begins with a dash
abbrev pub is_dashed : Text → Bool
is_dashed [] = false
is_dashed (first ∷ rest) = first == DASH

-- a name isn't empty, and doesn't begin with a dash
abbrev pub is_name : Text → Bool
is_name [] = false
is_name (first ∷ rest) = not (first == DASH)

-- decimal digits with no leading zero: one digit, or several of which the first isn't 0
abbrev pub is_numeral : Text → Bool
is_numeral [] = false
is_numeral (first ∷ []) = is_ascii_digit first
is_numeral (first ∷ second ∷ rest) = not (first == ZERO) && list_all is_ascii_digit (first ∷ second ∷ rest)

-- the number below 2^64 that a word writes
abbrev pub number_of : Text → Option ℕ
number_of text = if is_numeral text && nat_lt (digits_value 10 text) (2 ^ 64) then Some (digits_value 10 text) else None
