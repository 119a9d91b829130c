-- The bytes of a text, which is ASCII, and how a part of a line is cut out of it.
use Rattle.std.specs.Prelude.{ℕ, Bool, false, ◌&&◌, ◌||◌, List, [], ◌∷◌, Option, Some, None, option_map, option_and_then, bytes_eq, nat_le, if◌then◌else◌, ◌==◌}
use Rattle.std.specs.List.{list_all}

-- a space or a tab
abbrev pub is_blank : ℕ → Bool
is_blank byte = (byte == 32) || (byte == 9)

-- what a line may have: a tab, and the bytes from the space to `~`
abbrev pub is_allowed : ℕ → Bool
is_allowed byte = (byte == 9) || nat_le 32 byte && nat_le byte 126

abbrev pub is_digit : ℕ → Bool
is_digit byte = nat_le 48 byte && nat_le byte 57

abbrev pub is_letter : ℕ → Bool
is_letter byte = nat_le 65 byte && nat_le byte 90 || nat_le 97 byte && nat_le byte 122

-- what a name begins with: a letter or `_`
abbrev pub begins_name : ℕ → Bool
begins_name byte = is_letter byte || (byte == 95)

-- and what it goes on with: digits too
abbrev pub is_in_name : ℕ → Bool
is_in_name byte = begins_name byte || is_digit byte

abbrev pub is_name : List ℕ → Bool
is_name [] = false
is_name (first ∷ rest) = begins_name first && list_all is_in_name rest

-- without the blanks in front
abbrev pub skip_blanks : List ℕ → List ℕ
skip_blanks [] = []
skip_blanks (byte ∷ bytes) = if is_blank byte then skip_blanks bytes else byte ∷ bytes

-- without the blanks at the end
abbrev pub before_blanks : ℕ → List ℕ → List ℕ
before_blanks byte [] = if is_blank byte then [] else byte ∷ []
before_blanks byte (next ∷ bytes) = byte ∷ next ∷ bytes

abbrev pub strip_blanks : List ℕ → List ℕ
strip_blanks [] = []
strip_blanks (byte ∷ bytes) = before_blanks byte (strip_blanks bytes)

abbrev pub trimmed : List ℕ → List ℕ
trimmed bytes = strip_blanks (skip_blanks bytes)

-- the bytes up to the first blank, and those from it on
abbrev pub first_word : List ℕ → List ℕ
first_word [] = []
first_word (byte ∷ bytes) = if is_blank byte then [] else byte ∷ first_word bytes

abbrev pub behind_word : List ℕ → List ℕ
behind_word [] = []
behind_word (byte ∷ bytes) = if is_blank byte then byte ∷ bytes else behind_word bytes

-- what stands before the first of a byte, and what stands behind it; none where it doesn't occur
abbrev pub cut : ℕ → List ℕ → Option (List ℕ × List ℕ)
cut mark [] = None
cut mark (byte ∷ bytes) = if byte == mark then Some ([], bytes) else option_map (λ parts. (byte ∷ parts.0, parts.1)) (cut mark bytes)

-- what stands before a byte that ends the text and occurs only there
abbrev pub ended_here : List ℕ × List ℕ → Option (List ℕ)
ended_here (front, []) = Some front
ended_here (front, byte ∷ bytes) = None

abbrev pub ended : ℕ → List ℕ → Option (List ℕ)
ended mark bytes = option_and_then ended_here (cut mark bytes)

-- a byte put in front of the first of some parts, of which there may be none yet
abbrev pub onto : ℕ → List (List ℕ) → List (List ℕ)
onto byte [] = (byte ∷ []) ∷ []
onto byte (part ∷ parts) = (byte ∷ part) ∷ parts

-- the value beside a name in a table
abbrev pub look_up : {Value : Type 0} → List (List ℕ × Value) → List ℕ → Option Value
look_up [] name = None
look_up (row ∷ rows) name = if bytes_eq row.0 name then Some row.1 else look_up rows name
