-- The lines of a text, each with its line feed, which the last one may lack.
use Rattle.std.specs.Prelude.{◌≢◌, ℕ, Bool, true, false, List, [], ◌∷◌, All, if◌then◌else◌, ◌==◌}

-- the first line of a text, and what stands behind it
abbrev pub first_line : List ℕ → List ℕ
first_line [] = []
first_line (byte ∷ bytes) = if byte == 10 then byte ∷ [] else byte ∷ first_line bytes

abbrev pub behind_line : List ℕ → List ℕ
behind_line [] = []
behind_line (byte ∷ bytes) = if byte == 10 then bytes else behind_line bytes

-- a byte put in front of the first of some lines, of which there may be none yet
abbrev pub onto : ℕ → List (List ℕ) → List (List ℕ)
onto byte [] = (byte ∷ []) ∷ []
onto byte (line ∷ lines) = (byte ∷ line) ∷ lines

abbrev pub lines_of : List ℕ → List (List ℕ)
lines_of [] = []
lines_of (byte ∷ bytes) = if byte == 10 then (byte ∷ []) ∷ lines_of bytes else onto byte (lines_of bytes)

abbrev pub is_empty : List ℕ → Bool
is_empty [] = true
is_empty (byte ∷ bytes) = false

-- some bytes end with a line feed, and hold no other one
abbrev pub is_line : List ℕ → Bool
is_line [] = false
is_line (byte ∷ bytes) = if byte == 10 then is_empty bytes else is_line bytes

-- some bytes without a line feed, as of a line that was cut short
abbrev pub IsTorn : List ℕ → Type 0
IsTorn bytes = All (λ byte. byte ≢ 10) bytes
