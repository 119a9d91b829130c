-- How a text is cut.
use Rattle.std.specs.Prelude.{ℕ, Bool, true, false, List, [], ◌∷◌, if◌then◌else◌, ◌==◌}

-- the lines of a text, each with its line feed, and what stands behind the last line feed
pub record Cut : Type 0 where
  pub lines : List (List ℕ)
  pub torn : List ℕ

abbrev pub cut_into : List (List ℕ) → List ℕ → Cut
cut_into lines torn = record { lines = lines; torn = torn }

-- one byte in front
abbrev pub onto : ℕ → List (List ℕ) → List ℕ → Cut
onto byte [] torn = cut_into [] (byte ∷ torn)
onto byte (line ∷ lines) torn = cut_into ((byte ∷ line) ∷ lines) torn

abbrev pub cut_before : ℕ → Cut → Cut
cut_before byte cut = if byte == 10 then cut_into ((byte ∷ []) ∷ cut.lines) cut.torn else onto byte cut.lines cut.torn

abbrev pub cut : List ℕ → Cut
cut [] = cut_into [] []
cut (byte ∷ bytes) = cut_before byte (cut bytes)

-- no line feed stands among some bytes
abbrev pub is_torn : List ℕ → Bool
is_torn [] = true
is_torn (byte ∷ bytes) = if byte == 10 then false else is_torn bytes
