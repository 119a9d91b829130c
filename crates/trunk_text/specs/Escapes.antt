-- The text of a piece. A backslash stands before `n`, `r`, `t`, a backslash, or `x` and two hexadecimal digits; every other byte is itself, and no control
-- byte is. The line feed at the end of the line is the piece's last byte, unless a single backslash stands before it.
use Rattle.std.specs.Prelude.{◌≡◌, ℕ, ◌+◌, ◌-◌, ◌*◌, ◌/◌, ◌%◌, ◌<◌, Bool, ◌&&◌, ◌||◌, List, [], ◌∷◌, ◌++◌, length, Option, None, Some, Result, Ok, Err, Vec, nat_le, nat_lt, if◌then◌else◌, ◌==◌}
use Rattle.std.specs.declared.alloc.AllocError.{AllocError}
use Rattle.trunk_text.specs.Terms.{Global, Flaw, Control, Escape, LineFault, Memory, Refused}
use Rattle.trunk_text.specs.declared.escapes.Before.{Before}
use Rattle.trunk_text.specs.declared.escapes.Before.TheVariants.{Whole, Backslash, Hex, Digit}
use Rattle.trunk_text.specs.declared.escapes.Step.{Step}
use Rattle.trunk_text.specs.declared.escapes.Step.TheVariants as step

-- a byte below the space, or that behind `~`
abbrev pub is_control : ℕ → Bool
is_control byte = nat_lt byte 32 || (byte == 127)

-- the value of a hexadecimal digit, in either case
abbrev pub hex_value : ℕ → Option ℕ
hex_value byte =
    if nat_le 48 byte && nat_le byte 57 then Some (byte - 48)
    else if nat_le 97 byte && nat_le byte 102 then Some (byte - 97 + 10)
    else if nat_le 65 byte && nat_le byte 70 then Some (byte - 65 + 10)
    else None

-- a hexadecimal digit, in lower case
abbrev pub hex_digit : ℕ → ℕ
hex_digit n = if nat_lt n 10 then n + 48 else n - 10 + 97

-- what a byte does behind a whole one, behind a backslash, behind a backslash and `x`, and behind these and a digit
abbrev pub on_whole : ℕ → Result Step Flaw
on_whole byte = if byte == 92 then Ok (step.Stands Backslash) else if is_control byte then Err Control else Ok (step.Spells byte)

abbrev pub on_backslash : ℕ → Result Step Flaw
on_backslash byte =
    if byte == 92 then Ok (step.Spells 92)
    else if byte == 110 then Ok (step.Spells 10)
    else if byte == 114 then Ok (step.Spells 13)
    else if byte == 116 then Ok (step.Spells 9)
    else if byte == 120 then Ok (step.Stands Hex)
    else Err Escape

abbrev pub with_digit : (ℕ → Step) → Option ℕ → Result Step Flaw
with_digit made None = Err Escape
with_digit made (Some value) = Ok (made value)

abbrev pub on_hex : ℕ → Result Step Flaw
on_hex byte = with_digit (λ value. step.Stands (Digit value)) (hex_value byte)

abbrev pub on_digit : ℕ → ℕ → Result Step Flaw
on_digit high byte = with_digit (λ value. step.Spells (16 * high + value)) (hex_value byte)

abbrev pub next : Before → ℕ → Result Step Flaw
next Whole byte = on_whole byte
next Backslash byte = on_backslash byte
next Hex byte = on_hex byte
next (Digit high) byte = on_digit high byte

-- the bytes that a text spells at its end: with the line feed of its line, or without it
abbrev pub at_end : Before → List ℕ → Result (List ℕ) Flaw
at_end Whole bytes = Ok (bytes ++ 10 ∷ [])
at_end Backslash bytes = Ok bytes
at_end Hex bytes = Err Escape
at_end (Digit high) bytes = Err Escape

-- the bytes that a text goes on to spell, behind those that were spelled
abbrev pub step_on : (Before → List ℕ → Result (List ℕ) Flaw) → List ℕ → Result Step Flaw → Result (List ℕ) Flaw
step_on go bytes (Ok (step.Spells byte)) = go Whole (bytes ++ byte ∷ [])
step_on go bytes (Ok (step.Stands before)) = go before bytes
step_on go bytes (Err flaw) = Err flaw

abbrev pub spelled_from : List ℕ → Before → List ℕ → Result (List ℕ) Flaw
spelled_from [] before bytes = at_end before bytes
spelled_from (byte ∷ rest) before bytes = step_on (spelled_from rest) bytes (next before byte)

-- the bytes that a text spells
abbrev pub spelled : List ℕ → Result (List ℕ) Flaw
spelled text = spelled_from text Whole []

-- an answer is the bytes that are spelled, or their flaw, or memory ran out
abbrev pub Spells : Result (List ℕ) Flaw → Result (Vec ℕ Global) LineFault → Type 0
Spells spelled (Ok bytes) = spelled ≡ Ok bytes.items
Spells spelled (Err (Refused flaw)) = spelled ≡ Err flaw
Spells spelled (Err Memory) = Unit {0}

-- a digit that stands before the next one is one of sixteen
abbrev pub IsSmall : Before → Type 0
IsSmall (Digit high) = high < 16
IsSmall other = Unit {0}

abbrev pub IsSmallStep : Step → Type 0
IsSmallStep (step.Stands before) = IsSmall before
IsSmallStep (step.Spells byte) = Unit {0}

-- what was put behind some bytes, and what stands before the next one
abbrev pub Puts : Step → List ℕ → List ℕ → Result Before AllocError → Type 0
Puts (step.Spells byte) old new (Ok before) = (new ≡ old ++ byte ∷ []) × (before ≡ Whole)
Puts (step.Stands at) old new (Ok before) = (new ≡ old) × (before ≡ at)
Puts some old new (Err e) = Unit {0}

-- a byte as it is written in the text of a piece
abbrev pub escaped : ℕ → List ℕ
escaped byte =
    if byte == 92 then 92 ∷ 92 ∷ []
    else if byte == 10 then 92 ∷ 110 ∷ []
    else if byte == 13 then 92 ∷ 114 ∷ []
    else if byte == 9 then 92 ∷ 116 ∷ []
    else if is_control byte then 92 ∷ 120 ∷ hex_digit (byte / 16) ∷ hex_digit (byte % 16) ∷ []
    else byte ∷ []

-- the text of a piece: without its last line feed, and with a backslash at the end where there is none
abbrev pub piece_text : List ℕ → List ℕ
piece_text [] = 92 ∷ []
piece_text (byte ∷ rest) = if (length rest == 0) && (byte == 10) then [] else escaped byte ++ piece_text rest
