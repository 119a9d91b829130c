-- Lines: what each says, and how it is written.
use Rattle.std.specs.Prelude.{◌≡◌, ℕ, Bool, ◌||◌, List, [], ◌∷◌, ◌++◌, length, Option, None, Some, Result, Ok, Err, nat_lt, if◌then◌else◌, ◌==◌, bytes_eq}
use Rattle.trunk_text.specs.Terms.{Flaw, Form, LongPiece, Number, Line, Closes, Nothing, Opens, Piece, Settles, LineFault, Memory, Refused}
use Rattle.trunk_text.specs.Numbers.{is_digit, number, decimal}
use Rattle.trunk_text.specs.Escapes.{spelled, piece_text}

-- the number in front of some bytes, if it is all of them
abbrev pub lone : Option (ℕ × List ℕ) → Option ℕ
lone None = None
lone (Some (conn, [])) = Some conn
lone (Some (conn, byte ∷ bytes)) = None

-- a line that is a sign and a number
abbrev pub signed : (ℕ → Line) → Option ℕ → Result Line Flaw
signed says None = Err Number
signed says (Some conn) = Ok (says conn)

-- the piece of a connection, if it isn't too long
abbrev pub piece_of : ℕ → Result (List ℕ) Flaw → Result Line Flaw
piece_of conn (Err flaw) = Err flaw
piece_of conn (Ok bytes) = if nat_lt 65535 (length bytes) then Err LongPiece else Ok (Piece conn bytes)

-- `>` or `<`
abbrev pub is_arrow : ℕ → Bool
is_arrow byte = (byte == 62) || (byte == 60)

-- a line that is a number, an arrow and the text of a piece
abbrev pub numbered : Option (ℕ × List ℕ) → Result Line Flaw
numbered None = Err Number
numbered (Some (conn, [])) = Err Form
numbered (Some (conn, byte ∷ text)) = if is_arrow byte then piece_of conn (spelled text) else Err Form

-- `settle`
abbrev pub settle : List ℕ
settle = 115 ∷ 101 ∷ 116 ∷ 116 ∷ 108 ∷ 101 ∷ []

-- what a line says, or its flaw. An empty line says nothing, and so does one that begins with `#`
abbrev pub line_of : List ℕ → Result Line Flaw
line_of [] = Ok Nothing
line_of (first ∷ rest) =
    if first == 35 then Ok Nothing
    else if first == 43 then signed Opens (lone (number rest))
    else if first == 45 then signed Closes (lone (number rest))
    else if is_digit first then numbered (number (first ∷ rest))
    else if bytes_eq (first ∷ rest) settle then Ok Settles
    else Err Form

-- an answer is what the line says, or its flaw, or memory ran out
abbrev pub Says : Result Line Flaw → Result Line LineFault → Type 0
Says line (Ok says) = line ≡ Ok says
Says line (Err (Refused flaw)) = line ≡ Err flaw
Says line (Err Memory) = Unit {0}

-- how a line is written: a piece with `<`
abbrev pub text_of : Line → List ℕ
text_of (Opens conn) = 43 ∷ decimal conn
text_of (Piece conn bytes) = decimal conn ++ 60 ∷ piece_text bytes
text_of (Closes conn) = 45 ∷ decimal conn
text_of Settles = settle
text_of Nothing = []
