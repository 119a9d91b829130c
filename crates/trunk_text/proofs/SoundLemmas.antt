-- A line that is read has numbers of two bytes.
use Rattle.trunk_text.proofs.Terms.{Bool, Err, List, None, Ok, Option, Result, Some, [], ap, arith, bytes_eq, false, if◌then◌else◌, length, nat_lt, not, refl, subst, true, ℕ, ◌&&◌, ◌*◌, ◌+◌, ◌-◌, ◌<◌, ◌==◌, ◌∷◌, ◌≡◌, ◌≤◌, nat_tests, Flaw, Form, LongPiece, Line, Closes, Nothing, Opens, Piece, Settles, begins_with_digit, digits_from, is_digit, number, spelled, is_arrow, line_of, lone, numbered, piece_of, settle, signed, IsSound}

-- the number in front, or zero where there is none
abbrev number_in : Option (ℕ × List ℕ) → ℕ
number_in None = 0
number_in (Some read) = read.0

-- a number that is read fits
digits_by : (digit over : Bool) (v w n : ℕ) (next : Option (ℕ × List ℕ)) (here rest : List ℕ) → nat_lt 65535 w ≡ over → (w < 65536 → next ≡ Some (n, rest) → n < 65536) → v < 65536
    → (if digit then (if over then None else next) else Some (v, here)) ≡ Some (n, rest) → n < 65536
digits_by false over v w n next here rest is behind fits read = let same : v ≡ n = ap number_in read in omega arith
digits_by true true v w n next here rest is behind fits read = cc
digits_by true false v w n next here rest is behind fits read = behind (grind (arith, nat_tests)) read

digits_fit : (bytes : List ℕ) (v n : ℕ) (rest : List ℕ) → v < 65536 → digits_from v bytes ≡ Some (n, rest) → n < 65536
digits_fit [] v n rest fits read = let same : v ≡ n = ap number_in read in omega arith
digits_fit (byte ∷ bytes) v n rest fits read =
    digits_by (is_digit byte) (nat_lt 65535 (10 * v + (byte - 48))) v (10 * v + (byte - 48)) n (digits_from (10 * v + (byte - 48)) bytes) (byte ∷ bytes) rest refl
    (λ small. digits_fit bytes (10 * v + (byte - 48)) n rest small) fits read

number_by : (digit zero : Bool) (first n : ℕ) (bytes rest : List ℕ) → is_digit first ≡ digit → (if not digit then None else if zero then None else digits_from (first - 48) bytes) ≡ Some (n, rest) → n < 65536
number_by false zero first n bytes rest is read = cc
number_by true true first n bytes rest is read = cc
number_by true false first n bytes rest is read = let few : first ≤ 57 = grind (arith, nat_tests) in digits_fit bytes (first - 48) n rest (omega arith) read

-- each number that is read in front of some bytes fits
abbrev AllFit : Option (ℕ × List ℕ) → Type 0
AllFit read = (n : ℕ) (rest : List ℕ) → read ≡ Some (n, rest) → n < 65536

number_fits : (bytes : List ℕ) → AllFit (number bytes)
number_fits [] n rest read = cc
number_fits (first ∷ bytes) n rest read = number_by (is_digit first) ((first == 48) && begins_with_digit bytes) first n bytes rest refl read

opens_sound : (read : Option (ℕ × List ℕ)) (says : Line) → AllFit read → signed Opens (lone read) ≡ Ok says → IsSound says
opens_sound None says fits is = cc
opens_sound (Some (conn, [])) says fits is = let same : Opens conn ≡ says = cc in subst IsSound same (omega (arith, fits conn [] refl))
opens_sound (Some (conn, byte ∷ rest)) says fits is = cc

closes_sound : (read : Option (ℕ × List ℕ)) (says : Line) → AllFit read → signed Closes (lone read) ≡ Ok says → IsSound says
closes_sound None says fits is = cc
closes_sound (Some (conn, [])) says fits is = let same : Closes conn ≡ says = cc in subst IsSound same (omega (arith, fits conn [] refl))
closes_sound (Some (conn, byte ∷ rest)) says fits is = cc

short_by : (over : Bool) (conn : ℕ) (bytes : List ℕ) (says : Line) → conn < 65536 → nat_lt 65535 (length bytes) ≡ over → (if over then Err LongPiece else Ok (Piece conn bytes)) ≡ Ok says → IsSound says
short_by true conn bytes says fits long is = cc
short_by false conn bytes says fits long is =
    let same : Piece conn bytes ≡ says = cc in
    let few : length bytes < 65536 = grind (arith, nat_tests) in
    subst IsSound same (omega arith, omega arith)

piece_sound : (arrow : Bool) (conn : ℕ) (spells : Result (List ℕ) Flaw) (says : Line) → conn < 65536 → (if arrow then piece_of conn spells else Err Form) ≡ Ok says → IsSound says
piece_sound false conn spells says fits is = cc
piece_sound true conn (Err flaw) says fits is = cc
piece_sound true conn (Ok bytes) says fits is = short_by (nat_lt 65535 (length bytes)) conn bytes says fits refl is

numbered_sound : (read : Option (ℕ × List ℕ)) (says : Line) → AllFit read → numbered read ≡ Ok says → IsSound says
numbered_sound None says fits is = cc
numbered_sound (Some (conn, [])) says fits is = cc
numbered_sound (Some (conn, byte ∷ text)) says fits is = piece_sound (is_arrow byte) conn (spelled text) says (fits conn (byte ∷ text) refl) is

line_by : (hash plus minus digit word : Bool) (first : ℕ) (rest : List ℕ) (says : Line) → (if hash then Ok Nothing else if plus then signed Opens (lone (number rest)) else if minus then signed Closes (lone (number rest))
    else if digit then numbered (number (first ∷ rest)) else if word then Ok Settles else Err Form) ≡ Ok says → IsSound says
line_by true plus minus digit word first rest says is = let same : Nothing ≡ says = cc in subst IsSound same tt
line_by false true minus digit word first rest says is = opens_sound (number rest) says (number_fits rest) is
line_by false false true digit word first rest says is = closes_sound (number rest) says (number_fits rest) is
line_by false false false true word first rest says is = numbered_sound (number (first ∷ rest)) says (number_fits (first ∷ rest)) is
line_by false false false false true first rest says is = let same : Settles ≡ says = cc in subst IsSound same tt
line_by false false false false false first rest says is = cc

pub read_sound : (line : List ℕ) (says : Line) → line_of line ≡ Ok says → IsSound says
read_sound [] says is = let same : Nothing ≡ says = cc in subst IsSound same tt
read_sound (first ∷ rest) says is = line_by (first == 35) (first == 43) (first == 45) (is_digit first) (bytes_eq (first ∷ rest) settle) first rest says is
