-- A line that was written is read back.
use Rattle.std.proofs.lemmas.List.Folds.{list_all-append}
use Rattle.trunk_text.proofs.Terms.{Bool, List, Ok, Some, [], ap, append-nil, arith, drop, false, if◌then◌else◌, length, length-append, nat_lt, not, refl, subst, sym, true, ℕ, ◌%◌, ◌&&◌, ◌*◌, ◌++◌, ◌+◌, ◌-◌, ◌/◌, ◌<◌, ◌==◌, ◌∙◌, ◌∷◌, ◌≡◌, ◌≤◌, nat_tests, list_all, FitsTwoBytes, Line, Closes, Nothing, Opens, Piece, Settles, decimal, five_digits, is_digit, number, escaped, hex_digit, is_control, piece_text, line_of, lone, numbered, piece_of, signed, text_of, IsLine, is_bare, IsSound, LinesReadBack}
use Rattle.trunk_text.proofs.BackLemmas.{number_back, piece_back}

-- a number that was written has one to five digits
record IsDecimal (text : List ℕ) : Type 0 where
  digits : list_all is_digit text ≡ true
  few : length text ≤ 5
  some : 0 < length text

is_digit-digit : (d : ℕ) → is_digit (48 + d % 10) ≡ true
is_digit-digit d = let small : d % 10 < 10 = omega arith in grind (arith, nat_tests)

decimal_by : (a b c d : Bool) (n : ℕ) → IsDecimal (drop (if a then 4 else if b then 3 else if c then 2 else if d then 1 else 0) (five_digits n))
decimal_by true b c d n = record { digits = rw (is_digit-digit n) refl; few = omega arith; some = omega arith }
decimal_by false true c d n = record { digits = rw (is_digit-digit (n / 10), is_digit-digit n) refl; few = omega arith; some = omega arith }
decimal_by false false true d n = record { digits = rw (is_digit-digit (n / 100), is_digit-digit (n / 10), is_digit-digit n) refl; few = omega arith; some = omega arith }
decimal_by false false false true n =
    record { digits = rw (is_digit-digit (n / 1000), is_digit-digit (n / 100), is_digit-digit (n / 10), is_digit-digit n) refl; few = omega arith; some = omega arith }
decimal_by false false false false n = record {
  digits = rw (is_digit-digit (n / 10000), is_digit-digit (n / 1000), is_digit-digit (n / 100), is_digit-digit (n / 10), is_digit-digit n) refl;
  few = omega arith;
  some = omega arith;
}

is_decimal : (n : ℕ) → IsDecimal (decimal n)
is_decimal n = decimal_by (nat_lt n 10) (nat_lt n 100) (nat_lt n 1000) (nat_lt n 10000) n

-- a line that begins with a digit is a piece
first_digit : (first : ℕ) (rest : List ℕ) → is_digit first ≡ true → line_of (first ∷ rest) ≡ numbered (number (first ∷ rest))
first_digit first rest is =
    let hash : (first == 35) ≡ false = grind (arith, nat_tests) in
    let plus : (first == 43) ≡ false = grind (arith, nat_tests) in
    let minus : (first == 45) ≡ false = grind (arith, nat_tests) in
    rw (hash, plus, minus, is) refl

and_left : (a b : Bool) → (a && b) ≡ true → a ≡ true
and_left true b both = refl
and_left false b both = both

begins_digit : (text rest : List ℕ) → list_all is_digit text ≡ true → 0 < length text → line_of (text ++ rest) ≡ numbered (number (text ++ rest))
begins_digit [] rest digits some = absurd (omega arith)
begins_digit (first ∷ text) rest digits some = first_digit first (text ++ rest) (and_left (is_digit first) (list_all is_digit text) digits)

-- a piece is read back
few_bytes : (conn : ℕ) (bytes : List ℕ) → FitsTwoBytes (length bytes) → piece_of conn (Ok bytes) ≡ Ok (Piece conn bytes)
few_bytes conn bytes few = let fits : nat_lt 65535 (length bytes) ≡ false = grind (arith, nat_tests) in rw fits refl

piece_line : (conn : ℕ) (bytes : List ℕ) → FitsTwoBytes conn → FitsTwoBytes (length bytes) → line_of (decimal conn ++ 60 ∷ piece_text bytes) ≡ Ok (Piece conn bytes)
piece_line conn bytes narrow few =
    begins_digit (decimal conn) (60 ∷ piece_text bytes) (is_decimal conn).digits (is_decimal conn).some
    ∙ ap numbered (number_back conn (60 ∷ piece_text bytes) (omega arith) refl)
    ∙ ap (piece_of conn) (piece_back bytes []) ∙ few_bytes conn bytes few

lone_number : (conn : ℕ) → FitsTwoBytes conn → number (decimal conn) ≡ Some (conn, [])
lone_number conn narrow = ap number (sym (append-nil (decimal conn))) ∙ number_back conn [] (omega arith) refl

read_back : (says : Line) → IsSound says → line_of (text_of says) ≡ Ok says
read_back (Opens conn) narrow = ap (λ n. signed Opens (lone n)) (lone_number conn narrow)
read_back (Piece conn bytes) (narrow, few) = piece_line conn bytes narrow few
read_back (Closes conn) narrow = ap (λ n. signed Closes (lone n)) (lone_number conn narrow)
read_back Settles sound = refl
read_back Nothing sound = refl

-- what is written has no line feed within, and isn't too long
digit_bare : (byte : ℕ) → is_digit byte ≡ true → not (byte == 10) ≡ true
digit_bare byte is = grind (arith, nat_tests)

digits_bare_by : (byte : ℕ) (text : List ℕ) (is : Bool) → is_digit byte ≡ is → (is && list_all is_digit text) ≡ true → (list_all is_digit text ≡ true → is_bare text ≡ true)
    → is_bare (byte ∷ text) ≡ true
digits_bare_by byte text false is both behind = cc
digits_bare_by byte text true is both behind = rw (digit_bare byte is) (behind both)

digits_bare : (text : List ℕ) → list_all is_digit text ≡ true → is_bare text ≡ true
digits_bare [] digits = refl
digits_bare (byte ∷ text) digits = digits_bare_by byte text (is_digit byte) refl digits (digits_bare text)

both_bare : (a b : List ℕ) → is_bare a ≡ true → is_bare b ≡ true → is_bare (a ++ b) ≡ true
both_bare a b first second = list_all-append (λ byte. not (byte == 10)) a b ∙ rw (first, second) refl

hex_bare : (n : ℕ) (is_low : Bool) → nat_lt n 10 ≡ is_low → not ((if is_low then n + 48 else n - 10 + 97) == 10) ≡ true
hex_bare n true low = grind (arith, nat_tests)
hex_bare n false low = grind (arith, nat_tests)

-- the text of a byte
record IsEscape (text : List ℕ) : Type 0 where
  bare : is_bare text ≡ true
  few : length text ≤ 4

escape_by : (backslash feed return tab control : Bool) (byte : ℕ) → (byte == 10) ≡ feed
    → IsEscape (if backslash then 92 ∷ 92 ∷ [] else if feed then 92 ∷ 110 ∷ [] else if return then 92 ∷ 114 ∷ [] else if tab then 92 ∷ 116 ∷ []
    else if control then 92 ∷ 120 ∷ hex_digit (byte / 16) ∷ hex_digit (byte % 16) ∷ [] else byte ∷ [])
escape_by true feed return tab control byte f = record { bare = refl; few = omega arith }
escape_by false true return tab control byte f = record { bare = refl; few = omega arith }
escape_by false false true tab control byte f = record { bare = refl; few = omega arith }
escape_by false false false true control byte f = record { bare = refl; few = omega arith }
escape_by false false false false true byte f =
    record { bare = rw (hex_bare (byte / 16) (nat_lt (byte / 16) 10) refl, hex_bare (byte % 16) (nat_lt (byte % 16) 10) refl) refl; few = omega arith }
escape_by false false false false false byte f = record { bare = rw f refl; few = omega arith }

is_escape : (byte : ℕ) → IsEscape (escaped byte)
is_escape byte = escape_by (byte == 92) (byte == 10) (byte == 13) (byte == 9) (is_control byte) byte refl

record IsPieceText (count : ℕ) (text : List ℕ) : Type 0 where
  bare : is_bare text ≡ true
  few : length text ≤ 4 * count + 1

piece_text_by : (ends : Bool) (count : ℕ) (first text : List ℕ) → IsEscape first → IsPieceText count text → IsPieceText (count + 1) (if ends then [] else first ++ text)
piece_text_by true count first text one rest = record { bare = refl; few = omega arith }
piece_text_by false count first text one rest = record { bare = both_bare first text one.bare rest.bare; few = omega (arith, length-append first text) }

is_piece_text : (bytes : List ℕ) → IsPieceText (length bytes) (piece_text bytes)
is_piece_text [] = record { bare = refl; few = omega arith }
is_piece_text (byte ∷ rest) =
    let more : length (byte ∷ rest) ≡ length rest + 1 = omega arith in
    subst (λ n. IsPieceText n (piece_text (byte ∷ rest))) (sym more)
    (piece_text_by ((length rest == 0) && (byte == 10)) (length rest) (escaped byte) (piece_text rest) (is_escape byte) (is_piece_text rest))

number_line : (n : ℕ) → is_bare (decimal n) ≡ true
number_line n = digits_bare (decimal n) (is_decimal n).digits

is_line : (says : Line) → IsSound says → IsLine (text_of says)
is_line (Opens conn) narrow = record { bare = number_line conn; short = omega (arith, (is_decimal conn).few) }
is_line (Piece conn bytes) (narrow, few) =
    record {
      bare = both_bare (decimal conn) (60 ∷ piece_text bytes) (number_line conn) (is_piece_text bytes).bare;
      short = omega (arith, length-append (decimal conn) (60 ∷ piece_text bytes), (is_decimal conn).few, (is_piece_text bytes).few);
    }
is_line (Closes conn) narrow = record { bare = number_line conn; short = omega (arith, (is_decimal conn).few) }
is_line Settles sound = record { bare = refl; short = omega arith }
is_line Nothing sound = record { bare = refl; short = omega arith }

pub lines_read_back : LinesReadBack
lines_read_back says sound = (is_line says sound, read_back says sound)
