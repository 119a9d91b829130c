-- What is read of a line that was written.
use Rattle.trunk_text.proofs.Terms.{Bool, List, Ok, Some, [], ap, append-nil, append_assoc, arith, drop, false, if◌then◌else◌, length, nat_le, nat_lt, refl, sym, true, ℕ, ◌%◌, ◌&&◌, ◌*◌, ◌++◌, ◌+◌, ◌-◌, ◌/◌, ◌<◌, ◌==◌, ◌∙◌, ◌∷◌, ◌≡◌, ◌≤◌, nat_tests, Whole, begins_with_digit, decimal, digit, digits_from, five_digits, is_digit, number, escaped, hex_digit, hex_value, is_control, piece_text, spelled_from}

-- a digit goes on with the number before it
one_digit : (v d w : ℕ) (rest : List ℕ) → w ≡ 10 * v + d % 10 → w < 65536 → digits_from v (digit d ∷ rest) ≡ digits_from w rest
one_digit v d w rest is fits =
    let small : d % 10 < 10 = omega arith in
    let back : 48 + d % 10 - 48 ≡ d % 10 = omega arith in
    let tests : is_digit (48 + d % 10) ≡ true = grind (arith, nat_tests) in
    let over : nat_lt 65535 (10 * v + d % 10) ≡ false = grind (arith, nat_tests) in
    rw (tests, back, over) (ap (λ x. digits_from x rest) (sym is))

-- behind its digits a number is whole
no_digit : (v : ℕ) (rest : List ℕ) → begins_with_digit rest ≡ false → digits_from v rest ≡ Some (v, rest)
no_digit v [] ends = refl
no_digit v (byte ∷ rest) ends = rw ends refl

-- a number's first digit isn't a zero with digits behind it
and_false : (a : Bool) → (a && false) ≡ false
and_false true = refl
and_false false = refl

lone_first : (d : ℕ) (rest : List ℕ) → begins_with_digit rest ≡ false → number (digit d ∷ rest) ≡ digits_from (d % 10) rest
lone_first d rest ends =
    let small : d % 10 < 10 = omega arith in
    let back : 48 + d % 10 - 48 ≡ d % 10 = omega arith in
    let tests : is_digit (48 + d % 10) ≡ true = grind (arith, nat_tests) in
    rw (tests, ends, and_false (48 + d % 10 == 48), back) refl

more_first : (d : ℕ) (rest : List ℕ) → 0 < d % 10 → number (digit d ∷ rest) ≡ digits_from (d % 10) rest
more_first d rest some =
    let small : d % 10 < 10 = omega arith in
    let back : 48 + d % 10 - 48 ≡ d % 10 = omega arith in
    let tests : is_digit (48 + d % 10) ≡ true = grind (arith, nat_tests) in
    let other : (48 + d % 10 == 48) ≡ false = grind (arith, nat_tests) in
    rw (tests, other, back) refl

-- a number that was written is read back
number_by : (a b c d : Bool) (n : ℕ) (rest : List ℕ) → n < 65536 → begins_with_digit rest ≡ false → nat_lt n 10 ≡ a → nat_lt n 100 ≡ b → nat_lt n 1000 ≡ c → nat_lt n 10000 ≡ d
    → number (drop (if a then 4 else if b then 3 else if c then 2 else if d then 1 else 0) (five_digits n) ++ rest) ≡ Some (n, rest)
number_by true b c d n rest fits ends ten hundred thousand all =
    let below : n < 10 = grind (arith, nat_tests) in
    let same : n % 10 ≡ n = omega arith in
    lone_first n rest ends ∙ rw same (no_digit n rest ends)
number_by false true c d n rest fits ends ten hundred thousand all =
    let least : 10 ≤ n = grind (arith, nat_tests) in
    let below : n < 100 = grind (arith, nat_tests) in
    more_first (n / 10) (digit n ∷ rest) (omega arith)
    ∙ one_digit (n / 10 % 10) n n rest (omega arith) fits ∙ no_digit n rest ends
number_by false false true d n rest fits ends ten hundred thousand all =
    let least : 100 ≤ n = grind (arith, nat_tests) in
    let below : n < 1000 = grind (arith, nat_tests) in
    more_first (n / 100) (digit (n / 10) ∷ digit n ∷ rest) (omega arith)
    ∙ one_digit (n / 100 % 10) (n / 10) (n / 10) (digit n ∷ rest) (omega arith) (omega arith) ∙ one_digit (n / 10) n n rest (omega arith) fits ∙ no_digit n rest ends
number_by false false false true n rest fits ends ten hundred thousand all =
    let least : 1000 ≤ n = grind (arith, nat_tests) in
    let below : n < 10000 = grind (arith, nat_tests) in
    more_first (n / 1000) (digit (n / 100) ∷ digit (n / 10) ∷ digit n ∷ rest) (omega arith)
    ∙ one_digit (n / 1000 % 10) (n / 100) (n / 100) (digit (n / 10) ∷ digit n ∷ rest) (omega arith) (omega arith)
    ∙ one_digit (n / 100) (n / 10) (n / 10) (digit n ∷ rest) (omega arith) (omega arith) ∙ one_digit (n / 10) n n rest (omega arith) fits ∙ no_digit n rest ends
number_by false false false false n rest fits ends ten hundred thousand all =
    let least : 10000 ≤ n = grind (arith, nat_tests) in
    more_first (n / 10000) (digit (n / 1000) ∷ digit (n / 100) ∷ digit (n / 10) ∷ digit n ∷ rest) (omega arith)
    ∙ one_digit (n / 10000 % 10) (n / 1000) (n / 1000) (digit (n / 100) ∷ digit (n / 10) ∷ digit n ∷ rest) (omega arith) (omega arith)
    ∙ one_digit (n / 1000) (n / 100) (n / 100) (digit (n / 10) ∷ digit n ∷ rest) (omega arith) (omega arith)
    ∙ one_digit (n / 100) (n / 10) (n / 10) (digit n ∷ rest) (omega arith) (omega arith) ∙ one_digit (n / 10) n n rest (omega arith) fits ∙ no_digit n rest ends

pub number_back : (n : ℕ) (rest : List ℕ) → n < 65536 → begins_with_digit rest ≡ false → number (decimal n ++ rest) ≡ Some (n, rest)
number_back n rest fits ends = number_by (nat_lt n 10) (nat_lt n 100) (nat_lt n 1000) (nat_lt n 10000) n rest fits ends refl refl refl refl

-- a hexadecimal digit that was written is read back
hex_by : (n : ℕ) (is_low : Bool) → n < 16 → nat_lt n 10 ≡ is_low → hex_value (if is_low then n + 48 else n - 10 + 97) ≡ Some n
hex_by n true small low =
    let below : n < 10 = grind (arith, nat_tests) in
    let tests : (nat_le 48 (n + 48) && nat_le (n + 48) 57) ≡ true = grind (arith, nat_tests) in
    let back : n + 48 - 48 ≡ n = omega arith in
    rw (tests, back) refl
hex_by n false small low =
    let least : 10 ≤ n = grind (arith, nat_tests) in
    let other : (nat_le 48 (n - 10 + 97) && nat_le (n - 10 + 97) 57) ≡ false = grind (arith, nat_tests) in
    let tests : (nat_le 97 (n - 10 + 97) && nat_le (n - 10 + 97) 102) ≡ true = grind (arith, nat_tests) in
    let back : n - 10 + 97 - 97 + 10 ≡ n = omega arith in
    rw (other, tests, back) refl

hex_back : (n : ℕ) → n < 16 → hex_value (hex_digit n) ≡ Some n
hex_back n small = hex_by n (nat_lt n 10) small refl

-- a byte that was written is read back
escaped_by : (backslash feed return tab control : Bool) (byte : ℕ) (text bytes : List ℕ) → (byte == 92) ≡ backslash → (byte == 10) ≡ feed → (byte == 13) ≡ return → (byte == 9) ≡ tab → is_control byte ≡ control
    → spelled_from ((if backslash then 92 ∷ 92 ∷ [] else if feed then 92 ∷ 110 ∷ [] else if return then 92 ∷ 114 ∷ [] else if tab then 92 ∷ 116 ∷ []
    else if control then 92 ∷ 120 ∷ hex_digit (byte / 16) ∷ hex_digit (byte % 16) ∷ [] else byte ∷ []) ++ text) Whole bytes ≡ spelled_from text Whole (bytes ++ byte ∷ [])
escaped_by true feed return tab control byte text bytes b f r t c =
    let is : 92 ≡ byte = grind (arith, nat_tests) in ap (λ x. spelled_from text Whole (bytes ++ x ∷ [])) is
escaped_by false true return tab control byte text bytes b f r t c =
    let is : 10 ≡ byte = grind (arith, nat_tests) in ap (λ x. spelled_from text Whole (bytes ++ x ∷ [])) is
escaped_by false false true tab control byte text bytes b f r t c =
    let is : 13 ≡ byte = grind (arith, nat_tests) in ap (λ x. spelled_from text Whole (bytes ++ x ∷ [])) is
escaped_by false false false true control byte text bytes b f r t c =
    let is : 9 ≡ byte = grind (arith, nat_tests) in ap (λ x. spelled_from text Whole (bytes ++ x ∷ [])) is
escaped_by false false false false true byte text bytes b f r t c =
    let below : byte < 128 = grind (arith, nat_tests) in
    let high : byte / 16 < 16 = omega arith in
    let low : byte % 16 < 16 = omega arith in
    let whole : 16 * (byte / 16) + byte % 16 ≡ byte = omega arith in
    rw (hex_back (byte / 16) high, hex_back (byte % 16) low, whole) refl
escaped_by false false false false false byte text bytes b f r t c = rw (b, c) refl

escaped_back : (byte : ℕ) (text bytes : List ℕ) → spelled_from (escaped byte ++ text) Whole bytes ≡ spelled_from text Whole (bytes ++ byte ∷ [])
escaped_back byte text bytes = escaped_by (byte == 92) (byte == 10) (byte == 13) (byte == 9) (is_control byte) byte text bytes refl refl refl refl refl

-- a piece with bytes behind its first one doesn't end there
long_rest : (next : ℕ) (rest : List ℕ) (byte : ℕ) → ((length (next ∷ rest) == 0) && (byte == 10)) ≡ true → ⊥
long_rest next rest byte ends = grind (arith, nat_tests)

-- a piece that was written is read back
piece_by : (ends : Bool) (byte : ℕ) (rest bytes : List ℕ) → ((length rest == 0) && (byte == 10)) ≡ ends → ((more : List ℕ) → spelled_from (piece_text rest) Whole more ≡ Ok (more ++ rest))
    → spelled_from (if ends then [] else escaped byte ++ piece_text rest) Whole bytes ≡ Ok (bytes ++ byte ∷ rest)
piece_by true byte [] bytes ends behind =
    let is : 10 ≡ byte = grind (arith, nat_tests) in ap (λ x. Ok (bytes ++ x ∷ [])) is
piece_by true byte (next ∷ rest) bytes ends behind = absurd (long_rest next rest byte ends)
piece_by false byte rest bytes ends behind =
    escaped_back byte (piece_text rest) bytes ∙ behind (bytes ++ byte ∷ []) ∙ ap (λ l. Ok l) (append_assoc bytes (byte ∷ []) rest)

pub piece_back : (piece bytes : List ℕ) → spelled_from (piece_text piece) Whole bytes ≡ Ok (bytes ++ piece)
piece_back [] bytes = ap (λ l. Ok l) (sym (append-nil bytes))
piece_back (byte ∷ rest) bytes = piece_by ((length rest == 0) && (byte == 10)) byte rest bytes refl (piece_back rest)
