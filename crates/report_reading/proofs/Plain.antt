-- Bytes that stand as they are: in a line, in JSON, and between braces.
use Rattle.std.proofs.lemmas.Bool.{and_parts}
use Rattle.std.specs.Str.{all_ascii_digits}
use Rattle.alloc_env.specs.declared.env.Env.TheVariants as env
use Rattle.report_reading.proofs.Terms.{Bool, List, [], ap, arith, false, refl, subst, suc, true, zero, ℕ, ◌%◌, ◌&&◌, ◌++◌, ◌/◌, ◌<◌, ◌^◌, ◌∙◌, ◌∷◌, ◌≡◌, nat_tests, is_ascii_digit, decimal, nat_lt, not, ◌==◌, escape, escape_byte, Env, Delay, Isolate, Pad, Plain, Zero, Cause, AssertFailed, BadAccess, BadCall, BadFree, BadInstruction, BadJump, Hang, Tried, Asks, Behind, Contradicts, Exits, Failed, cause_text, eight_digits, env_word, hex_digit, hex_digits, tried_text, decimal_digits, is_line, IsCause, IsTried, tries_in}

-- neither a control character, a quote, a backslash nor a brace
abbrev pub is_plain : ℕ → Bool
is_plain byte = nat_lt 31 byte && (not (byte == 34) && (not (byte == 92) && nat_lt byte 123))

abbrev pub are_plain : List ℕ → Bool
are_plain [] = true
are_plain (byte ∷ bytes) = is_plain byte && are_plain bytes

other_by : (byte n : ℕ) (b : Bool) → (byte == n) ≡ b → is_plain byte ≡ true → is_plain n ≡ false → b ≡ false
other_by byte n true e h k =
    let same : byte ≡ n = grind (arith, nat_tests) in
    let plain : is_plain n ≡ true = subst (λ (n : ℕ). is_plain n ≡ true) same h in
    absurd (cc)
other_by byte n false e h k = refl

other : (byte n : ℕ) → is_plain byte ≡ true → is_plain n ≡ false → (byte == n) ≡ false
other byte n h k = other_by byte n (byte == n) refl h k

-- ---- what plain bytes don't change

escape_byte-plain : (byte : ℕ) → is_plain byte ≡ true → escape_byte byte ≡ byte ∷ []
unfolding escape_byte
escape_byte-plain byte h =
    let above : nat_lt byte 32 ≡ false = grind (arith, nat_tests) in
    rw (other byte 34 h refl, other byte 92 h refl, other byte 8 h refl, other byte 12 h refl, other byte 10 h refl, other byte 13 h refl, other byte 9 h refl, above) refl

pub escape-plain : (text : List ℕ) → are_plain text ≡ true → escape text ≡ text
escape-plain [] h = refl
escape-plain (byte ∷ bytes) h =
    let parts = and_parts (is_plain byte) (are_plain bytes) h in
    ap (λ (front : List ℕ). front ++ escape bytes) (escape_byte-plain byte parts.0) ∙ ap (λ (rest : List ℕ). byte ∷ rest) (escape-plain bytes parts.1)

pub is_line-plain : (text rest : List ℕ) → are_plain text ≡ true → is_line rest ≡ true → is_line (text ++ rest) ≡ true
is_line-plain [] rest h k = k
is_line-plain (byte ∷ bytes) rest h k =
    let parts = and_parts (is_plain byte) (are_plain bytes) h in
    rw (other byte 10 parts.0 refl) (is_line-plain bytes rest parts.1 k)

pub tries_in-plain : (text rest : List ℕ) → are_plain text ≡ true → tries_in (text ++ rest) ≡ tries_in rest
tries_in-plain [] rest h = refl
tries_in-plain (byte ∷ bytes) rest h =
    let parts = and_parts (is_plain byte) (are_plain bytes) h in
    rw (other byte 123 parts.0 refl) (tries_in-plain bytes rest parts.1)

-- ---- words and numbers are plain

plain_digit : (byte : ℕ) → is_ascii_digit byte ≡ true → is_plain byte ≡ true
plain_digit byte h = grind (arith, nat_tests)

plain_digits : (digits : List ℕ) → all_ascii_digits digits ≡ true → are_plain digits ≡ true
plain_digits [] h = refl
plain_digits (byte ∷ bytes) h =
    let parts = and_parts (is_ascii_digit byte) (all_ascii_digits bytes) h in
    rw (plain_digit byte parts.0) (plain_digits bytes parts.1)

pub plain_decimal : (n : ℕ) → n < 2 ^ 64 → are_plain (decimal n) ≡ true
plain_decimal n h = plain_digits (decimal n) (decimal_digits n h)

plain_push : (text : List ℕ) (byte : ℕ) → are_plain text ≡ true → is_plain byte ≡ true → are_plain (text ++ byte ∷ []) ≡ true
plain_push [] byte h k = rw k refl
plain_push (first ∷ text) byte h k =
    let parts = and_parts (is_plain first) (are_plain text) h in
    rw parts.0 (plain_push text byte parts.1 k)

plain_hex : (n : ℕ) → n < 16 → is_plain (hex_digit n) ≡ true
plain_hex n h = grind (arith, nat_tests)

plain_hexes : (count n : ℕ) → are_plain (hex_digits count n) ≡ true
plain_hexes zero n = refl
plain_hexes (suc count) n = plain_push (hex_digits count (n / 16)) (hex_digit (n % 16)) (plain_hexes count (n / 16)) (plain_hex (n % 16) (omega arith))

pub plain_eight : (n : ℕ) → are_plain (eight_digits n) ≡ true
unfolding eight_digits
plain_eight n = plain_hexes 8 n

pub plain_cause : (cause : Cause) → IsCause cause → are_plain (cause_text cause) ≡ true
plain_cause BadAccess h = refl
plain_cause BadJump h = refl
plain_cause BadInstruction h = refl
plain_cause (AssertFailed code) h = plain_decimal code (omega (arith, h))
plain_cause Hang h = refl
plain_cause BadFree h = refl
plain_cause BadCall h = refl

pub plain_tried : (tried : Tried) → IsTried tried → are_plain (tried_text tried) ≡ true
plain_tried Asks h = refl
plain_tried (Exits code) h = refl
plain_tried (Failed cause) h = plain_cause cause h
plain_tried Contradicts h = refl
plain_tried Behind h = refl

pub plain_env : (e : Env) → are_plain (env_word e) ≡ true
plain_env Plain = refl
plain_env Pad = refl
plain_env Zero = refl
plain_env Isolate = refl
plain_env Delay = refl
plain_env env.All = refl
