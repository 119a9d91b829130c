-- Where a message behind its number ends.
use Rattle.msg_frame.proofs.Terms.{List, None, Option, [], ap, append_assoc, arith, drop, get_or, inl, inr, length, length-append, length-take-le, ltb, refl, sym, take, ℕ, ◌++◌, ◌+◌, ◌-◌, ◌<◌, ◌∙◌, ◌∷◌, ◌≡◌, ◌≤◌, cases_lt, cond-false, cond-true, le-ltb, lt-ltb, append-nil, drop_more, take-append-drop, take_more, Length, MAX_MESSAGE, NUMBER_BYTES, Parts, announced, announced_parts, behind, cut_bytes, length_byte, no_message, one_message, then_cut, IsRest}
use Rattle.msg_frame.proofs.Cutting.{behind-nothing, cut_bytes-append}
use Rattle.msg_frame.proofs.Short.{announced-append}

-- the three kinds of a number with some bytes behind it
announced_parts-missing : (bytes : List ℕ) → IsRest Length bytes → announced_parts bytes ≡ no_message bytes
unfolding announced_parts
announced_parts-missing bytes h =
    elim (cases_lt (length bytes) NUMBER_BYTES) [
      | inl few ↦ cond-true (ltb (length bytes) NUMBER_BYTES) _ _ (lt-ltb _ _ few)
      | inr number ↦
          let fits = h number in
          cond-false (ltb (length bytes) NUMBER_BYTES) _ _ (le-ltb _ _ number)
          ∙ cond-false (ltb MAX_MESSAGE (announced bytes)) _ _ (le-ltb _ _ fits.0)
          ∙ cond-true (ltb (length bytes) (NUMBER_BYTES + announced bytes)) _ _ (lt-ltb _ _ fits.1)
    ]

announced_parts-whole : (bytes : List ℕ) → announced bytes ≤ MAX_MESSAGE → length bytes ≡ NUMBER_BYTES + announced bytes → announced_parts bytes ≡ one_message (drop NUMBER_BYTES bytes)
unfolding announced_parts
announced_parts-whole bytes small whole =
    cond-false (ltb (length bytes) NUMBER_BYTES) _ _ (le-ltb _ _ (omega arith))
    ∙ cond-false (ltb MAX_MESSAGE (announced bytes)) _ _ (le-ltb _ _ small)
    ∙ cond-false (ltb (length bytes) (NUMBER_BYTES + announced bytes)) _ _ (le-ltb _ _ (omega arith))

announced_parts-refused : (bytes : List ℕ) → NUMBER_BYTES ≤ length bytes → MAX_MESSAGE < announced bytes → announced_parts bytes ≡ None
unfolding announced_parts
announced_parts-refused bytes number large =
    cond-false (ltb (length bytes) NUMBER_BYTES) _ _ (le-ltb _ _ number)
    ∙ cond-true (ltb MAX_MESSAGE (announced bytes)) _ _ (lt-ltb _ _ large)

cut_more : (rest : List ℕ) (byte : ℕ) (bytes : List ℕ) (parts : Option Parts) → announced_parts (rest ++ byte ∷ []) ≡ parts → cut_bytes length_byte rest (byte ∷ bytes) ≡ then_cut parts (λ more. cut_bytes length_byte more bytes)
unfolding cut_bytes
cut_more rest byte bytes parts is = ap (λ parts. then_cut parts (λ more. cut_bytes length_byte more bytes)) is

cut_none : (rest : List ℕ) → cut_bytes length_byte rest [] ≡ no_message rest
unfolding cut_bytes
cut_none rest = refl

-- a front of a message that isn't whole isn't whole
front_missing : (front bytes : List ℕ) → IsRest Length (front ++ bytes) → IsRest Length front
front_missing front bytes h number =
    let longer : length (front ++ bytes) ≡ length front + length bytes = length-append front bytes in
    let same : announced (front ++ bytes) ≡ announced front = announced-append front bytes number in
    let fits = h (omega arith) in
    (omega (arith, fits.0), omega (arith, fits.1))

-- where bytes are missing
pub length_missing : (rest bytes : List ℕ) → IsRest Length (rest ++ bytes) → cut_bytes length_byte rest bytes ≡ no_message (rest ++ bytes)
length_missing rest [] h = rw append-nil (cut_none rest)
length_missing rest (byte ∷ bytes) h =
    let joined : rest ++ byte ∷ [] ++ bytes ≡ rest ++ byte ∷ bytes = append_assoc rest (byte ∷ []) bytes in
    let all : IsRest Length (rest ++ byte ∷ [] ++ bytes) = rw joined h in
    cut_more rest byte bytes (no_message (rest ++ byte ∷ [])) (announced_parts-missing (rest ++ byte ∷ []) (front_missing (rest ++ byte ∷ []) bytes all))
    ∙ behind-nothing (cut_bytes length_byte (rest ++ byte ∷ []) bytes)
    ∙ length_missing (rest ++ byte ∷ []) bytes all
    ∙ ap no_message joined

-- the last byte of a number or a message
cut_last : (rest front : List ℕ) (byte : ℕ) (bytes : List ℕ) (parts : Option Parts) → IsRest Length (rest ++ front) → announced_parts (rest ++ front ++ byte ∷ []) ≡ parts →
    cut_bytes length_byte rest (front ++ byte ∷ bytes) ≡ then_cut parts (λ more. cut_bytes length_byte more bytes)
cut_last rest front byte bytes parts h is =
    cut_bytes-append length_byte rest front (byte ∷ bytes)
    ∙ ap (λ parts. then_cut parts (λ more. cut_bytes length_byte more (byte ∷ bytes))) (length_missing rest front h)
    ∙ behind-nothing (cut_bytes length_byte (rest ++ front) (byte ∷ bytes))
    ∙ cut_more (rest ++ front) byte bytes parts is

-- bytes as those before a place, the byte at it and those behind it
split_at_byte : (bytes : List ℕ) (i : ℕ) → i < length bytes → bytes ≡ take i bytes ++ get_or bytes i 0 ∷ drop (i + 1) bytes
split_at_byte bytes i h = sym (take-append-drop i bytes) ∙ ap (λ back. take i bytes ++ back) (drop_more bytes i 0 h)

up_to_byte : (rest bytes : List ℕ) (i : ℕ) → i < length bytes → rest ++ take i bytes ++ get_or bytes i 0 ∷ [] ≡ rest ++ take (i + 1) bytes
up_to_byte rest bytes i h = append_assoc rest (take i bytes) (get_or bytes i 0 ∷ []) ∙ ap (λ more. rest ++ more) (sym (take_more bytes i 0 h))

-- the number of all bytes stands in a front of them
announced-take : (rest bytes : List ℕ) (i : ℕ) → i ≤ length bytes → NUMBER_BYTES ≤ length rest + i → announced (rest ++ bytes) ≡ announced (rest ++ take i bytes)
announced-take rest bytes i within number =
    let len : length (rest ++ take i bytes) ≡ length rest + i = omega (arith, length-append rest (take i bytes), length-take-le i bytes within) in
    ap (λ back. announced (rest ++ back)) (sym (take-append-drop i bytes))
    ∙ ap announced (sym (append_assoc rest (take i bytes) (drop i bytes)))
    ∙ announced-append (rest ++ take i bytes) (drop i bytes) (omega arith)

-- a number that is too large
pub length_refused : (rest bytes : List ℕ) → IsRest Length rest → NUMBER_BYTES ≤ length rest + length bytes → MAX_MESSAGE < announced (rest ++ bytes) → cut_bytes length_byte rest bytes ≡ None
length_refused rest bytes h number large =
    elim (cases_lt (length rest) NUMBER_BYTES) [
      | inl few ↦
          let i : ℕ = NUMBER_BYTES - 1 - length rest in
          let inside : i < length bytes = omega arith in
          let len : length (rest ++ take i bytes) ≡ length rest + i = omega (arith, length-append rest (take i bytes), length-take-le i bytes (omega arith)) in
          let next : length (rest ++ take (i + 1) bytes) ≡ length rest + (i + 1) = omega (arith, length-append rest (take (i + 1) bytes), length-take-le (i + 1) bytes (omega arith)) in
          let same : announced (rest ++ bytes) ≡ announced (rest ++ take (i + 1) bytes) = announced-take rest bytes (i + 1) (omega arith) (omega arith) in
          let refused : announced_parts (rest ++ take (i + 1) bytes) ≡ None = announced_parts-refused (rest ++ take (i + 1) bytes) (omega arith) (omega arith) in
          ap (cut_bytes length_byte rest) (split_at_byte bytes i inside)
          ∙ cut_last rest (take i bytes) (get_or bytes i 0) (drop (i + 1) bytes) None (λ g. absurd (omega arith)) (ap announced_parts (up_to_byte rest bytes i inside) ∙ refused)
      | inr all ↦ absurd (let same : announced (rest ++ bytes) ≡ announced rest = announced-append rest bytes all in let fits = h all in omega (arith, fits.0))
    ]

-- a message that ends within the bytes
length_last : (rest bytes : List ℕ) (i : ℕ) → IsRest Length rest → announced (rest ++ bytes) ≤ MAX_MESSAGE → i < length bytes → length rest + (i + 1) ≡ NUMBER_BYTES + announced (rest ++ bytes) →
    cut_bytes length_byte rest bytes ≡ behind (drop NUMBER_BYTES (rest ++ take (i + 1) bytes) ∷ []) (cut_bytes length_byte [] (drop (i + 1) bytes))
length_last rest bytes i h small inside place =
    let len : length (rest ++ take i bytes) ≡ length rest + i = omega (arith, length-append rest (take i bytes), length-take-le i bytes (omega arith)) in
    let next : length (rest ++ take (i + 1) bytes) ≡ length rest + (i + 1) = omega (arith, length-append rest (take (i + 1) bytes), length-take-le (i + 1) bytes (omega arith)) in
    let same : announced (rest ++ bytes) ≡ announced (rest ++ take (i + 1) bytes) = announced-take rest bytes (i + 1) (omega arith) (omega arith) in
    let whole : announced_parts (rest ++ take (i + 1) bytes) ≡ one_message (drop NUMBER_BYTES (rest ++ take (i + 1) bytes)) = announced_parts-whole (rest ++ take (i + 1) bytes) (omega arith) (omega arith) in
    let missing : IsRest Length (rest ++ take i bytes) = λ number. (let front : announced (rest ++ bytes) ≡ announced (rest ++ take i bytes) = announced-take rest bytes i (omega arith) (omega arith) in (omega arith, omega arith)) in
    ap (cut_bytes length_byte rest) (split_at_byte bytes i inside)
    ∙ cut_last rest (take i bytes) (get_or bytes i 0) (drop (i + 1) bytes) (one_message (drop NUMBER_BYTES (rest ++ take (i + 1) bytes))) missing (ap announced_parts (up_to_byte rest bytes i inside) ∙ whole)

pub length_within : (rest bytes : List ℕ) (n : ℕ) → IsRest Length rest → announced (rest ++ bytes) ≤ MAX_MESSAGE → NUMBER_BYTES + announced (rest ++ bytes) ≤ length rest + length bytes → n ≡ NUMBER_BYTES + announced (rest ++ bytes) - length rest →
    (0 < n) × (n ≤ length bytes) × (NUMBER_BYTES ≤ length rest + n) × (cut_bytes length_byte rest bytes ≡ behind (drop NUMBER_BYTES (rest ++ take n bytes) ∷ []) (cut_bytes length_byte [] (drop n bytes)))
length_within rest bytes n h small whole is =
    let missing : length rest < NUMBER_BYTES + announced (rest ++ bytes) =
    elim (cases_lt (length rest) NUMBER_BYTES) [
      | inl few ↦ omega arith
      | inr all ↦ let same : announced (rest ++ bytes) ≡ announced rest = announced-append rest bytes all in let fits = h all in omega (arith, fits.1)
    ]
    in
    let one : n - 1 + 1 ≡ n = omega arith in
    let last = length_last rest bytes (n - 1) h small (omega arith) (omega arith) in
    (omega arith, omega arith, omega arith, rw one at last)
