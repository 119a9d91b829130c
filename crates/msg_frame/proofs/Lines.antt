-- Where a line ends.
use Rattle.std.proofs.lemmas.List.Quantifiers.{position-Some}
use Rattle.std.proofs.lemmas.List.Sums.{prefix_len-le-length}
use Rattle.msg_frame.proofs.Terms.{List, None, Some, [], ap, append_assoc, arith, drop, eqb, false, get_or, inl, inr, leb, length, length-append, length-take-le, ltb, not, refl, suc, sym, take, true, ℕ, ◌++◌, ◌+◌, ◌<◌, ◌==◌, ◌∙◌, ◌∷◌, ◌≡◌, ◌≤◌, cases_Bool, cases_lt, cond-false, cond-true, le-leb, lt-leb, ltb-false, append-nil, drop_all, drop_more, take_all, take_more, position, position_or_len, LINE_FEED, MAX_MESSAGE, behind, cut_bytes, line_byte, no_message, one_message, then_cut}
use Rattle.msg_frame.proofs.Cutting.{behind-nothing}

-- how many bytes stand before the first line feed
abbrev pub before_feed : List ℕ → ℕ
before_feed bytes = position_or_len (λ byte. byte == LINE_FEED) bytes

line_byte-full : (rest : List ℕ) (byte : ℕ) → MAX_MESSAGE ≤ length rest → line_byte rest byte ≡ None
unfolding line_byte
line_byte-full rest byte h = cond-true (leb MAX_MESSAGE (length rest)) _ _ (le-leb _ _ h)

line_byte-other : (rest : List ℕ) (byte : ℕ) → length rest < MAX_MESSAGE → (byte == LINE_FEED) ≡ false → line_byte rest byte ≡ no_message (rest ++ byte ∷ [])
unfolding line_byte
line_byte-other rest byte h other = cond-false (leb MAX_MESSAGE (length rest)) _ _ (lt-leb _ _ h) ∙ cond-false (eqb byte LINE_FEED) _ _ other

line_byte-feed : (rest : List ℕ) (byte : ℕ) → length rest < MAX_MESSAGE → (byte == LINE_FEED) ≡ true → line_byte rest byte ≡ one_message (rest ++ byte ∷ [])
unfolding line_byte
line_byte-feed rest byte h feed = cond-false (leb MAX_MESSAGE (length rest)) _ _ (lt-leb _ _ h) ∙ cond-true (eqb byte LINE_FEED) _ _ feed

-- one byte that is no line feed, in a line that has room
first_other : (rest : List ℕ) (byte : ℕ) (bytes : List ℕ) → length rest < MAX_MESSAGE → (byte == LINE_FEED) ≡ false → cut_bytes line_byte rest (byte ∷ bytes) ≡ cut_bytes line_byte (rest ++ byte ∷ []) bytes
unfolding cut_bytes
first_other rest byte bytes h other =
    ap (λ parts. then_cut parts (λ more. cut_bytes line_byte more bytes)) (line_byte-other rest byte h other) ∙ behind-nothing (cut_bytes line_byte (rest ++ byte ∷ []) bytes)

first_feed : (rest : List ℕ) (byte : ℕ) (bytes : List ℕ) → length rest < MAX_MESSAGE → (byte == LINE_FEED) ≡ true → cut_bytes line_byte rest (byte ∷ bytes) ≡ behind ((rest ++ byte ∷ []) ∷ []) (cut_bytes line_byte [] bytes)
unfolding cut_bytes
first_feed rest byte bytes h feed = ap (λ parts. then_cut parts (λ more. cut_bytes line_byte more bytes)) (line_byte-feed rest byte h feed)

first_full : (rest : List ℕ) (byte : ℕ) (bytes : List ℕ) → MAX_MESSAGE ≤ length rest → cut_bytes line_byte rest (byte ∷ bytes) ≡ None
unfolding cut_bytes
first_full rest byte bytes h = ap (λ parts. then_cut parts (λ more. cut_bytes line_byte more bytes)) (line_byte-full rest byte h)

before_feed-here : (byte : ℕ) (bytes : List ℕ) → (byte == LINE_FEED) ≡ true → before_feed (byte ∷ bytes) ≡ 0
before_feed-here byte bytes feed = rw feed refl

before_feed-later : (byte : ℕ) (bytes : List ℕ) → (byte == LINE_FEED) ≡ false → before_feed (byte ∷ bytes) ≡ suc (before_feed bytes)
before_feed-later byte bytes other = rw other (omega arith)

cut_none : (rest : List ℕ) → cut_bytes line_byte rest [] ≡ no_message rest
unfolding cut_bytes
cut_none rest = refl

skip_more : (rest : List ℕ) (byte : ℕ) (bytes : List ℕ) → cut_bytes line_byte rest (byte ∷ bytes) ≡ cut_bytes line_byte (rest ++ byte ∷ []) bytes →
    cut_bytes line_byte (rest ++ byte ∷ []) bytes ≡ cut_bytes line_byte (rest ++ byte ∷ [] ++ take (before_feed bytes) bytes) (drop (before_feed bytes) bytes) →
    cut_bytes line_byte rest (byte ∷ bytes) ≡ cut_bytes line_byte (rest ++ take (suc (before_feed bytes)) (byte ∷ bytes)) (drop (suc (before_feed bytes)) (byte ∷ bytes))
skip_more rest byte bytes first next = first ∙ next ∙ ap (λ front. cut_bytes line_byte front (drop (before_feed bytes) bytes)) (append_assoc rest (byte ∷ []) (take (before_feed bytes) bytes))

line_skips : (rest bytes : List ℕ) → length rest + before_feed bytes ≤ MAX_MESSAGE → cut_bytes line_byte rest bytes ≡ cut_bytes line_byte (rest ++ take (before_feed bytes) bytes) (drop (before_feed bytes) bytes)
line_skips rest [] h = rw append-nil refl
line_skips rest (byte ∷ bytes) h =
    elim (cases_Bool (byte == LINE_FEED)) [
      | inl feed ↦ rw (before_feed-here byte bytes feed) (rw append-nil refl)
      | inr other ↦
          let later : before_feed (byte ∷ bytes) ≡ suc (before_feed bytes) = before_feed-later byte bytes other in
          let longer : length (rest ++ byte ∷ []) ≡ length rest + 1 = length-append rest (byte ∷ []) in
          rw later (skip_more rest byte bytes (first_other rest byte bytes (omega arith) other) (line_skips (rest ++ byte ∷ []) bytes (omega arith)))
    ]

-- a line that is too long before its line feed
line_overruns : (rest bytes : List ℕ) → MAX_MESSAGE < length rest + before_feed bytes → length rest ≤ MAX_MESSAGE → cut_bytes line_byte rest bytes ≡ None
line_overruns rest [] h room = absurd (omega arith)
line_overruns rest (byte ∷ bytes) h room =
    elim (cases_Bool (byte == LINE_FEED)) [
      | inl feed ↦ absurd (let here : before_feed (byte ∷ bytes) ≡ 0 = before_feed-here byte bytes feed in omega arith)
      | inr other ↦
          let later : before_feed (byte ∷ bytes) ≡ suc (before_feed bytes) = before_feed-later byte bytes other in
          let longer : length (rest ++ byte ∷ []) ≡ length rest + 1 = length-append rest (byte ∷ []) in
          elim (cases_lt (length rest) MAX_MESSAGE) [
            | inl less ↦ first_other rest byte bytes less other ∙ line_overruns (rest ++ byte ∷ []) bytes (omega arith) (omega arith)
            | inr full ↦ first_full rest byte bytes full
          ]
    ]

-- the place that is found
found_at : (bytes : List ℕ) (i : ℕ) → Some i ≡ position (λ byte. byte == LINE_FEED) bytes → (before_feed bytes ≡ i) × (i < length bytes) × ((get_or bytes i 0 == LINE_FEED) ≡ true)
found_at bytes i is =
    let found = position-Some (λ byte. byte == LINE_FEED) bytes i 0 (sym is) in
    elim (cases_Bool (ltb (before_feed bytes) (length bytes))) [
      | inl inside ↦
          let same : Some i ≡ Some (before_feed bytes) = is ∙ cond-true (ltb (before_feed bytes) (length bytes)) _ _ inside in
          (cc, found.0, found.1)
      | inr outside ↦ absurd (let none : Some i ≡ None = is ∙ cond-false (ltb (before_feed bytes) (length bytes)) _ _ outside in cc)
    ]

found_nowhere : (bytes : List ℕ) → None ≡ position (λ byte. byte == LINE_FEED) bytes → before_feed bytes ≡ length bytes
found_nowhere bytes is =
    elim (cases_Bool (ltb (before_feed bytes) (length bytes))) [
      | inl inside ↦ absurd (let some : None ≡ Some (before_feed bytes) = is ∙ cond-true (ltb (before_feed bytes) (length bytes)) _ _ inside in cc)
      | inr outside ↦ omega (arith, ltb-false _ _ outside, prefix_len-le-length (λ byte. not (byte == LINE_FEED)) bytes)
    ]

-- where no line feed stands
pub line_missing : (rest bytes : List ℕ) → None ≡ position (λ byte. byte == LINE_FEED) bytes → length rest + length bytes ≤ MAX_MESSAGE → cut_bytes line_byte rest bytes ≡ no_message (rest ++ bytes)
line_missing rest bytes is h =
    let n : before_feed bytes ≡ length bytes = found_nowhere bytes is in
    line_skips rest bytes (omega arith)
    ∙ rw (take_all (before_feed bytes) bytes (omega arith), drop_all (before_feed bytes) bytes (omega arith)) (cut_none (rest ++ bytes))

pub line_too_long : (rest bytes : List ℕ) → None ≡ position (λ byte. byte == LINE_FEED) bytes → length rest ≤ MAX_MESSAGE → MAX_MESSAGE < length rest + length bytes → cut_bytes line_byte rest bytes ≡ None
line_too_long rest bytes is room h = let n : before_feed bytes ≡ length bytes = found_nowhere bytes is in line_overruns rest bytes (omega arith) room

-- where a line feed stands
pub line_within : (rest bytes : List ℕ) (i : ℕ) → Some i ≡ position (λ byte. byte == LINE_FEED) bytes → length rest + i < MAX_MESSAGE → cut_bytes line_byte rest bytes ≡ behind ((rest ++ take (i + 1) bytes) ∷ []) (cut_bytes line_byte [] (drop (i + 1) bytes))
line_within rest bytes i is h =
    let found = found_at bytes i is in
    let front : List ℕ = rest ++ take i bytes in
    let len : length front ≡ length rest + i = omega (arith, length-append rest (take i bytes), length-take-le i bytes (omega (arith, found.1))) in
    let skips : cut_bytes line_byte rest bytes ≡ cut_bytes line_byte front (drop i bytes) = rw found.0 at (line_skips rest bytes (omega (arith, found.0))) in
    let more : take (i + 1) bytes ≡ take i bytes ++ get_or bytes i 0 ∷ [] = take_more bytes i 0 found.1 in
    skips
    ∙ ap (cut_bytes line_byte front) (drop_more bytes i 0 found.1)
    ∙ first_feed front (get_or bytes i 0) (drop (i + 1) bytes) (omega arith) found.2
    ∙ ap (λ line. behind (line ∷ []) (cut_bytes line_byte [] (drop (i + 1) bytes))) (append_assoc rest (take i bytes) (get_or bytes i 0 ∷ []) ∙ ap (λ more. rest ++ more) (sym more))

pub line_over : (rest bytes : List ℕ) (i : ℕ) → Some i ≡ position (λ byte. byte == LINE_FEED) bytes → length rest ≤ MAX_MESSAGE → MAX_MESSAGE ≤ length rest + i → cut_bytes line_byte rest bytes ≡ None
line_over rest bytes i is room h =
    let found = found_at bytes i is in
    elim (cases_lt MAX_MESSAGE (length rest + i)) [
      | inl over ↦ line_overruns rest bytes (omega (arith, found.0)) room
      | inr full ↦
          let front : List ℕ = rest ++ take i bytes in
          let len : length front ≡ length rest + i = omega (arith, length-append rest (take i bytes), length-take-le i bytes (omega (arith, found.1))) in
          let skips : cut_bytes line_byte rest bytes ≡ cut_bytes line_byte front (drop i bytes) = rw found.0 at (line_skips rest bytes (omega (arith, found.0))) in
          skips ∙ ap (cut_bytes line_byte front) (drop_more bytes i 0 found.1) ∙ first_full front (get_or bytes i 0) (drop (i + 1) bytes) (omega arith)
    ]
