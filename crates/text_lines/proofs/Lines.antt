-- The lines of a text, by where they are cut, and how decimal digits stand in a line.
use Rattle.std.specs.List.{concat}
use Rattle.std.proofs.Math.Dec.{eqb-suc-zero}
use Rattle.std.proofs.lemmas.List.Elements.{All-cons, All-head, All-nil, All-tail}
use Rattle.text_lines.proofs.Terms.{Bool, List, [], ap, arith, cond, false, inl, inr, length, refl, sym, true, ℕ, ◌++◌, ◌<◌, ◌^◌, ◌∙◌, ◌∷◌, ◌≡◌, and_parts, false≢true, nat_tests, is_ascii_digit, decimal, ◌==◌, ◌≢◌, ◌⊎◌, all_ascii_digits, IsTorn, behind_line, first_line, is_empty, is_line, lines_of, onto}
use Rattle.text_lines.proofs.Digits.{decimal_digits}

-- ---- cut

line_step : (test : Bool) (byte : ℕ) (bytes rest : List ℕ) → cond test (is_empty bytes) (is_line bytes) ≡ true → (is_line bytes ≡ true → lines_of (bytes ++ rest) ≡ bytes ∷ lines_of rest) → cond test ((byte ∷ []) ∷ lines_of (bytes ++ rest)) (onto byte (lines_of (bytes ++ rest))) ≡ (byte ∷ bytes) ∷ lines_of rest
line_step true byte [] rest h k = refl
line_step true byte (next ∷ bytes) rest h k = absurd (cc)
line_step false byte bytes rest h k = ap (onto byte) (k h)

-- a line in front of a text is its first
pub lines_of-line : (line rest : List ℕ) → is_line line ≡ true → lines_of (line ++ rest) ≡ line ∷ lines_of rest
lines_of-line [] rest h = absurd (cc)
lines_of-line (byte ∷ bytes) rest h = line_step (byte == 10) byte bytes rest h (lines_of-line bytes rest)

whole_step : (test : Bool) (byte : ℕ) (bytes : List ℕ) → first_line bytes ++ behind_line bytes ≡ bytes → cond test (byte ∷ []) (byte ∷ first_line bytes) ++ cond test bytes (behind_line bytes) ≡ byte ∷ bytes
whole_step true byte bytes h = refl
whole_step false byte bytes h = ap (λ rest. byte ∷ rest) h

pub first-behind : (text : List ℕ) → first_line text ++ behind_line text ≡ text
first-behind [] = refl
first-behind (byte ∷ bytes) = whole_step (byte == 10) byte bytes (first-behind bytes)

abbrev pub lines_by : List ℕ → List (List ℕ)
lines_by [] = []
lines_by (byte ∷ bytes) = first_line (byte ∷ bytes) ∷ lines_of (behind_line (byte ∷ bytes))

split_step : (test : Bool) (byte : ℕ) (bytes : List ℕ) → lines_of bytes ≡ lines_by bytes → cond test ((byte ∷ []) ∷ lines_of bytes) (onto byte (lines_of bytes)) ≡ cond test (byte ∷ []) (byte ∷ first_line bytes) ∷ lines_of (cond test bytes (behind_line bytes))
split_step true byte bytes h = refl
split_step false byte [] h = refl
split_step false byte (next ∷ bytes) h = ap (onto byte) h

pub lines_is : (text : List ℕ) → lines_of text ≡ lines_by text
lines_is [] = refl
lines_is (byte ∷ bytes) = split_step (byte == 10) byte bytes (lines_is bytes)

-- ---- joined

joined-onto : (byte : ℕ) (lines : List (List ℕ)) → concat (onto byte lines) ≡ byte ∷ concat lines
joined-onto byte [] = refl
joined-onto byte (line ∷ lines) = refl

joined_step : (test : Bool) (byte : ℕ) (bytes : List ℕ) → concat (lines_of bytes) ≡ bytes → concat (cond test ((byte ∷ []) ∷ lines_of bytes) (onto byte (lines_of bytes))) ≡ byte ∷ bytes
joined_step true byte bytes h = ap (λ rest. byte ∷ rest) h
joined_step false byte bytes h = joined-onto byte (lines_of bytes) ∙ ap (λ rest. byte ∷ rest) h

-- the lines of a text are the text
pub joined : (text : List ℕ) → concat (lines_of text) ≡ text
joined [] = refl
joined (byte ∷ bytes) = joined_step (byte == 10) byte bytes (joined bytes)

pub no_bytes : (bytes : List ℕ) → (length bytes == 0) ≡ true → bytes ≡ []
no_bytes [] h = refl
no_bytes (byte ∷ bytes) h = absurd (false≢true (sym (eqb-suc-zero (length bytes)) ∙ h))

-- ---- digits in a line

digit_other : (byte : ℕ) → is_ascii_digit byte ≡ true → (byte == 10) ≡ false
digit_other byte h = grind (arith, nat_tests)

is_line-digits : (digits rest : List ℕ) → all_ascii_digits digits ≡ true → is_line rest ≡ true → is_line (digits ++ rest) ≡ true
is_line-digits [] rest are h = h
is_line-digits (byte ∷ bytes) rest are h = let parts = and_parts (is_ascii_digit byte) (all_ascii_digits bytes) are in rw (digit_other byte parts.0) (is_line-digits bytes rest parts.1 h)

pub is_line-decimal : (n : ℕ) (rest : List ℕ) → n < 2 ^ 64 → is_line rest ≡ true → is_line (decimal n ++ rest) ≡ true
is_line-decimal n rest small h = is_line-digits (decimal n) rest (decimal_digits n small) h

-- ---- torn

abbrev OtherThanFeed : ℕ → Type 0
OtherThanFeed byte = byte ≢ 10

other_test : (byte : ℕ) → byte ≢ 10 → (byte == 10) ≡ false
other_test byte h = grind (arith, nat_tests)

other_fact : (byte : ℕ) → (byte == 10) ≡ false → byte ≢ 10
other_fact byte h = grind (arith, nat_tests)

torn_head : (byte : ℕ) (bytes : List ℕ) → IsTorn (byte ∷ bytes) → (byte == 10) ≡ false
torn_head byte bytes h = other_test byte (All-head OtherThanFeed byte bytes h)

torn_cons : (byte : ℕ) (bytes : List ℕ) → (byte == 10) ≡ false → IsTorn bytes → IsTorn (byte ∷ bytes)
torn_cons byte bytes e h = All-cons OtherThanFeed byte bytes (other_fact byte e) h

pub is_line-torn : (bytes : List ℕ) → IsTorn bytes → is_line bytes ≡ false
is_line-torn [] h = refl
is_line-torn (byte ∷ bytes) h = rw (torn_head byte bytes h) (is_line-torn bytes (All-tail OtherThanFeed byte bytes h))

-- the lines of a torn line: it, or none
abbrev pub torn_lines : List ℕ → List (List ℕ)
torn_lines [] = []
torn_lines (byte ∷ bytes) = (byte ∷ bytes) ∷ []

onto_torn : (byte : ℕ) (bytes : List ℕ) → onto byte (torn_lines bytes) ≡ (byte ∷ bytes) ∷ []
onto_torn byte [] = refl
onto_torn byte (next ∷ bytes) = refl

pub lines_of-torn : (bytes : List ℕ) → IsTorn bytes → lines_of bytes ≡ torn_lines bytes
lines_of-torn [] h = refl
lines_of-torn (byte ∷ bytes) h =
    rw (torn_head byte bytes h) (ap (onto byte) (lines_of-torn bytes (All-tail OtherThanFeed byte bytes h)) ∙ onto_torn byte bytes)

torn_step : (byte : ℕ) (bytes : List ℕ) (test : Bool) → (byte == 10) ≡ test → is_line (cond test (byte ∷ []) (byte ∷ first_line bytes)) ≡ false → (is_line (first_line bytes) ≡ false → IsTorn bytes) → IsTorn (byte ∷ bytes)
torn_step byte bytes true e h k = let whole : is_line (byte ∷ []) ≡ true = rw e refl in absurd (cc)
torn_step byte bytes false e h k = let rest : is_line (byte ∷ first_line bytes) ≡ is_line (first_line bytes) = rw e refl in torn_cons byte bytes e (k (sym rest ∙ h))

-- a text whose first line isn't whole is a torn line
pub torn-first : (text : List ℕ) → is_line (first_line text) ≡ false → IsTorn text
torn-first [] h = All-nil OtherThanFeed
torn-first (byte ∷ bytes) h = torn_step byte bytes (byte == 10) refl h (torn-first bytes)

-- some lines, of which the last may be torn
abbrev pub AreLines : List (List ℕ) → Type 0
AreLines [] = Unit {0}
AreLines (line ∷ lines) = ((is_line line ≡ true) × AreLines lines) ⊎ (IsTorn line × (lines ≡ []))

onto_are : (byte : ℕ) (lines : List (List ℕ)) → (byte == 10) ≡ false → AreLines lines → AreLines (onto byte lines)
onto_are byte [] e are = inr (torn_cons byte [] e (All-nil OtherThanFeed), refl)
onto_are byte (line ∷ lines) e (inl whole) = inl (rw e whole.0, whole.1)
onto_are byte (line ∷ lines) e (inr torn) = inr (torn_cons byte line e torn.0, torn.1)

are_step : (byte : ℕ) (bytes : List ℕ) (test : Bool) → (byte == 10) ≡ test → AreLines (lines_of bytes) → AreLines (cond test ((byte ∷ []) ∷ lines_of bytes) (onto byte (lines_of bytes)))
are_step byte bytes true e are = inl (rw e refl, are)
are_step byte bytes false e are = onto_are byte (lines_of bytes) e are

pub are_lines : (text : List ℕ) → AreLines (lines_of text)
are_lines [] = tt
are_lines (byte ∷ bytes) = are_step byte bytes (byte == 10) refl (are_lines bytes)

-- ---- a text that is cut short

-- a text that has a line in front, cut behind that: what stands behind the line, in front of the cut
pub record HasLine (line front rest behind : List ℕ) : Type 0 where
  pub tail : List ℕ
  pub front_is : line ++ tail ≡ front
  pub rest_is : tail ++ rest ≡ behind

line_more : (byte a : ℕ) (line front rest behind : List ℕ) → byte ≡ a → HasLine line front rest behind → HasLine (a ∷ line) (byte ∷ front) rest behind
line_more byte a line front rest behind e has = record { tail = has.tail; front_is = ap (λ (first : ℕ). first ∷ (line ++ has.tail)) (sym e) ∙ ap (λ bytes. byte ∷ bytes) has.front_is; rest_is = has.rest_is }

line_cut_step : (byte a : ℕ) (line front rest behind : List ℕ) (test : Bool) → (byte == 10) ≡ test → cond test (is_empty line) (is_line line) ≡ true → byte ≡ a → front ++ rest ≡ line ++ behind →
    (is_line line ≡ true → (IsTorn front × (length front < length line)) ⊎ HasLine line front rest behind) → (IsTorn (byte ∷ front) × (length (byte ∷ front) < length (a ∷ line))) ⊎ HasLine (a ∷ line) (byte ∷ front) rest behind
line_cut_step byte a [] front rest behind true e h same more k = inr (line_more byte a [] front rest behind same (record { tail = front; front_is = refl; rest_is = more }))
line_cut_step byte a (next ∷ line) front rest behind true e h same more k = absurd (cc)
line_cut_step byte a line front rest behind false e h same more k = by (k h)
  where
    by : (IsTorn front × (length front < length line)) ⊎ HasLine line front rest behind → (IsTorn (byte ∷ front) × (length (byte ∷ front) < length (a ∷ line))) ⊎ HasLine (a ∷ line) (byte ∷ front) rest behind
    by (inl torn) = let few : length front < length line = torn.1 in inl (torn_cons byte front e torn.0, omega arith)
    by (inr has) = inr (line_more byte a line front rest behind same has)

-- a text that is cut within its first line is torn; else that line stands in front of the cut
pub line-cut : (line front rest behind : List ℕ) → is_line line ≡ true → front ++ rest ≡ line ++ behind → (IsTorn front × (length front < length line)) ⊎ HasLine line front rest behind
line-cut [] front rest behind h e = absurd (cc)
line-cut (a ∷ line) [] rest behind h e = inl (All-nil OtherThanFeed, omega arith)
line-cut (a ∷ line) (byte ∷ front) rest behind h e =
    let first : byte ≡ a = cc in
    let more : front ++ rest ≡ line ++ behind = cc in
    let whole : cond (byte == 10) (is_empty line) (is_line line) ≡ true = rw first h in
    line_cut_step byte a line front rest behind (byte == 10) refl whole first more (λ is. line-cut line front rest behind is more)
