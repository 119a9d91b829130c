-- How a text is cut, by what stands in front of it.
use Rattle.report_reading.proofs.Terms.{Bool, List, [], ap, cond, false, refl, true, ℕ, ◌++◌, ◌∙◌, ◌∷◌, ◌≡◌, concat, ◌==◌, first_line, is_empty, is_line, Cut, cut, cut_into, is_torn, onto}

-- ---- a line in front, and a torn line

line_step : (test : Bool) (byte : ℕ) (bytes rest : List ℕ) → cond test (is_empty bytes) (is_line bytes) ≡ true → (is_line bytes ≡ true → cut (bytes ++ rest) ≡ cut_into (bytes ∷ (cut rest).lines) (cut rest).torn) →
    cond test (cut_into ((byte ∷ []) ∷ (cut (bytes ++ rest)).lines) (cut (bytes ++ rest)).torn) (onto byte (cut (bytes ++ rest)).lines (cut (bytes ++ rest)).torn) ≡ cut_into ((byte ∷ bytes) ∷ (cut rest).lines) (cut rest).torn
line_step true byte [] rest h k = refl
line_step true byte (next ∷ bytes) rest h k = absurd (cc)
line_step false byte bytes rest h k = ap (λ (c : Cut). onto byte c.lines c.torn) (k h)

pub cut-line : (line rest : List ℕ) → is_line line ≡ true → cut (line ++ rest) ≡ cut_into (line ∷ (cut rest).lines) (cut rest).torn
cut-line [] rest h = absurd (cc)
cut-line (byte ∷ bytes) rest h = line_step (byte == 10) byte bytes rest h (cut-line bytes rest)

torn_step : (test : Bool) (byte : ℕ) (bytes : List ℕ) → cond test false (is_torn bytes) ≡ true → (is_torn bytes ≡ true → cut bytes ≡ cut_into [] bytes) →
    cond test (cut_into ((byte ∷ []) ∷ (cut bytes).lines) (cut bytes).torn) (onto byte (cut bytes).lines (cut bytes).torn) ≡ cut_into [] (byte ∷ bytes)
torn_step true byte bytes h k = absurd (cc)
torn_step false byte bytes h k = ap (λ (c : Cut). onto byte c.lines c.torn) (k h)

pub cut-torn : (torn : List ℕ) → is_torn torn ≡ true → cut torn ≡ cut_into [] torn
cut-torn [] h = refl
cut-torn (byte ∷ bytes) h = torn_step (byte == 10) byte bytes h (cut-torn bytes)

-- ---- the parts together

joined-onto : (byte : ℕ) (lines : List (List ℕ)) (torn : List ℕ) → concat (onto byte lines torn).lines ++ (onto byte lines torn).torn ≡ byte ∷ (concat lines ++ torn)
joined-onto byte [] torn = refl
joined-onto byte (line ∷ lines) torn = refl

joined_step : (test : Bool) (byte : ℕ) (c : Cut) (bytes : List ℕ) → concat c.lines ++ c.torn ≡ bytes →
    concat (cond test (cut_into ((byte ∷ []) ∷ c.lines) c.torn) (onto byte c.lines c.torn)).lines ++ (cond test (cut_into ((byte ∷ []) ∷ c.lines) c.torn) (onto byte c.lines c.torn)).torn ≡ byte ∷ bytes
joined_step true byte c bytes h = ap (λ (rest : List ℕ). byte ∷ rest) h
joined_step false byte c bytes h = joined-onto byte c.lines c.torn ∙ ap (λ (rest : List ℕ). byte ∷ rest) h

pub cut-joined : (text : List ℕ) → concat (cut text).lines ++ (cut text).torn ≡ text
cut-joined [] = refl
cut-joined (byte ∷ bytes) = joined_step (byte == 10) byte (cut bytes) bytes (cut-joined bytes)

onto_torn : (byte : ℕ) (lines : List (List ℕ)) (torn : List ℕ) → (byte == 10) ≡ false → is_torn torn ≡ true → is_torn (onto byte lines torn).torn ≡ true
onto_torn byte [] torn other h = rw other h
onto_torn byte (line ∷ lines) torn other h = h

is_torn_step : (test : Bool) (byte : ℕ) (c : Cut) → (byte == 10) ≡ test → is_torn c.torn ≡ true → is_torn (cond test (cut_into ((byte ∷ []) ∷ c.lines) c.torn) (onto byte c.lines c.torn)).torn ≡ true
is_torn_step true byte c e h = h
is_torn_step false byte c e h = onto_torn byte c.lines c.torn e h

pub torn-cut : (text : List ℕ) → is_torn (cut text).torn ≡ true
torn-cut [] = refl
torn-cut (byte ∷ bytes) = is_torn_step (byte == 10) byte (cut bytes) refl (torn-cut bytes)

-- ---- the first line of a text in which a line feed stands

first_step : (test : Bool) (byte : ℕ) (bytes : List ℕ) → (byte == 10) ≡ test → cond test false (is_torn bytes) ≡ false → (is_torn bytes ≡ false → is_line (first_line bytes) ≡ true) → is_line (cond test (byte ∷ []) (byte ∷ first_line bytes)) ≡ true
first_step true byte bytes e h k = rw e refl
first_step false byte bytes e h k = rw e (k h)

pub first-line : (text : List ℕ) → is_torn text ≡ false → is_line (first_line text) ≡ true
first-line [] h = absurd (cc)
first-line (byte ∷ bytes) h = first_step (byte == 10) byte bytes refl h (first-line bytes)
