-- A numeral of the words is one that `parse` reads, and a small one that is read as one of 32 bits.
use Rattle.command_line.proofs.Terms.{Bool, Err, None, [], ap, arith, false, ltb-true, nat_eq, nat_lt, refl, subst, sym, true, true≢false, unwrap_or, ℕ, ◌<◌, ◌^◌, ◌∙◌, ◌∷◌, ◌≡◌, ◌≤◌, and_parts, nat_tests, digit_value, is_ascii_digit, list_all, AllDigits, IsNumeral, ParsesUnsigned, digits_value, without_leading_plus, Text, is_numeral, number_of}

digit : (c : ℕ) → is_ascii_digit c ≡ true → digit_value c < 10
digit c e = grind (arith, nat_tests)

no_plus : (c : ℕ) → is_ascii_digit c ≡ true → nat_eq c 43 ≡ false
no_plus c e = grind (arith, nat_tests)

digits : (cs : Text) → list_all is_ascii_digit cs ≡ true → AllDigits 10 cs
digits [] e = tt
digits (c ∷ cs) e = let parts = and_parts (is_ascii_digit c) _ e in (digit c parts.0, digits cs parts.1)

plain : (first : ℕ) (rest : Text) → is_ascii_digit first ≡ true → without_leading_plus (first ∷ rest) ≡ first ∷ rest
plain first rest e = rw (no_plus first e) refl

all_digits : (text : Text) → is_numeral text ≡ true → IsNumeral 10 text × (without_leading_plus text ≡ text)
all_digits [] e = absurd (true≢false (sym e))
all_digits (first ∷ []) e = ((omega arith, (digit first e, tt)), plain first [] e)
all_digits (first ∷ second ∷ rest) e =
    let all = (and_parts _ (list_all is_ascii_digit (first ∷ second ∷ rest)) e).1 in
    ((omega arith, digits (first ∷ second ∷ rest) all), plain first (second ∷ rest) (and_parts (is_ascii_digit first) _ all).0)

-- where `parse` refuses a numeral, it is too large
pub refused : {E : Type 0} (text : Text) (e : E) → is_numeral text ≡ true → ParsesUnsigned {E = E} 64 10 text (Err e) → None ≡ number_of text
refused {E} text e numeral denied = go (nat_lt (digits_value 10 text) (2 ^ 64)) refl
  where
    go : (b : Bool) → nat_lt (digits_value 10 text) (2 ^ 64) ≡ b → None ≡ number_of text
    go true is = let known = all_digits text numeral in absurd (denied (rw known.1 (known.0, ltb-true (digits_value 10 text) (2 ^ 64) is)))
    go false is = rw (numeral, is) refl

-- the number that a text writes, or 0
abbrev pub number_read : Text → ℕ
number_read text = unwrap_or (number_of text) 0

-- a number that is at most a small one is that which was read as one of 32 bits
pub small_read : (text given : Text) (n most : ℕ) → text ≡ given → (number_read text < 2 ^ 32 → n ≡ number_read text) → number_read given ≤ most → nat_lt most (2 ^ 32) ≡ true → n ≡ number_read given
small_read text given n most same read few small =
    let below : number_read text < 2 ^ 32 = subst (λ (t : Text). number_read t < 2 ^ 32) (sym same) (under (number_read given) most few (ltb-true most (2 ^ 32) small)) in
    read below ∙ ap number_read same
  where
    under : (a b : ℕ) → a ≤ b → b < 2 ^ 32 → a < 2 ^ 32
    under a b low high = omega arith
