-- Numbers as far as they are told.
use Rattle.asm_lines.proofs.Terms.{List, [], arith, length, refl, ℕ, ◌<◌, ◌∷◌, ◌≡◌, clipped, decimal_from, hexadecimal_from, number_of, signed_decimal}

-- what a loop over decimal digits has found: a number, which it tells as far as that goes
pub record IsDecimalSoFar (digits rest : List ℕ) (told : ℕ) : Type 0 where
  pub whole : ℕ
  pub told_is : told ≡ clipped whole
  pub goes_on : decimal_from whole rest ≡ decimal_from 0 digits

pub record IsHexSoFar (digits rest : List ℕ) (told : ℕ) : Type 0 where
  pub whole : ℕ
  pub told_is : told ≡ clipped whole
  pub goes_on : hexadecimal_from whole rest ≡ hexadecimal_from 0 digits

-- fewer than two bytes are no hexadecimal number
pub number_of-short : (bytes : List ℕ) → length bytes < 2 → number_of bytes ≡ signed_decimal bytes
unfolding number_of signed_decimal
number_of-short [] h = refl
number_of-short (first ∷ []) h = refl
number_of-short (first ∷ second ∷ rest) h = absurd (omega arith)
