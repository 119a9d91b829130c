-- Decimal digits that are written are read as the number that they were written of.
use Rattle.std.specs.Prelude.{drop}
use Rattle.std.proofs.lemmas.Fmt.{digits_decimal, digits_value-decimal}
use Rattle.std.proofs.lemmas.Str.Parse.{IsNumeralModel, FoldsDigits, numerals_by_fold, tells_all_ascii_digits}
use Rattle.text_lines.proofs.Terms.{List, [], ap, arith, false, refl, true, ℕ, ◌*◌, ◌++◌, ◌+◌, ◌-◌, ◌<◌, ◌^◌, ◌∙◌, ◌∷◌, ◌≡◌, and_parts, nat_tests, is_ascii_digit, decimal, nat_lt, all_ascii_digits}
use Rattle.text_lines.specs.Numbers.{behind_digits, clipped, first_number, number_from, second_number}

-- what a loop over digits has found: a number, which it tells as far as that goes
pub record IsNumberSoFar (bytes rest : List ℕ) (told : ℕ) : Type 0 where
  pub whole : ℕ
  pub told_is : told ≡ clipped whole
  pub goes_on : number_from whole rest ≡ number_from 0 bytes
  pub behind : behind_digits rest ≡ behind_digits bytes

abbrev read_on : ℕ → List ℕ → ℕ
read_on n [] = n
read_on n (c ∷ cs) = read_on (10 * n + (c - 48)) cs

folds : FoldsDigits read_on
folds = record {
  empty = λ n. refl;
  more = λ n c cs digit. let turned : 10 * n + (c - 48) ≡ n * 10 + (c - 48) = omega arith in ap (λ (m : ℕ). read_on m cs) turned;
}

own : IsNumeralModel (λ ds. all_ascii_digits ds ≡ true) (read_on 0)
own = numerals_by_fold (λ ds. all_ascii_digits ds ≡ true) tells_all_ascii_digits read_on folds

-- behind digits stands a byte that is none
number_front : (n : ℕ) (digits : List ℕ) (mark : ℕ) (rest : List ℕ) → all_ascii_digits digits ≡ true → is_ascii_digit mark ≡ false → number_from n (digits ++ mark ∷ rest) ≡ read_on n digits
number_front n [] mark rest are other = rw other refl
number_front n (c ∷ cs) mark rest are other = let h = and_parts (is_ascii_digit c) (all_ascii_digits cs) are in rw h.0 (number_front (10 * n + (c - 48)) cs mark rest h.1 other)

behind_front : (digits : List ℕ) (mark : ℕ) (rest : List ℕ) → all_ascii_digits digits ≡ true → is_ascii_digit mark ≡ false → behind_digits (digits ++ mark ∷ rest) ≡ mark ∷ rest
behind_front [] mark rest are other = rw other refl
behind_front (c ∷ cs) mark rest are other = let h = and_parts (is_ascii_digit c) (all_ascii_digits cs) are in rw h.0 (behind_front cs mark rest h.1 other)

pub decimal_digits : (n : ℕ) → n < 2 ^ 64 → all_ascii_digits (decimal n) ≡ true
decimal_digits n h = digits_decimal own n h

pub number-decimal : (n mark : ℕ) (rest : List ℕ) → n < 2 ^ 64 → is_ascii_digit mark ≡ false → number_from 0 (decimal n ++ mark ∷ rest) ≡ n
number-decimal n mark rest h other = number_front 0 (decimal n) mark rest (decimal_digits n h) other ∙ digits_value-decimal own n h

pub behind-decimal : (n mark : ℕ) (rest : List ℕ) → n < 2 ^ 64 → is_ascii_digit mark ≡ false → behind_digits (decimal n ++ mark ∷ rest) ≡ mark ∷ rest
behind-decimal n mark rest h other = behind_front (decimal n) mark rest (decimal_digits n h) other

-- two numbers, with a byte that is no digit behind each, are told as they were written
pub two-decimals : (first second mark other : ℕ) (rest : List ℕ) → first < 2 ^ 64 → second < 2 ^ 64 → is_ascii_digit mark ≡ false → is_ascii_digit other ≡ false →
    let bytes : List ℕ = decimal first ++ mark ∷ (decimal second ++ other ∷ rest) in (first_number bytes ≡ first) × (second_number bytes ≡ second)
two-decimals first second mark other rest h k no_mark no_other =
    let behind : List ℕ = decimal second ++ other ∷ rest in (
      number-decimal first mark behind h no_mark,
      ap (λ bytes. number_from 0 (drop 1 bytes)) (behind-decimal first mark behind h no_mark) ∙ number-decimal second other rest k no_other,
    )

-- ---- numbers as far as they are told

pub clipped_test : (n most : ℕ) → most < 2 ^ 64 → nat_lt (clipped n) most ≡ nat_lt n most
clipped_test n most h = grind (arith, nat_tests)

pub clipped_whole : (n most : ℕ) → most < 2 ^ 64 → nat_lt (clipped n) most ≡ true → clipped n ≡ n
clipped_whole n most h k = let few : clipped n < most = grind (arith, nat_tests) in omega arith
