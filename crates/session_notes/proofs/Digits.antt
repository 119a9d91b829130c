-- Eight hexadecimal digits are what std writes, with zeros in front.
use Rattle.std.proofs.Common.{◌≡◌, ℕ, zero, suc, ◌+◌, ◌-◌, ◌*◌, ◌/◌, ◌%◌, ◌^◌, ◌<◌, ◌≤◌, Bool, true, false, List, [], ◌∷◌, ◌++◌, length, refl, ap, sym, ◌∙◌, arith, append_assoc, append-nil}
use Rattle.std.specs.Prelude.{◌==◌, replicate}
use Rattle.std.specs.Fmt.{digits, digits_onto, padded_integral, format_spec, char_count}
use Rattle.std.proofs.lemmas.Bool.{eqb-true}
use Rattle.std.proofs.Math.Nat.{pow-suc}
use Rattle.session_notes.specs.Words.{hex_digit, hex_digits, eight_digits}

-- the digit 0
abbrev nought : ℕ
nought = 48

one_more : (count : ℕ) → replicate count nought ++ (nought ∷ []) ≡ replicate (suc count) nought
one_more zero = refl
one_more (suc count) = ap (λ ds. nought ∷ ds) (one_more count)

-- all digits of 0 are 0
zeros : (count : ℕ) → hex_digits count 0 ≡ replicate count nought
zeros zero = refl
zeros (suc count) = ap (λ ds. ds ++ (nought ∷ [])) (zeros count) ∙ one_more count

-- zeros in front, up to so many bytes
abbrev filled : ℕ → List ℕ → List ℕ
filled count ds = replicate (count - length ds) nought ++ ds

-- one digit is written in front of what stands, and then zeros or more digits
by_last : (k j n : ℕ) (acc : List ℕ) (last : Bool) → (n / 16 == 0) ≡ last → (last ≡ true → n / 16 ≡ 0)
    → (last ≡ false → filled (k + suc (length acc)) (digits_onto j 16 false (n / 16) (hex_digit (n % 16) ∷ acc)) ≡ hex_digits k (n / 16) ++ (hex_digit (n % 16) ∷ acc))
    → filled (suc k + length acc) (digits_onto (suc j) 16 false n acc) ≡ hex_digits (suc k) n ++ acc
by_last k j n acc true is none more =
    let count : suc k + length acc - suc (length acc) ≡ k = omega arith in
    rw (is, count, none refl) (ap (λ ds. ds ++ (hex_digit (n % 16) ∷ acc)) (sym (zeros k)) ∙ sym (append_assoc (hex_digits k 0) (hex_digit (n % 16) ∷ []) acc))
by_last k j n acc false is none more =
    let count : suc k + length acc ≡ k + suc (length acc) = omega arith in
    rw (is, count) (more refl ∙ sym (append_assoc (hex_digits k (n / 16)) (hex_digit (n % 16) ∷ []) acc))

spelled : (k j n : ℕ) (acc : List ℕ) → n < 16 ^ suc k → k ≤ j → filled (suc k + length acc) (digits_onto (suc j) 16 false n acc) ≡ hex_digits (suc k) n ++ acc
spelled zero j n acc small h =
    let none : n / 16 ≡ 0 = omega arith in
    by_last 0 j n acc true (rw none refl) (λ is. none) (λ more. absurd (cc))
spelled (suc k) zero n acc small h = absurd (omega arith)
spelled (suc k) (suc j) n acc small h =
    let power : 16 ^ suc (suc k) ≡ 16 ^ suc k * 16 = pow-suc 16 (suc k) in
    let fewer : n / 16 < 16 ^ suc k = omega (arith, power) in
    by_last (suc k) (suc j) n acc (n / 16 == 0) refl (λ is. eqb-true (n / 16) 0 is) (λ more. spelled k j (n / 16) (hex_digit (n % 16) ∷ acc) fewer (omega arith))

in_front : (ds : List ℕ) → padded_integral (format_spec 32 0 4 8 (2 ^ 64 - 1)) false [] ds ≡ filled 8 ds
unfolding padded_integral char_count
in_front ds =
    let width : 8 - length ds - 0 - 0 ≡ 8 - length ds = omega arith in
    rw (width, append-nil ds) refl

onto_nothing : (n : ℕ) → digits 16 false n ≡ digits_onto 64 16 false n []
unfolding digits
onto_nothing n = refl

pub padded_eight : (n : ℕ) → n < 2 ^ 32 → padded_integral (format_spec 32 0 4 8 (2 ^ 64 - 1)) false [] (digits 16 false n) ≡ eight_digits n
unfolding eight_digits
padded_eight n small =
    in_front (digits 16 false n)
    ∙ ap (filled 8) (onto_nothing n)
    ∙ spelled 7 63 n [] small (omega arith)
    ∙ append-nil (hex_digits 8 n)
