-- Hexadecimal digits that are written are read as the number that they were written of.
use Rattle.schedule_file.proofs.Terms.{List, [], ap, arith, cond, false, length, refl, suc, take, ℕ, ◌%◌, ◌*◌, ◌++◌, ◌+◌, ◌/◌, ◌<◌, ◌^◌, ◌∙◌, ◌∷◌, ◌≡◌, nat_tests, nat_lt, eight_digits, hex_digit, hex_digits, hex_from, hex_value}

hex_from-last : (n : ℕ) (digits : List ℕ) (d : ℕ) → hex_from n (digits ++ d ∷ []) ≡ 16 * hex_from n digits + hex_value d
hex_from-last n [] d = refl
hex_from-last n (c ∷ cs) d = hex_from-last (16 * n + hex_value c) cs d

pub hex_value-digit : (d : ℕ) → d < 16 → hex_value (hex_digit d) ≡ d
hex_value-digit d h = grind (arith, nat_tests)

hex_step : (count n : ℕ) → hex_from 0 (hex_digits (suc count) n) ≡ 16 * hex_from 0 (hex_digits count (n / 16)) + n % 16
hex_step count n =
    let small : n % 16 < 16 = omega arith in
    hex_from-last 0 (hex_digits count (n / 16)) (hex_digit (n % 16)) ∙ ap (λ v. 16 * hex_from 0 (hex_digits count (n / 16)) + v) (hex_value-digit (n % 16) small)

-- one digit more, over plain variables
eight_steps : (n a b c d e f g h v0 v1 v2 v3 v4 v5 v6 v7 : ℕ) → n < 4294967296 →
    a ≡ n / 16 → b ≡ a / 16 → c ≡ b / 16 → d ≡ c / 16 → e ≡ d / 16 → f ≡ e / 16 → g ≡ f / 16 → h ≡ g / 16 →
    v0 ≡ 16 * v1 + n % 16 → v1 ≡ 16 * v2 + a % 16 → v2 ≡ 16 * v3 + b % 16 → v3 ≡ 16 * v4 + c % 16 → v4 ≡ 16 * v5 + d % 16 → v5 ≡ 16 * v6 + e % 16 → v6 ≡ 16 * v7 + f % 16 → v7 ≡ 16 * 0 + g % 16 → v0 ≡ n
eight_steps n a b c d e f g h v0 v1 v2 v3 v4 v5 v6 v7 small ha hb hc hd he hf hg hh k0 k1 k2 k3 k4 k5 k6 k7 = omega arith

pub hex-eight_digits : (n : ℕ) → n < 2 ^ 32 → hex_from 0 (eight_digits n) ≡ n
hex-eight_digits n small =
    let a : ℕ = n / 16 in let b : ℕ = a / 16 in let c : ℕ = b / 16 in let d : ℕ = c / 16 in
    let e : ℕ = d / 16 in let f : ℕ = e / 16 in let g : ℕ = f / 16 in let h : ℕ = g / 16 in
    eight_steps n a b c d e f g h
    (hex_from 0 (hex_digits 8 n)) (hex_from 0 (hex_digits 7 a)) (hex_from 0 (hex_digits 6 b)) (hex_from 0 (hex_digits 5 c))
    (hex_from 0 (hex_digits 4 d)) (hex_from 0 (hex_digits 3 e)) (hex_from 0 (hex_digits 2 f)) (hex_from 0 (hex_digits 1 g))
    small refl refl refl refl refl refl refl refl
    (hex_step 7 n) (hex_step 6 a) (hex_step 5 b) (hex_step 4 c) (hex_step 3 d) (hex_step 2 e) (hex_step 1 f) (hex_step 0 g)

-- eight digits in front of some bytes are read as their number
pub hex-front : (n : ℕ) (rest : List ℕ) → n < 2 ^ 32 → cond (nat_lt (length (eight_digits n ++ rest)) 8) 0 (hex_from 0 (take 8 (eight_digits n ++ rest))) ≡ n
hex-front n rest small =
    let many : nat_lt (length (eight_digits n ++ rest)) 8 ≡ false = grind (arith, nat_tests) in
    rw many (hex-eight_digits n small)
