-- Flags of pages: which differ, and how many are set.
use Rattle.ckpt_ring.proofs.Terms.{Bool, List, Some, [], ap, ap₂, arith, false, get_or, inl, inr, length, not, refl, replicate, slice_get, subst, suc, sym, true, zero, ℕ, ◌+◌, ◌<◌, ◌==◌, ◌||◌, ◌∙◌, ◌∷◌, ◌≡◌, ◌⊎◌, eq-eqb, or_right, reaches, count_true, differ, with_reached_from}

pub length-differ : (xs ys : List ℕ) → length xs ≡ length ys → length (differ xs ys) ≡ length xs
length-differ [] ys e = refl
length-differ (x ∷ xs) [] e = absurd (omega arith)
length-differ (x ∷ xs) (y ∷ ys) e = ap suc (length-differ xs ys (omega arith))

pub differ-at : (xs ys : List ℕ) (page : ℕ) → page < length xs → page < length ys → slice_get (differ xs ys) page ≡ Some (not (get_or xs page 0 == get_or ys page 0))
differ-at [] ys page less near = absurd (omega arith)
differ-at (x ∷ xs) [] page less near = absurd (omega arith)
differ-at (x ∷ xs) (y ∷ ys) zero less near = refl
differ-at (x ∷ xs) (y ∷ ys) (suc page) less near = differ-at xs ys page (omega arith) (omega arith)

-- no page differs from itself
pub differ-itself : (xs : List ℕ) (page : ℕ) → slice_get (differ xs xs) page ≡ Some true → ⊥
differ-itself [] page e = cc
differ-itself (x ∷ xs) zero e = let same : (x == x) ≡ true = eq-eqb x x refl in let e2 : Some (not true) ≡ Some true = rw same at e in cc
differ-itself (x ∷ xs) (suc page) e = differ-itself xs page e

pub count_true-itself : (xs : List ℕ) → count_true (differ xs xs) ≡ 0
count_true-itself [] = refl
count_true-itself (x ∷ xs) = let same : (x == x) ≡ true = eq-eqb x x refl in rw same (omega (arith, count_true-itself xs))

pub count_true-all : (n : ℕ) → count_true (replicate n true) ≡ n
count_true-all zero = refl
count_true-all (suc n) = omega (arith, count_true-all n)

-- a number that was not reached stayed, and one that was reached is another one
abbrev pub Reached : Bool → ℕ → ℕ → ℕ → Type 0
Reached reached x y z = ((reached ≡ false) × (z ≡ y)) ⊎ ((reached ≡ true) × ((x == z) ≡ false))

reached_flag : (reached : Bool) (x y z : ℕ) → Reached reached x y z → not (x == z) ≡ (not (x == y) || reached)
reached_flag reached x y z (inl kept) = ap (λ n. not (x == n)) kept.1 ∙ or_false (not (x == y)) ∙ ap (λ b. not (x == y) || b) (sym kept.0) where
  or_false : (b : Bool) → b ≡ (b || false)
  or_false true = refl
  or_false false = refl
reached_flag reached x y z (inr moved) = ap not moved.1 ∙ sym (or_right (not (x == y)) reached moved.0)

-- so the flags that a write reaches are set
pub differ-reached : (from at count : ℕ) (xs ys zs : List ℕ) → length ys ≡ length xs → length zs ≡ length xs
    → ((page : ℕ) → page < length xs → Reached (reaches at count (from + page)) (get_or xs page 0) (get_or ys page 0) (get_or zs page 0))
    → differ xs zs ≡ with_reached_from from at count (differ xs ys)
differ-reached from at count [] ys zs long size each = refl
differ-reached from at count (x ∷ xs) [] zs long size each = absurd (omega arith)
differ-reached from at count (x ∷ xs) (y ∷ ys) [] long size each = absurd (omega arith)
differ-reached from at count (x ∷ xs) (y ∷ ys) (z ∷ zs) long size each =
    let here : from + 0 ≡ from = omega arith in
    ap₂ (λ flag flags. flag ∷ flags)
    (reached_flag (reaches at count from) x y z (subst (λ n. Reached (reaches at count n) x y z) here (each 0 (omega arith))))
    (differ-reached (from + 1) at count xs ys zs (omega arith) (omega arith) (λ page less.
    let next : from + suc page ≡ from + 1 + page = omega arith in
    subst (λ n. Reached (reaches at count n) (get_or xs page 0) (get_or ys page 0) (get_or zs page 0)) next (each (suc page) (omega arith))))

pub all-reached : (from at count n : ℕ) → replicate n true ≡ with_reached_from from at count (replicate n true)
all-reached from at count zero = refl
all-reached from at count (suc n) = ap (λ flags. true ∷ flags) (all-reached (from + 1) at count n)
