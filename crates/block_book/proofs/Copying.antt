-- What is remembered, copied in two pieces.
use Rattle.block_book.proofs.Terms.{List, [], ap, arith, drop, length, refl, subst, sym, ℕ, ◌++◌, ◌+◌, ◌-◌, ◌∙◌, ◌≡◌, ◌≤◌, length-append, keep_last, Freed}

keeps-all : (most : ℕ) (xs : List Freed) → length xs ≤ most → keep_last most xs ≡ xs
keeps-all most xs few = let none : length xs - most ≡ 0 = omega arith in ap (λ n. drop n xs) none

-- both pieces fit
pub copied : (most : ℕ) (front back all : List Freed) → front ++ back ≡ all → length all ≤ most → keep_last most (keep_last most front ++ back) ≡ all
copied most front back all is few =
    let held : length front + length back ≤ most = subst (λ n. n ≤ most) (ap length (sym is) ∙ length-append front back) few in
    ap (λ xs. keep_last most (xs ++ back)) (keeps-all most front (omega arith))
    ∙ ap (keep_last most) is
    ∙ keeps-all most all few
