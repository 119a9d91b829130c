-- How many different numbers lists have together.
use Rattle.ckpt_ring.proofs.Terms.{Bool, List, Some, [], ap, arith, cond, false, get_or, length, not, refl, slice_get, suc, sym, true, ℕ, ◌++◌, ◌+◌, ◌<◌, ◌||◌, ◌∙◌, ◌∷◌, ◌≡◌, different-le, has-append, has-nowhere, IsOnce, different, has, count_true}

-- lists with the same numbers have as many different ones
pub different_alike : (xs ys : List ℕ) → ((n : ℕ) → has n xs ≡ has n ys) → different xs ≡ different ys
different_alike xs ys same = omega (arith, different-le xs ys (λ n is. sym (same n) ∙ is), different-le ys xs (λ n is. same n ∙ is))

once_tail : (x : ℕ) (xs : List ℕ) → IsOnce (x ∷ xs) → IsOnce xs
once_tail x xs once = λ k j lk lj same. let e : suc k ≡ suc j = once (suc k) (suc j) (omega arith) (omega arith) same in omega arith

once_head : (x : ℕ) (xs : List ℕ) → IsOnce (x ∷ xs) → has x xs ≡ false
once_head x xs once = has-nowhere x xs (λ k less same. let e : 0 ≡ suc k = once 0 (suc k) (omega arith) (omega arith) (sym same) in omega arith)

-- the numbers of a list that another one hasn't are those with a flag
pub different_flags : (xs ys : List ℕ) (flags : List Bool) → length flags ≡ length xs → IsOnce xs
    → ((page : ℕ) (flag : Bool) → page < length xs → slice_get flags page ≡ Some flag → has (get_or xs page 0) ys ≡ not flag)
    → different (xs ++ ys) ≡ count_true flags + different ys
different_flags [] ys [] long once each = omega arith
different_flags [] ys (flag ∷ flags) long once each = absurd (omega arith)
different_flags (x ∷ xs) ys [] long once each = absurd (omega arith)
different_flags (x ∷ xs) ys (flag ∷ flags) long once each =
    let rest : different (xs ++ ys) ≡ count_true flags + different ys = different_flags xs ys flags (omega arith) (once_tail x xs once) (λ page bit less is. each (suc page) bit (omega arith) is) in
    let here : has x (xs ++ ys) ≡ not flag = has-append x xs ys ∙ ap (λ b. b || has x ys) (once_head x xs once) ∙ each 0 flag (omega arith) refl in
    rw here (by flag rest) where
      by : (flag : Bool) → different (xs ++ ys) ≡ count_true flags + different ys → cond (not flag) (different (xs ++ ys)) (different (xs ++ ys) + 1) ≡ cond flag 1 0 + count_true flags + different ys
      by true rest = omega arith
      by false rest = omega arith
