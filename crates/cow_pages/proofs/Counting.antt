-- How many times a number stands in a list, and how many different ones do.
use Rattle.std.proofs.Math.ListN.{set}
use Rattle.cow_pages.proofs.Terms.{Bool, List, [], ap, arith, cond, drop, false, get_or, inl, inr, length, nat_lt, refl, subst, suc, sym, take, true, zero, ℕ, ◌++◌, ◌+◌, ◌<◌, ◌==◌, ◌||◌, ◌∙◌, ◌∷◌, ◌≡◌, ◌≤◌, or_assoc, cases_Bool, cases_eq, eqb-true, false_from_ne_true, lt-ltb, ltb-false, ltb-true, or_cases, or_left, or_right, nat_tests, common_steps, take-append-drop, different, has, places}

-- each element of a list is below a number
abbrev pub AreBelow : ℕ → List ℕ → Type 0
AreBelow top xs = (k : ℕ) → k < length xs → get_or xs k 0 < top

pub below_tail : (top x : ℕ) (xs : List ℕ) → AreBelow top (x ∷ xs) → AreBelow top xs
below_tail top x xs below = λ k less. below (suc k) (omega arith)

pub below_front : (top x : ℕ) (xs : List ℕ) → x < top → AreBelow top xs → AreBelow top (x ∷ xs)
below_front top x xs near below zero less = near
below_front top x xs near below (suc k) less = below k (omega arith)

pub below_head : (top x : ℕ) (xs : List ℕ) → AreBelow top (x ∷ xs) → x < top
below_head top x xs below = below 0 (omega arith)

pub has-append : (n : ℕ) (xs ys : List ℕ) → has n (xs ++ ys) ≡ (has n xs || has n ys)
has-append n [] ys = refl
has-append n (x ∷ xs) ys = ap (λ b. (x == n) || b) (has-append n xs ys) ∙ sym (or_assoc (x == n) (has n xs) (has n ys))

pub places-append : (n : ℕ) (xs ys : List ℕ) → places n (xs ++ ys) ≡ places n xs + places n ys
places-append n [] ys = omega arith
places-append n (x ∷ xs) ys = omega (arith, places-append n xs ys)

pub places-take-drop : (n i : ℕ) (xs : List ℕ) → places n (take i xs) + places n (drop i xs) ≡ places n xs
places-take-drop n i xs = sym (places-append n (take i xs) (drop i xs)) ∙ ap (places n) (take-append-drop i xs)

-- a number stands once more in a list with it in front
pub places-here : (x : ℕ) (xs : List ℕ) → places x (x ∷ xs) ≡ 1 + places x xs
places-here x xs = grind (arith, nat_tests)

pub places-there : (n x : ℕ) (xs : List ℕ) → (x ≡ n → ⊥) → places n (x ∷ xs) ≡ places n xs
places-there n x xs other = grind (arith, nat_tests)

-- a number is in a list if it stands there at least once
pub has-is : (n : ℕ) (xs : List ℕ) → has n xs ≡ nat_lt 0 (places n xs)
has-is n [] = refl
has-is n (x ∷ xs) = grind (arith, nat_tests, has-is n xs)

pub has-some : (n : ℕ) (xs : List ℕ) → 0 < places n xs → has n xs ≡ true
has-some n xs some = has-is n xs ∙ lt-ltb 0 (places n xs) some

pub places-none : (n : ℕ) (xs : List ℕ) → has n xs ≡ false → places n xs ≡ 0
places-none n xs none = let e : places n xs ≤ 0 = ltb-false 0 (places n xs) (sym (has-is n xs) ∙ none) in omega arith

pub places-some : (n : ℕ) (xs : List ℕ) → has n xs ≡ true → 0 < places n xs
places-some n xs some = ltb-true 0 (places n xs) (sym (has-is n xs) ∙ some)

-- an element stands in its list
pub has-get_or : (xs : List ℕ) (k : ℕ) → k < length xs → has (get_or xs k 0) xs ≡ true
has-get_or [] k less = absurd (omega arith)
has-get_or (x ∷ xs) zero less = grind (arith, nat_tests)
has-get_or (x ∷ xs) (suc k) less = rw (has-get_or xs k (omega arith)) (grind (arith, nat_tests))

-- a number that is in a list stands at some place
pub has-at : (n : ℕ) (xs : List ℕ) → has n xs ≡ true → (k : ℕ) × (k < length xs) × (get_or xs k 0 ≡ n)
has-at n [] is = cc
has-at n (x ∷ xs) is =
    elim (or_cases (x == n) (has n xs) is) [ inl here ↦ (0, omega arith, eqb-true x n here) | inr later ↦ (let found = has-at n xs later in (suc found.0, omega (arith, found.1), found.2)) ]

-- a number that stands at no place of a list isn't in it
pub has-nowhere : (n : ℕ) (xs : List ℕ) → ((k : ℕ) → k < length xs → get_or xs k 0 ≡ n → ⊥) → has n xs ≡ false
has-nowhere n xs nowhere = false_from_ne_true (has n xs) (λ is. let found = has-at n xs is in nowhere found.0 found.1 found.2)

has-below : (top n : ℕ) (xs : List ℕ) → AreBelow top xs → has n xs ≡ true → n < top
has-below top n xs below is = let found = has-at n xs is in subst (λ m. m < top) found.2 (below found.0 found.1)

-- a list whose elements stand at one place each has no number twice
pub places-le-one : (n : ℕ) (xs : List ℕ) → ((k j : ℕ) → k < length xs → j < length xs → get_or xs k 0 ≡ get_or xs j 0 → k ≡ j) → places n xs ≤ 1
places-le-one n [] once = omega arith
places-le-one n (x ∷ xs) once =
    let rest : places n xs ≤ 1 = places-le-one n xs (λ k j lk lj e. let same : suc k ≡ suc j = once (suc k) (suc j) (omega arith) (omega arith) e in omega arith) in
    elim (cases_Bool (x == n)) [
      | inl here ↦ (let gone : has n xs ≡ false = has-nowhere n xs (λ k less e. let same : 0 ≡ suc k = once 0 (suc k) (omega arith) (omega arith) (eqb-true x n here ∙ sym e) in omega arith) in let none : places n xs ≡ 0 = places-none n xs gone in rw here (omega arith))
      | inr other ↦ rw other (omega arith)
    ]

-- how many numbers below a limit are in a list
abbrev pub occupied : ℕ → List ℕ → ℕ
occupied zero xs = 0
occupied (suc k) xs = occupied k xs + cond (has k xs) 1 0

occupied-nil : (k : ℕ) → occupied k [] ≡ 0
occupied-nil zero = refl
occupied-nil (suc k) = omega (arith, occupied-nil k)

occupied-cons : (k x : ℕ) (xs : List ℕ) → occupied k (x ∷ xs) ≡ occupied k xs + cond (nat_lt x k) (cond (has x xs) 0 1) 0
occupied-cons zero x xs = grind (arith, nat_tests)
occupied-cons (suc k) x xs = elim (cases_eq x k) [ inl e ↦ rw (← e) (grind (arith, nat_tests, occupied-cons k x xs)) | inr other ↦ grind (arith, nat_tests, occupied-cons k x xs) ]

chosen : (b : Bool) (n : ℕ) → cond b n (n + 1) ≡ n + cond b 0 1
chosen b n = grind arith

pub different-front : (x : ℕ) (xs : List ℕ) → different (x ∷ xs) ≡ different xs + cond (nat_lt 0 (places x xs)) 0 1
different-front x xs = ap (λ b. cond b (different xs) (different xs + 1)) (has-is x xs) ∙ chosen (nat_lt 0 (places x xs)) (different xs)

different-occupied : (top : ℕ) (xs : List ℕ) → AreBelow top xs → different xs ≡ occupied top xs
different-occupied top [] below = sym (occupied-nil top)
different-occupied top (x ∷ xs) below =
    let rest : different xs ≡ occupied top xs = different-occupied top xs (below_tail top x xs below) in
    let first : occupied top (x ∷ xs) ≡ occupied top xs + cond (has x xs) 0 1 = occupied-cons top x xs ∙ ap (λ b. occupied top xs + cond b (cond (has x xs) 0 1) 0) (lt-ltb x top (below_head top x xs below)) in
    chosen (has x xs) (different xs) ∙ ap (λ n. n + cond (has x xs) 0 1) rest ∙ sym first

-- a number above all of a list
top_of : List ℕ → ℕ
top_of [] = 0
top_of (x ∷ xs) = x + 1 + top_of xs

below_top : (more : ℕ) (xs : List ℕ) → AreBelow (top_of xs + more) xs
unfolding top_of
below_top more [] k less = absurd (omega arith)
below_top more (x ∷ xs) zero less = omega arith
below_top more (x ∷ xs) (suc k) less = let rest : get_or xs k 0 < top_of xs + more = below_top more xs k (omega arith) in omega arith

occupied-le : (k : ℕ) (xs ys : List ℕ) → ((n : ℕ) → has n xs ≡ true → has n ys ≡ true) → occupied k xs ≤ occupied k ys
occupied-le zero xs ys among = omega arith
occupied-le (suc k) xs ys among = let fewer = occupied-le k xs ys among in let one = among k in grind (arith, fewer, one)

-- a list that has no number which another one hasn't has no more different ones
pub different-le : (xs ys : List ℕ) → ((n : ℕ) → has n xs ≡ true → has n ys ≡ true) → different xs ≤ different ys
different-le xs ys among =
    let turned : top_of ys + top_of xs ≡ top_of xs + top_of ys = omega arith in
    omega (arith, different-occupied _ xs (below_top (top_of ys) xs), different-occupied _ ys (subst (λ n. AreBelow n ys) turned (below_top (top_of xs) ys)), occupied-le (top_of xs + top_of ys) xs ys among)

-- two lists with the same numbers have as many different ones
pub different-same : (top : ℕ) (xs ys : List ℕ) → AreBelow top xs → AreBelow top ys → ((n : ℕ) → n < top → has n xs ≡ has n ys) → different xs ≡ different ys
different-same top xs ys bx by same =
    let one : different xs ≤ different ys = different-le xs ys (λ n is. sym (same n (has-below top n xs bx is)) ∙ is) in
    let other : different ys ≤ different xs = different-le ys xs (λ n is. same n (has-below top n ys by is) ∙ is) in
    omega arith

-- lists in which each number stands as often
abbrev pub Alike : List ℕ → List ℕ → Type 0
Alike xs ys = (n : ℕ) → places n xs ≡ places n ys

pub different-alike : (xs ys : List ℕ) → Alike xs ys → different xs ≡ different ys
different-alike xs ys same =
    let one : different xs ≤ different ys = different-le xs ys (λ n is. has-some n ys (omega (arith, same n, places-some n xs is))) in
    let other : different ys ≤ different xs = different-le ys xs (λ n is. has-some n xs (omega (arith, same n, places-some n ys is))) in
    omega arith

-- numbers that stand once each, and not in another list, are all different
different-apart : (free xs : List ℕ) → ((n : ℕ) → places n free ≤ cond (has n xs) 0 1) → different (free ++ xs) ≡ length free + different xs
different-apart [] xs apart = omega arith
different-apart (x ∷ free) xs apart =
    let rest : different (free ++ xs) ≡ length free + different xs = different-apart free xs (λ n. omega (arith, apart n)) in
    let few = apart x in
    rw (has-append x free xs, has-is x free) (grind (arith, nat_tests, few, rest))

occupied-top : (k : ℕ) (xs : List ℕ) → occupied k xs ≤ k
occupied-top zero xs = omega arith
occupied-top (suc k) xs = grind (arith, occupied-top k xs)

occupied-all : (k : ℕ) (xs : List ℕ) → ((n : ℕ) → n < k → has n xs ≡ true) → occupied k xs ≡ k
occupied-all zero xs each = refl
occupied-all (suc k) xs each =
    let fewer : occupied k xs ≡ k = occupied-all k xs (λ n less. each n (omega arith)) in
    rw (each k (omega arith)) (omega arith)

pub below_append : (top : ℕ) (xs ys : List ℕ) → AreBelow top xs → AreBelow top ys → AreBelow top (xs ++ ys)
below_append top xs ys bx by k less = grind (arith, common_steps)

-- the free numbers and the different ones in use are all numbers below the limit
pub length-free : (top : ℕ) (free xs : List ℕ) → AreBelow top free → AreBelow top xs → ((n : ℕ) → n < top → places n free ≡ cond (has n xs) 0 1) → length free + different xs ≡ top
length-free top free xs bf bx each =
    let apart : (n : ℕ) → places n free ≤ cond (has n xs) 0 1 =
    λ n. elim (cases_Bool (has n free)) [ inl is ↦ omega (arith, each n (has-below top n free bf is)) | inr isnt ↦ omega (arith, places-none n free isnt) ] in
    let every : (n : ℕ) → n < top → has n (free ++ xs) ≡ true =
    λ n less.
    elim (cases_Bool (has n xs)) [
      | inl is ↦ has-append n free xs ∙ or_right (has n free) (has n xs) is
      | inr isnt ↦ has-append n free xs ∙ or_left (has n free) (has n xs) (has-some n free (subst (λ b. 0 < b) (sym (each n less ∙ ap (λ b. cond b 0 1) isnt)) (omega arith)))
    ] in
    sym (different-apart free xs apart) ∙ different-occupied top (free ++ xs) (below_append top free xs bf bx) ∙ occupied-all top (free ++ xs) every

-- a list that has no number twice, and one not at all, is shorter than the limit
pub length-missing : (top m : ℕ) (free : List ℕ) → AreBelow top free → ((n : ℕ) → n < top → places n free ≤ 1) → m < top → places m free ≡ 0 → length free < top
length-missing top m free below each less none =
    let once : (n : ℕ) → places n free ≤ 1 = λ n. elim (cases_Bool (has n free)) [ inl is ↦ each n (has-below top n free below is) | inr isnt ↦ omega (arith, places-none n free isnt) ] in
    let apart : (n : ℕ) → places n free ≤ cond (has n (m ∷ [])) 0 1 = λ n. elim (cases_eq m n) [ inl here ↦ rw (← here) (grind (arith, nat_tests, none)) | inr other ↦ let one = once n in grind (arith, nat_tests, one) ] in
    let both : AreBelow top (free ++ m ∷ []) = below_append top free (m ∷ []) below (below_front top m [] less (λ k inside. absurd (omega arith))) in
    omega (arith, different-apart free (m ∷ []) apart, different-occupied top (free ++ m ∷ []) both, occupied-top top (free ++ m ∷ []))

-- a list adds at most its length to the different numbers, and less where it has a number that stood there
pub different-append-le : (xs ys : List ℕ) → different (xs ++ ys) ≤ length xs + different ys
different-append-le [] ys = omega arith
different-append-le (x ∷ xs) ys = grind (arith, different-append-le xs ys)

pub different-append-lt : (xs ys : List ℕ) (k : ℕ) → k < length xs → has (get_or xs k 0) ys ≡ true → different (xs ++ ys) < length xs + different ys
different-append-lt [] ys k less is = absurd (omega arith)
different-append-lt (x ∷ xs) ys zero less is = rw (has-append x xs ys, is) (grind (arith, different-append-le xs ys))
different-append-lt (x ∷ xs) ys (suc k) less is = let rest = different-append-lt xs ys k (omega arith) is in grind (arith, rest)

-- a number more and one less where one is put in place of another
pub places-set : (n : ℕ) (xs : List ℕ) (k y : ℕ) → k < length xs → places n (set xs k y) + places n (get_or xs k 0 ∷ []) ≡ places n xs + places n (y ∷ [])
places-set n [] k y less = absurd (omega arith)
places-set n (x ∷ xs) zero y less = omega arith
places-set n (x ∷ xs) (suc k) y less = omega (arith, places-set n xs k y (omega arith))
