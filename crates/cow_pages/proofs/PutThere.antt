-- A part of a list that another part of it takes the place of.
use Rattle.cow_pages.proofs.Terms.{List, ap, append_assoc, arith, drop, length, refl, sym, take, ℕ, ◌++◌, ◌+◌, ◌-◌, ◌≡◌, ◌≤◌, common_steps, drop-drop, drop-take, take-append-drop, take-take, put_at}

pub part_length : (at n count : ℕ) (xs : List ℕ) → at + n ≤ length xs → count ≡ n → length (take count (drop at xs)) ≡ n
part_length at n count xs enough many = grind (arith, common_steps)

-- a part of a first part is that part of the whole
part_of : (from n whole : ℕ) (xs : List ℕ) → from + n ≤ whole → take n (drop from (take whole xs)) ≡ take n (drop from xs)
part_of from n whole xs within =
    let rest : whole ≡ from + (whole - from) = omega (arith, within) in
    rw (rest, drop-take from (whole - from) xs) (take-take n (whole - from) (drop from xs) (omega (arith, within)))

-- the other part lies before it
pub put_behind : (from to n count : ℕ) (xs front back ys : List ℕ) → front ≡ take to xs → back ≡ drop to xs → from + n ≤ to → to + n ≤ length xs → count ≡ n → ys ≡ take count (drop from front) → front ++ (ys ++ drop n back) ≡ put_at to (take n (drop from xs)) xs
put_behind from to n count xs front back ys first second within fits many copied =
    rw (copied, many, first, second, part_of from n to xs within, part_length from n n xs (omega (arith, fits, within)) refl, drop-drop) (sym (append_assoc (take to xs) (take n (drop from xs)) (drop (to + n) xs)))

-- what lies behind a part of a first part, and the rest of the whole
rest_of : (at whole : ℕ) (xs : List ℕ) → at ≤ whole → drop at (take whole xs) ++ drop whole xs ≡ drop at xs
rest_of at whole xs within =
    let rest : whole ≡ at + (whole - at) = omega (arith, within) in
    rw (rest, drop-take at (whole - at) xs, ← drop-drop (whole - at) at xs) (take-append-drop (whole - at) (drop at xs))

-- the other part lies behind it
pub put_before : (from to n count : ℕ) (xs front back ys : List ℕ) → front ≡ take from xs → back ≡ drop from xs → to + n ≤ from → from + n ≤ length xs → count ≡ n → ys ≡ take n back → (take to front ++ (ys ++ drop count (drop to front))) ++ back ≡ put_at to (take n (drop from xs)) xs
put_before from to n count xs front back ys first second within fits many copied =
    rw (copied, many, first, second, take-take to from xs (omega (arith, within)), drop-drop n to (take from xs), part_length from n n xs fits refl)
    (simp append_assoc (ap (λ (r : List ℕ). take to xs ++ (take n (drop from xs) ++ r)) (rest_of (to + n) from xs within)))
