-- Lists that a loop goes over by index, with each element read by a function.
use Rattle.command_line.proofs.Terms.{Bool, List, [], ap, drop, drop_of_length-le, fold, get_or, length, map, refl, sym, ℕ, ◌+◌, ◌<◌, ◌||◌, ◌∙◌, ◌∷◌, ◌≡◌, ◌≤◌, at_drop_more, list_any}

pub list_any-map : {X Y : Type 0} (p : Y → Bool) (f : X → Y) (xs : List X) → list_any (λ x. p (f x)) xs ≡ list_any p (map f xs)
list_any-map p f [] = refl
list_any-map p f (x ∷ xs) = ap (λ b. p (f x) || b) (list_any-map p f xs)

-- a loop that folds a list, each element read by f and then by g: one element more, and the end
pub fold_next : {X Y Z A : Type 0} (add : A → Z → A) (g : Y → Z) (f : X → Y) (xs : List X) (i : ℕ) (none : X) (now after total : A) → i < length xs
    → after ≡ add now (g (f (get_or xs i none))) → fold add now (map g (map f (drop i xs))) ≡ total → fold add after (map g (map f (drop (i + 1) xs))) ≡ total
fold_next add g f xs i none now after total lt step same =
    ap (λ a. fold add a (map g (map f (drop (i + 1) xs)))) step ∙ sym (at_drop_more (λ ys. fold add now (map g (map f ys))) xs i none lt) ∙ same

pub fold_past : {X Y Z A : Type 0} (add : A → Z → A) (g : Y → Z) (f : X → Y) (xs : List X) (i : ℕ) (now total : A) → length xs ≤ i
    → fold add now (map g (map f (drop i xs))) ≡ total → now ≡ total
fold_past add g f xs i now total past same = sym (ap (λ ys. fold add now (map g (map f ys))) (drop_of_length-le xs past)) ∙ same
