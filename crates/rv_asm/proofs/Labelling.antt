-- Look-ups of labels.
use Rattle.std.specs.Map.{lookup}
use Rattle.rv_asm.proofs.Terms.{Bool, Bor, List, Option, Some, [], ap, cond, false, map, refl, subst, true, ℕ, ◌++◌, ◌∷◌, ◌≡◌, All-head, All-tail, none-some, All, bytes_eq, Spot, Definition, definition_of, spot_of, IsDefined, IsSmall}

-- the labels of a map's entries
abbrev pub labels_in : List (Bor (List ℕ) × Spot) → List Definition
labels_in entries = map (λ entry. definition_of entry.0.now entry.1) entries

pub spot_of-labels_in : (entries : List (Bor (List ℕ) × Spot)) (name : List ℕ) → spot_of (labels_in entries) name ≡ lookup (λ k. bytes_eq name k.now) entries
spot_of-labels_in [] name = refl
spot_of-labels_in (entry ∷ entries) name = ap (cond (bytes_eq name entry.0.now) (Some entry.1)) (spot_of-labels_in entries name)

pub labels_in-append : (entries : List (Bor (List ℕ) × Spot)) (name : Bor (List ℕ)) (spot : Spot) → labels_in (entries ++ (name, spot) ∷ []) ≡ labels_in entries ++ definition_of name.now spot ∷ []
labels_in-append [] name spot = refl
labels_in-append (entry ∷ entries) name spot = ap (λ rest. definition_of entry.0.now entry.1 ∷ rest) (labels_in-append entries name spot)

-- a label that is defined has a small place
found : (b : Bool) (label : Definition) (rest : Option Spot) (spot : Spot) → IsDefined label → (rest ≡ Some spot → IsSmall spot) → cond b (Some label.spot) rest ≡ Some spot → IsSmall spot
found true label rest spot here later h = let same : label.spot ≡ spot = cc in subst IsSmall same here
found false label rest spot here later h = later h

pub spot_of-small : (labels : List Definition) (name : List ℕ) (spot : Spot) → All IsDefined labels → spot_of labels name ≡ Some spot → IsSmall spot
spot_of-small [] name spot all h = absurd (none-some spot h)
spot_of-small (label ∷ labels) name spot all h =
    found (bytes_eq name label.name) label (spot_of labels name) spot (All-head IsDefined label labels all) (spot_of-small labels name spot (All-tail IsDefined label labels all)) h
