-- The lowest and the highest address of some segments.
use Rattle.guest_image.proofs.Terms.{List, [], ap, arith, drop, get_or, length, max, min, refl, sym, ℕ, ◌+◌, ◌<◌, ◌∙◌, ◌∷◌, ◌≡◌, ◌≤◌, at_drop_all, at_drop_more, Segment, highest, lowest}

-- the lower of an address and the lowest of some segments
abbrev pub lowest_from : ℕ → List Segment → ℕ
lowest_from low [] = low
lowest_from low (segment ∷ segments) = min low (lowest (segment ∷ segments))

lowest_from-cons : (low : ℕ) (segment : Segment) (segments : List Segment) → lowest_from low (segment ∷ segments) ≡ lowest_from (min low segment.vaddr) segments
lowest_from-cons low segment [] = refl
lowest_from-cons low segment (next ∷ segments) = omega arith

pub lowest_from-first : (segment : Segment) (segments : List Segment) → lowest_from segment.vaddr segments ≡ lowest (segment ∷ segments)
lowest_from-first segment [] = refl
lowest_from-first segment (next ∷ segments) = refl

pub lowest_from-drop : (low : ℕ) (segments : List Segment) (i : ℕ) (segment : Segment) → i < length segments → segment ≡ get_or segments i segment → lowest_from (min low segment.vaddr) (drop (i + 1) segments) ≡ lowest_from low (drop i segments)
lowest_from-drop low segments i segment below is =
    sym (at_drop_more (lowest_from low) segments i segment below
    ∙ ap (λ s. lowest_from low (s ∷ drop (i + 1) segments)) (sym is)
    ∙ lowest_from-cons low segment (drop (i + 1) segments))

pub lowest_from-drop_all : (low : ℕ) (segments : List Segment) (i : ℕ) → length segments ≤ i → lowest_from low (drop i segments) ≡ low
lowest_from-drop_all low segments i past = at_drop_all (lowest_from low) segments i past

pub highest-drop_all : (high : ℕ) (segments : List Segment) (i : ℕ) → length segments ≤ i → max high (highest (drop i segments)) ≡ high
highest-drop_all high segments i past =
    let e : highest (drop i segments) ≡ 0 = at_drop_all highest segments i past in
    omega arith
