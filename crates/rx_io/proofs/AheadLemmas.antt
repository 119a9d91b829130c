-- A part of a list is given from its front.
use Rattle.std.proofs.Common.{List, ap, arith, drop, drop-drop, length, length-take, slice_range, sym, take, take-append-drop, ℕ, ◌++◌, ◌+◌, ◌-◌, ◌∙◌, ◌≡◌, ◌≤◌}
use Rattle.std.proofs.lemmas.List.{drop-take}

-- the first ones of a part, and the part behind them
pub part_seam : (bytes : List ℕ) (start end count : ℕ) → count ≤ length (slice_range bytes start end) →
    slice_range bytes start end ≡ take count (slice_range bytes start end) ++ slice_range bytes (start + count) end
part_seam bytes start end count some =
    let part = slice_range bytes start end in
    let size : count + (end - (start + count)) ≡ end - start = omega (arith, some, length-take (end - start) (drop start bytes)) in
    let back : drop count part ≡ slice_range bytes (start + count) end =
    sym (ap (λ n. drop count (take n (drop start bytes))) size) ∙ drop-take count (end - (start + count)) (drop start bytes)
    ∙ ap (take (end - (start + count))) (drop-drop count start bytes) in
    sym (take-append-drop count part) ∙ ap (λ l. take count part ++ l) back
