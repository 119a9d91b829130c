-- Bytes that are given in parts.
use Rattle.drill.proofs.Terms.{List, ap, append_assoc, drop, take, take-append-drop, ℕ, ◌++◌, ◌∙◌, ◌≡◌}

pub split_whole : (n : ℕ) (front rest whole : List ℕ) → front ++ rest ≡ whole → (front ++ take n rest) ++ drop n rest ≡ whole
split_whole n front rest whole e = append_assoc front (take n rest) (drop n rest) ∙ ap (λ l. front ++ l) (take-append-drop n rest) ∙ e
