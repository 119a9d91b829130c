-- How many bytes clients lack, line by line.
use Rattle.std.proofs.Common.{replicate}
use Rattle.session_following.proofs.Terms.{Bool, List, [], ap, append_assoc, arith, cond, eqb, get_or, get_or-set_other, get_or-set_same, inl, inr, length, refl, set, subst, sym, take, ℕ, ◌++◌, ◌+◌, ◌-◌, ◌<◌, ◌∙◌, ◌∷◌, ◌≡◌, ◌≤◌, cases_eq, cases_lt, eq-eqb, ne_eqb, get_or-replicate, get_or_past, length-replicate, take_all, take_more, count_of, HasCounts}

-- a list by its last element
pub last_line : {A : Type 0} (rest behind whole : List A) (d : A) → 1 ≤ length rest → rest ++ behind ≡ whole → take (length rest - 1) rest ++ get_or rest (length rest - 1) d ∷ behind ≡ whole
last_line {A = A} rest behind whole d some is =
    let n : ℕ = length rest - 1 in
    let more : take (n + 1) rest ≡ take n rest ++ get_or rest n d ∷ [] = take_more rest n d (omega arith) in
    let all : take (n + 1) rest ≡ rest = take_all (n + 1) rest (omega arith) in
    sym (append_assoc (take n rest) (get_or rest n d ∷ []) behind) ∙ (ap (λ (l : List A). l ++ behind) (sym more ∙ all) ∙ is)

-- without a line none is before
pub none_before : {A : Type 0} (rest behind whole : List A) → length rest < 1 → rest ++ behind ≡ whole → behind ≡ whole
none_before [] behind whole few is = is
none_before (x ∷ rest) behind whole few is = absurd (omega arith)

-- no count at all
zero_counts : (count : ℕ) → HasCounts (replicate count 0) []
zero_counts count conn =
    elim (cases_lt conn count) [
      | inl inside ↦ get_or-replicate count conn 0 0 inside
      | inr past ↦ get_or_past (replicate count 0) conn 0 (let n = length-replicate {A = ℕ} count 0 in omega (arith, n, past))
    ]

pub are_zeros : (numbers : List ℕ) (count : ℕ) → numbers ≡ replicate count 0 → (length numbers ≡ count) × HasCounts numbers []
are_zeros numbers count is = (ap length is ∙ length-replicate {A = ℕ} count 0, subst (λ (l : List ℕ). HasCounts l []) (sym is) (zero_counts count))

-- one line more
pub line_put : (numbers : List ℕ) (line : ℕ × ℕ) (lines : List (ℕ × ℕ)) → line.0 < length numbers → HasCounts numbers lines → HasCounts (set numbers line.0 line.1) (line ∷ lines)
line_put numbers line lines inside are conn =
    elim (cases_eq line.0 conn) [
      | inl same ↦
          subst (λ (n : ℕ). get_or (set numbers line.0 line.1) n 0 ≡ cond (eqb line.0 n) line.1 (count_of lines n)) same
          (get_or-set_same numbers line.0 line.1 0 inside ∙ sym (ap (λ (b : Bool). cond b line.1 (count_of lines line.0)) (eq-eqb line.0 line.0 refl)))
      | inr other ↦
          get_or-set_other numbers line.0 conn line.1 0 (λ is. other (sym is)) ∙ (are conn ∙ sym (ap (λ (b : Bool). cond b line.1 (count_of lines conn)) (ne_eqb line.0 conn other)))
    ]
