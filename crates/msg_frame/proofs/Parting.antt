-- Messages made of a rest and the bytes behind it.
use Rattle.std.proofs.Math.Seq.{drop-append-add}
use Rattle.msg_frame.proofs.Terms.{List, None, [], ap, arith, drop, inl, inr, length, ltb, min, refl, sym, take, ℕ, ◌++◌, ◌+◌, ◌-◌, ◌<◌, ◌∙◌, ◌∷◌, ◌≡◌, ◌≤◌, cases_lt, cond-false, cond-true, le-ltb, lt-ltb, drop-append-le, drop_all, take_all, Whole, MAX_MESSAGE, behind, cut, cut_whole, no_message}

-- what is left of a rest and of bytes behind it, without the first ones
pub drop-append : (n : ℕ) (rest bytes : List ℕ) → drop (min n (length rest)) rest ++ drop (n - min n (length rest)) bytes ≡ drop n (rest ++ bytes)
drop-append n rest bytes =
    elim (cases_lt n (length rest)) [
      | inl less ↦
          let all : min n (length rest) ≡ n = omega arith in
          let none : n - n ≡ 0 = omega arith in
          rw (all, none) (sym (drop-append-le n rest bytes (omega arith)))
      | inr more ↦
          let all : min n (length rest) ≡ length rest = omega arith in
          let sum : length rest + (n - length rest) ≡ n = omega arith in
          rw (all, drop_all (length rest) rest (omega arith)) (sym (drop-append-add rest bytes (n - length rest)) ∙ ap (λ k. drop k (rest ++ bytes)) sum)
    ]

-- pieces that are messages
pub whole_missing : (rest bytes : List ℕ) → rest ≡ [] → length bytes ≡ 0 → cut Whole rest bytes ≡ no_message (rest ++ bytes)
unfolding cut cut_whole
whole_missing rest [] none empty = rw none refl
whole_missing rest (byte ∷ bytes) none empty = absurd (omega arith)

whole_step : (rest : List ℕ) (byte : ℕ) (bytes : List ℕ) → rest ≡ [] → length (byte ∷ bytes) ≤ MAX_MESSAGE → cut Whole rest (byte ∷ bytes) ≡ behind ((rest ++ byte ∷ bytes) ∷ []) (cut Whole [] [])
unfolding cut cut_whole
whole_step rest byte bytes none small = rw none (cond-false (ltb MAX_MESSAGE (length (byte ∷ bytes))) _ _ (le-ltb _ _ small))

pub whole_within : (rest bytes : List ℕ) → rest ≡ [] → 0 < length bytes → length bytes ≤ MAX_MESSAGE → cut Whole rest bytes ≡ behind ((rest ++ take (length bytes) bytes) ∷ []) (cut Whole [] (drop (length bytes) bytes))
whole_within rest [] none some small = absurd (omega arith)
whole_within rest (byte ∷ bytes) none some small =
    rw (take_all (length (byte ∷ bytes)) (byte ∷ bytes) (omega arith), drop_all (length (byte ∷ bytes)) (byte ∷ bytes) (omega arith)) (whole_step rest byte bytes none small)

pub whole_refused : (rest bytes : List ℕ) → MAX_MESSAGE < length bytes → cut Whole rest bytes ≡ None
unfolding cut cut_whole
whole_refused rest [] large = absurd (omega arith)
whole_refused rest (byte ∷ bytes) large = cond-true (ltb MAX_MESSAGE (length (byte ∷ bytes))) _ _ (lt-ltb _ _ large)
