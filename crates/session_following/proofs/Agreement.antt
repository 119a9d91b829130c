-- One more answer of the allocator beside those of a record.
use Rattle.std.proofs.Common.{◌≢◌}
use Rattle.session_following.proofs.Terms.{Bool, List, [], ap, append-nil, append_assoc, arith, false, get_or, inl, inr, length, length-append, refl, sym, true, ◌++◌, ◌<◌, ◌∙◌, ◌∷◌, ◌≡◌, ◌≤◌, ◌⊎◌, get_or-append_seam, false≢true, IsTrue, MatchBool, ◌↔◌, Prefix, Choice, Agree, IsOther}

-- a front is no longer than the whole
pub front_length : {X : Type 0} (front whole : List X) → Prefix front whole → length front ≤ length whole
front_length front whole is = let e = ap length is.1 in omega (arith, length-append front is.0, e)

-- of two lists that agree the longer one begins with the other
pub front_of : {X : Type 0} (front whole : List X) → Prefix front whole ⊎ Prefix whole front → length front ≤ length whole → Prefix front whole
front_of front whole (inl is) few = is
front_of front whole (inr ([], is)) few = ([], append-nil front ∙ (sym is ∙ append-nil whole))
front_of front whole (inr (x ∷ rest, is)) few = absurd (let e = ap length is in let more = length-append whole (x ∷ rest) in omega (arith, few, e, more))

front_longer : {X : Type 0} (front whole more : List X) → Prefix front whole → Prefix front (whole ++ more)
front_longer front whole more is = (is.0 ++ more, sym (append_assoc front is.0 more) ∙ ap (λ (l : List _). l ++ more) is.1)

-- behind all answers of the record each one agrees
pub agree_past : (told choices : List Choice) (choice : Choice) → Agree told choices → length told ≤ length choices → Agree told (choices ++ choice ∷ [])
agree_past told choices choice agree few = inl (front_longer told choices (choice ∷ []) (front_of told choices agree few))

-- a list that goes on behind a front has there what the whole has
at_end : {X : Type 0} (front : List X) (x d : X) (whole : List X) → Prefix (front ++ x ∷ []) whole → get_or whole (length front) d ≡ x
at_end front x d whole is =
    ap (λ (l : List _). get_or l (length front) d) (sym is.1 ∙ append_assoc front (x ∷ []) is.0) ∙ get_or-append_seam front x is.0 d

one_more : {X : Type 0} (front : List X) (x d : X) (rest whole : List X) → front ++ rest ≡ whole → length front < length whole → get_or whole (length front) d ≡ x → Prefix (front ++ x ∷ []) whole
one_more front x d [] whole is few at = absurd (let e = ap length is in let n = length-append front [] in omega (arith, e, n, few))
one_more front x d (y ∷ rest) whole is few at =
    let same : y ≡ x = sym (get_or-append_seam front y rest d) ∙ (ap (λ (l : List _). get_or l (length front) d) is ∙ at) in
    (rest, append_assoc front (x ∷ []) rest ∙ (ap (λ (z : _). front ++ z ∷ rest) (sym same) ∙ is))

-- the same answer agrees
agree_same : (told choices : List Choice) (choice d : Choice) → Agree told choices → length choices < length told → get_or told (length choices) d ≡ choice → Agree told (choices ++ choice ∷ [])
agree_same told choices choice d agree few at =
    let front : Prefix choices told = front_of choices told (swap agree) (omega (arith, few)) in
    inr (one_more choices choice d front.0 told front.1 few at)
  where
    swap : Agree told choices → Prefix choices told ⊎ Prefix told choices
    swap (inl is) = inr is
    swap (inr is) = inl is

-- another one doesn't
other_apart : (told choices : List Choice) (choice d : Choice) → length choices < length told → get_or told (length choices) d ≢ choice → IsOther told (choices ++ choice ∷ [])
other_apart told choices choice d few apart = (not_front, λ front. apart (at_end choices choice d told front))
  where
    not_front : ¬ Prefix told (choices ++ choice ∷ [])
    not_front is =
        let n = front_length told (choices ++ choice ∷ []) is in
        let m = length-append choices (choice ∷ []) in
        let whole : Prefix (choices ++ choice ∷ []) told = front_of (choices ++ choice ∷ []) told (inr is) (omega (arith, few, n, m)) in
        apart (at_end choices choice d told whole)

-- whether the record's answer of that number is the same decides it
pub told_or : (told choices : List Choice) (choice : Choice) (same : Bool) → Agree told choices → length choices < length told → IsTrue same ↔ (get_or told (length choices) choice ≡ choice)
    → MatchBool same (Agree told (choices ++ choice ∷ [])) (IsOther told (choices ++ choice ∷ []))
told_or told choices choice true agree few is = agree_same told choices choice choice agree few (is.0 refl)
told_or told choices choice false agree few is = other_apart told choices choice choice few (λ at. absurd (false≢true (is.1 at)))
