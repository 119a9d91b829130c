-- The events that are heeded grow with the journal, and each of them was heard.
use Rattle.session_history.proofs.Terms.{Bool, List, None, Some, [], ap, append-nil, append_assoc, cond, false, inl, inr, leb, length, ltb, refl, sym, true, ◌++◌, ◌∙◌, ◌∷◌, ◌≡◌, ◌⊎◌, is_none, Prefix, LinkEvent, heard, heard_from, items_of, Bounds, LimitEvents, LimitItems, TooLong, heeded, heeded_behind, refusal}

-- the events that are heeded are the first ones
pub heeded_front : (bounds : Bounds) (before events : List LinkEvent) → Prefix (heeded_behind bounds before events) events
unfolding heeded_behind
heeded_front bounds before [] = ([], refl)
heeded_front bounds before (event ∷ events) = of (is_none (refusal bounds before event)) (heeded_front bounds (before ++ event ∷ []) events)
  where
    of : (b : Bool) → Prefix (heeded_behind bounds (before ++ event ∷ []) events) events → Prefix (cond b (event ∷ heeded_behind bounds (before ++ event ∷ []) events) []) (event ∷ events)
    of true front = (front.0, ap (λ es. event ∷ es) front.1)
    of false front = (event ∷ events, refl)

-- more events leave those that are heeded
pub heeded_grows : (bounds : Bounds) (before events more : List LinkEvent) → Prefix (heeded_behind bounds before events) (heeded_behind bounds before (events ++ more))
unfolding heeded_behind
heeded_grows bounds before [] more = (heeded_behind bounds before more, refl)
heeded_grows bounds before (event ∷ events) more = of (is_none (refusal bounds before event)) (heeded_grows bounds (before ++ event ∷ []) events more)
  where
    of : (b : Bool) → Prefix (heeded_behind bounds (before ++ event ∷ []) events) (heeded_behind bounds (before ++ event ∷ []) (events ++ more))
        → Prefix (cond b (event ∷ heeded_behind bounds (before ++ event ∷ []) events) []) (cond b (event ∷ heeded_behind bounds (before ++ event ∷ []) (events ++ more)) [])
    of true front = (front.0, ap (λ es. event ∷ es) front.1)
    of false front = ([], refl)

-- one more event is heeded, or it isn't
pub heeded_then : (bounds : Bounds) (before events : List LinkEvent) (last : LinkEvent)
    → (heeded_behind bounds before (events ++ last ∷ []) ≡ heeded_behind bounds before events) ⊎ (heeded_behind bounds before (events ++ last ∷ []) ≡ heeded_behind bounds before events ++ last ∷ [])
unfolding heeded_behind
heeded_then bounds before [] last = of (is_none (refusal bounds before last))
  where
    of : (b : Bool) → (cond b (last ∷ []) [] ≡ []) ⊎ (cond b (last ∷ []) [] ≡ last ∷ [])
    of true = inr refl
    of false = inl refl
heeded_then bounds before (event ∷ events) last = of (is_none (refusal bounds before event)) (heeded_then bounds (before ++ event ∷ []) events last)
  where
    of : (b : Bool) → (heeded_behind bounds (before ++ event ∷ []) (events ++ last ∷ []) ≡ heeded_behind bounds (before ++ event ∷ []) events) ⊎ (heeded_behind bounds (before ++ event ∷ []) (events ++ last ∷ []) ≡ heeded_behind bounds (before ++ event ∷ []) events ++ last ∷ [])
        → (cond b (event ∷ heeded_behind bounds (before ++ event ∷ []) (events ++ last ∷ [])) [] ≡ cond b (event ∷ heeded_behind bounds (before ++ event ∷ []) events) [])
        ⊎ (cond b (event ∷ heeded_behind bounds (before ++ event ∷ []) (events ++ last ∷ [])) [] ≡ cond b (event ∷ heeded_behind bounds (before ++ event ∷ []) events) [] ++ last ∷ [])
    of true (inl same) = inl (ap (λ es. event ∷ es) same)
    of true (inr more) = inr (ap (λ es. event ∷ es) more)
    of false _ = inl refl

-- an event that isn't refused was heard
refusal_heard : (late long many : Bool) → is_none (cond late (Some LimitEvents) (cond long (Some TooLong) (cond many (Some LimitItems) None))) ≡ true → long ≡ false
refusal_heard true long many h = cc
refusal_heard false true many h = cc
refusal_heard false false many h = refl

heeded_heard_behind : (bounds : Bounds) (before events : List LinkEvent) → is_none (heard bounds.framing before) ≡ false → is_none (heard bounds.framing (before ++ heeded_behind bounds before events)) ≡ false
unfolding heeded_behind
heeded_heard_behind bounds before [] was = ap (λ es. is_none (heard bounds.framing es)) (append-nil before) ∙ was
heeded_heard_behind bounds before (event ∷ events) was =
    of (is_none (refusal bounds before event)) refl (λ long. heeded_heard_behind bounds (before ++ event ∷ []) events long)
  where
    of : (b : Bool) → is_none (refusal bounds before event) ≡ b
        → (is_none (heard bounds.framing (before ++ event ∷ [])) ≡ false → is_none (heard bounds.framing ((before ++ event ∷ []) ++ heeded_behind bounds (before ++ event ∷ []) events)) ≡ false)
        → is_none (heard bounds.framing (before ++ cond b (event ∷ heeded_behind bounds (before ++ event ∷ []) events) [])) ≡ false
    of true fine more =
        ap (λ es. is_none (heard bounds.framing es)) (sym (append_assoc before (event ∷ []) (heeded_behind bounds (before ++ event ∷ []) events)))
        ∙ more (refusal_heard (leb bounds.max_events (length before)) (is_none (heard bounds.framing (before ++ event ∷ []))) (ltb bounds.max_items (length (items_of bounds.framing (before ++ event ∷ [])))) fine)
    of false bad more = ap (λ es. is_none (heard bounds.framing es)) (append-nil before) ∙ was

heard_nothing : (bounds : Bounds) → is_none (heard bounds.framing []) ≡ false
unfolding heard_from
heard_nothing bounds = refl

pub heeded_heard : (bounds : Bounds) (events : List LinkEvent) → is_none (heard bounds.framing (heeded bounds events)) ≡ false
heeded_heard bounds events = heeded_heard_behind bounds [] events (heard_nothing bounds)
