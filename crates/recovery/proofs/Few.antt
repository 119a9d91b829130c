-- A session receives no more items than its bounds allow.
use Rattle.links.specs.declared.journal.LinkEvent.{LinkEvent}
use Rattle.item_log.specs.Heard.{heard, heard_from, items_from, items_of}
use Rattle.recovery.proofs.Terms.{Bool, List, None, Some, [], append-nil, append_assoc, arith, cond, false, leb, length, ltb, refl, subst, sym, true, ◌++◌, ◌∷◌, ◌≡◌, ◌≤◌, ltb-false, is_none, Entry, Bounds, LimitEvents, LimitItems, TooLong, events_of, heeded_behind, received, refusal}

not_full : (many long full : Bool) → is_none (cond many (Some LimitEvents) (cond long (Some TooLong) (cond full (Some LimitItems) None))) ≡ true → full ≡ false
not_full true long full h = cc
not_full false true full h = cc
not_full false false true h = cc
not_full false false false h = refl

-- events are heeded behind others that bring no more items than are allowed
few_behind : (bounds : Bounds) (before events : List LinkEvent) → length (items_of bounds.framing before) ≤ bounds.max_items → length (items_of bounds.framing (before ++ heeded_behind bounds before events)) ≤ bounds.max_items
unfolding heeded_behind
few_behind bounds before [] few = subst (λ es. length (items_of bounds.framing es) ≤ bounds.max_items) (sym (append-nil before)) few
few_behind bounds before (event ∷ events) few =
    of (is_none (refusal bounds before event)) refl (few_behind bounds (before ++ event ∷ []) events)
  where
    of : (b : Bool) → is_none (refusal bounds before event) ≡ b
        → (length (items_of bounds.framing (before ++ event ∷ [])) ≤ bounds.max_items → length (items_of bounds.framing ((before ++ event ∷ []) ++ heeded_behind bounds (before ++ event ∷ []) events)) ≤ bounds.max_items)
        → length (items_of bounds.framing (before ++ cond b (event ∷ heeded_behind bounds (before ++ event ∷ []) events) [])) ≤ bounds.max_items
    of true fine more =
        let room : length (items_of bounds.framing (before ++ event ∷ [])) ≤ bounds.max_items =
        ltb-false bounds.max_items (length (items_of bounds.framing (before ++ event ∷ [])))
        (not_full (leb bounds.max_events (length before)) (is_none (heard bounds.framing (before ++ event ∷ []))) (ltb bounds.max_items (length (items_of bounds.framing (before ++ event ∷ [])))) fine) in
        subst (λ es. length (items_of bounds.framing es) ≤ bounds.max_items) (append_assoc before (event ∷ []) (heeded_behind bounds (before ++ event ∷ []) events)) (more room)
    of false bad more = subst (λ es. length (items_of bounds.framing es) ≤ bounds.max_items) (sym (append-nil before)) few

none_yet : (bounds : Bounds) → length (items_of bounds.framing []) ≡ 0
unfolding heard_from items_from
none_yet bounds = refl

pub few_items : (bounds : Bounds) (entries : List Entry) → received bounds entries ≤ bounds.max_items
few_items bounds entries = few_behind bounds [] (events_of bounds entries) (let none = none_yet bounds in omega (arith, none))
