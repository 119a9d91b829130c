-- First parts of lists, and of the events that a session heeds.
use Rattle.links.specs.declared.journal.Entry.TheVariants as entry
use Rattle.links.specs.declared.journal.LinkEvent.TheVariants as event
use Rattle.links.specs.declared.journal.LinkEvent.TheVariants.{Ends}
use Rattle.routes.proofs.Terms.{Bool, List, None, Option, Some, [], ap, append-nil, append_assoc, arith, cond, drop, false, if◌then◌else◌, inl, inr, length, length-append, nat_lt, refl, sym, true, ◌++◌, ◌∙◌, ◌∷◌, ◌≡◌, ◌≢◌, ◌⊎◌, drop-append_seam, le-ltb, leb-false, lt-leb, ltb-false, nil_from_length, none-some, is_none, nat_le, Prefix, LinkEvent, events_in, heard, items_of, Bounds, LimitEvents, LimitItems, TooLong, Unheeded, heeded_behind, refusal, two_fronts, IsWithin}

pub both_ways : {X : Type 0} (xs ys : List X) → Prefix xs ys → Prefix ys xs → ys ≡ xs
both_ways xs ys front back =
    let count : length xs ≡ length ys = omega (arith, ap length front.1, ap length back.1, length-append xs front.0, length-append ys back.0) in
    sym (sym (append-nil xs) ∙ ap (λ l. xs ++ l) (sym (nil_from_length front.0 (omega (arith, count, ap length front.1, length-append xs front.0)))) ∙ front.1)

pub two_of_one : {X : Type 0} (xs ys all : List X) → Prefix xs all → Prefix ys all → Prefix xs ys ⊎ Prefix ys xs
two_of_one xs ys all first second =
    elim (two_fronts xs first.0 ys second.0 (first.1 ∙ sym second.1)) [
      | inl found ↦ inr found
      | inr found ↦ inl (found.0 ∷ found.1, sym found.2)
    ]

-- behind the same front the same element comes
pub same_next : {X : Type 0} (xs rest others : List X) (x y : X) → xs ++ x ∷ rest ≡ xs ++ y ∷ others → x ≡ y
same_next xs rest others x y same =
    let behind : x ∷ rest ≡ y ∷ others = sym (drop-append_seam xs (x ∷ rest)) ∙ ap (drop (length xs)) same ∙ drop-append_seam xs (y ∷ others) in
    cc

-- an event but Ends is an event of the journal
pub event_counts : (event : LinkEvent) → event ≢ Ends → events_in (entry.Took event ∷ []) ≡ event ∷ []
event_counts (event.Opens conn) counts = refl
event_counts (event.Piece conn bytes) counts = refl
event_counts (event.Closes conn) counts = refl
event_counts event.Settles counts = refl
event_counts event.Ends counts = absurd (counts refl)

no_next : {X : Type 0} (xs rest : List X) (x : X) → [] ≡ xs ++ x ∷ rest → ⊥
no_next [] rest x same = cc
no_next (y ∷ ys) rest x same = cc

-- an event that is heeded isn't refused behind those before it
pub heeded_next : (bounds : Bounds) (before events front : List LinkEvent) (one : LinkEvent) (rest : List LinkEvent) → heeded_behind bounds before events ≡ front ++ one ∷ rest → refusal bounds (before ++ front) one ≡ None
unfolding heeded_behind
heeded_next bounds before [] front one rest same = absurd (no_next front rest one same)
heeded_next bounds before (first ∷ events) front one rest same = of (refusal bounds before first) refl (λ ys later. heeded_next bounds (before ++ first ∷ []) events ys one rest later) front same
  where
    of : (found : Option Unheeded) → refusal bounds before first ≡ found
        → ((ys : List LinkEvent) → heeded_behind bounds (before ++ first ∷ []) events ≡ ys ++ one ∷ rest → refusal bounds ((before ++ first ∷ []) ++ ys) one ≡ None)
        → (ys : List LinkEvent) → cond (is_none found) (first ∷ heeded_behind bounds (before ++ first ∷ []) events) [] ≡ ys ++ one ∷ rest → refusal bounds (before ++ ys) one ≡ None
    of (Some cause) is later ys same = absurd (no_next ys rest one same)
    of None is later [] same =
        let here : one ≡ first = cc in
        ap (λ e. refusal bounds (before ++ []) e) here ∙ ap (λ l. refusal bounds l first) (append-nil before) ∙ is
    of None is later (y ∷ ys) same =
        let here : y ≡ first = cc in
        ap (λ e. refusal bounds (before ++ e ∷ ys) one) here ∙ ap (λ l. refusal bounds l one) (sym (append_assoc before (first ∷ []) ys)) ∙ later ys (ap (drop 1) same)

-- the causes of a refusal, in their order
abbrev first_cause : Bool → Bool → Bool → Option Unheeded
first_cause late long many = if late then Some LimitEvents else if long then Some TooLong else if many then Some LimitItems else None

no_cause : (late long many : Bool) → first_cause late long many ≡ None → (late ≡ false) × (long ≡ false) × (many ≡ false)
no_cause true long many none = absurd (none-some LimitEvents (sym none))
no_cause false true many none = absurd (none-some TooLong (sym none))
no_cause false false true none = absurd (none-some LimitItems (sym none))
no_cause false false false none = (refl, refl, refl)

-- what isn't refused within bounds isn't within wider ones
pub wider : (bounds other : Bounds) (before : List LinkEvent) (one : LinkEvent) → other.framing ≡ bounds.framing → IsWithin bounds other → refusal bounds before one ≡ None → refusal other before one ≡ None
wider bounds other before one framing within none =
    let causes = no_cause _ _ _ none in
    let late : nat_le other.max_events (length before) ≡ false = lt-leb other.max_events (length before) (omega (arith, leb-false bounds.max_events (length before) causes.0, within.events)) in
    let long : is_none (heard other.framing (before ++ one ∷ [])) ≡ false = ap (λ f. is_none (heard f (before ++ one ∷ []))) framing ∙ causes.1 in
    let count : length (items_of other.framing (before ++ one ∷ [])) ≡ length (items_of bounds.framing (before ++ one ∷ [])) = ap (λ f. length (items_of f (before ++ one ∷ []))) framing in
    let many : nat_lt other.max_items (length (items_of other.framing (before ++ one ∷ []))) ≡ false =
    le-ltb other.max_items (length (items_of other.framing (before ++ one ∷ []))) (omega (arith, ltb-false bounds.max_items (length (items_of bounds.framing (before ++ one ∷ []))) causes.2, count, within.items)) in
    ap (λ (b : Bool). first_cause b (is_none (heard other.framing (before ++ one ∷ []))) (nat_lt other.max_items (length (items_of other.framing (before ++ one ∷ []))))) late
    ∙ ap (λ (b : Bool). first_cause false b (nat_lt other.max_items (length (items_of other.framing (before ++ one ∷ []))))) long
    ∙ ap (λ (b : Bool). first_cause false false b) many
