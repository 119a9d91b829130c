-- What more entries make of the events that are heeded, of the items received and of what was passed; and of all of these where nothing came before.
use Rattle.links.specs.declared.journal.Entry.TheVariants as entry
use Rattle.session_history.proofs.Terms.{Bool, List, None, [], ap, append-nil, append_assoc, arith, cond, drop, false, length, refl, sym, true, ℕ, ◌++◌, ◌∙◌, ◌∷◌, ◌≡◌, is_none, Entry, LinkEvent, events_in-append, events_in, items_of, Before, Bounds, events_of, heeded, heeded_behind, items_in, nothing_before, received, refusal, passed_behind, passed_in}

-- a piece brings no event
pub events_in-gave : (entries : List Entry) (conn : ℕ) (bytes : List ℕ) (gone : Bool) → events_in (entries ++ entry.Gave conn bytes gone ∷ []) ≡ events_in entries
events_in-gave entries conn bytes gone = events_in-append entries (entry.Gave conn bytes gone ∷ []) ∙ append-nil (events_in entries)

-- all events, with more entries
pub events_of-append : (bounds : Bounds) (entries more : List Entry) → events_of bounds (entries ++ more) ≡ events_of bounds entries ++ events_in more
events_of-append bounds entries more = ap (λ es. bounds.before.events ++ es) (events_in-append entries more) ∙ sym (append_assoc bounds.before.events (events_in entries) (events_in more))

pub events_of-gave : (bounds : Bounds) (entries : List Entry) (conn : ℕ) (bytes : List ℕ) (gone : Bool) → events_of bounds (entries ++ entry.Gave conn bytes gone ∷ []) ≡ events_of bounds entries
events_of-gave bounds entries conn bytes gone = ap (λ es. bounds.before.events ++ es) (events_in-gave entries conn bytes gone)

-- where nothing came before
pub none_had : (bounds : Bounds) → bounds.before ≡ nothing_before → bounds.before.had ≡ []
none_had bounds alone = ap (λ (b : Before). b.had) alone

pub events_alone : (bounds : Bounds) (entries : List Entry) → bounds.before ≡ nothing_before → events_of bounds entries ≡ events_in entries
events_alone bounds entries alone = ap (λ (b : Before). b.events ++ events_in entries) alone

-- all of some events are heeded, and so is the one behind them
pub heeded_behind-more : (bounds : Bounds) (before events : List LinkEvent) (event : LinkEvent) → heeded_behind bounds before events ≡ events → refusal bounds (before ++ events) event ≡ None
    → heeded_behind bounds before (events ++ event ∷ []) ≡ events ++ event ∷ []
unfolding heeded_behind
heeded_behind-more bounds before [] event all fine =
    ap (λ r. cond (is_none r) (event ∷ []) []) (ap (λ b. refusal bounds b event) (sym (append-nil before)) ∙ fine)
heeded_behind-more bounds before (first ∷ events) event all fine =
    of (is_none (refusal bounds before first))
    (λ more. heeded_behind-more bounds (before ++ first ∷ []) events event more (ap (λ b. refusal bounds b event) (append_assoc before (first ∷ []) events) ∙ fine)) all
  where
    of : (c : Bool) → (heeded_behind bounds (before ++ first ∷ []) events ≡ events → heeded_behind bounds (before ++ first ∷ []) (events ++ event ∷ []) ≡ events ++ event ∷ []) → cond c (first ∷ heeded_behind bounds (before ++ first ∷ []) events) [] ≡ first ∷ events
        → cond c (first ∷ heeded_behind bounds (before ++ first ∷ []) (events ++ event ∷ [])) [] ≡ first ∷ (events ++ event ∷ [])
    of true ih h = ap (λ es. first ∷ es) (ih (ap (drop 1) h))
    of false ih h = absurd (omega (arith, ap length h))

-- an event that is refused is not heeded
pub heeded_behind-last : (bounds : Bounds) (before events : List LinkEvent) (event : LinkEvent) → heeded_behind bounds before events ≡ events → is_none (refusal bounds (before ++ events) event) ≡ false
    → heeded_behind bounds before (events ++ event ∷ []) ≡ events
unfolding heeded_behind
heeded_behind-last bounds before [] event all bad =
    ap (λ c. cond c (event ∷ []) []) (ap (λ b. is_none (refusal bounds b event)) (sym (append-nil before)) ∙ bad)
heeded_behind-last bounds before (first ∷ events) event all bad =
    of (is_none (refusal bounds before first))
    (λ more. heeded_behind-last bounds (before ++ first ∷ []) events event more (ap (λ b. is_none (refusal bounds b event)) (append_assoc before (first ∷ []) events) ∙ bad)) all
  where
    of : (c : Bool) → (heeded_behind bounds (before ++ first ∷ []) events ≡ events → heeded_behind bounds (before ++ first ∷ []) (events ++ event ∷ []) ≡ events) → cond c (first ∷ heeded_behind bounds (before ++ first ∷ []) events) [] ≡ first ∷ events
        → cond c (first ∷ heeded_behind bounds (before ++ first ∷ []) (events ++ event ∷ [])) [] ≡ first ∷ events
    of true ih h = ap (λ es. first ∷ es) (ih (ap (drop 1) h))
    of false ih h = absurd (omega (arith, ap length h))

-- a piece brings no item
pub items_in-gave : (bounds : Bounds) (entries : List Entry) (conn : ℕ) (bytes : List ℕ) (gone : Bool) → items_in bounds (entries ++ entry.Gave conn bytes gone ∷ []) ≡ items_in bounds entries
items_in-gave bounds entries conn bytes gone = ap (λ events. items_of bounds.framing (heeded bounds events)) (events_of-gave bounds entries conn bytes gone)

-- one more entry behind what was passed
pub passed_behind-append : (bounds : Bounds) (before entries more : List Entry) → passed_behind bounds before (entries ++ more) ≡ passed_behind bounds before entries ++ passed_behind bounds (before ++ entries) more
passed_behind-append bounds before [] more = ap (λ b. passed_behind bounds b more) (sym (append-nil before))
passed_behind-append bounds before (entry.Took event ∷ entries) more =
    passed_behind-append bounds (before ++ entry.Took event ∷ []) entries more
    ∙ ap (λ b. passed_behind bounds (before ++ entry.Took event ∷ []) entries ++ passed_behind bounds b more) (append_assoc before (entry.Took event ∷ []) entries)
passed_behind-append bounds before (entry.Gave conn bytes gone ∷ entries) more =
    ap (λ pieces. record { conn = conn; bytes = bytes; taken = received bounds before } ∷ pieces)
    (passed_behind-append bounds (before ++ entry.Gave conn bytes gone ∷ []) entries more
    ∙ ap (λ b. passed_behind bounds (before ++ entry.Gave conn bytes gone ∷ []) entries ++ passed_behind bounds b more) (append_assoc before (entry.Gave conn bytes gone ∷ []) entries))

pub passed_in-gave : (bounds : Bounds) (entries : List Entry) (conn : ℕ) (bytes : List ℕ) (gone : Bool) → passed_in bounds (entries ++ entry.Gave conn bytes gone ∷ []) ≡ passed_in bounds entries ++ record { conn = conn; bytes = bytes; taken = received bounds entries } ∷ []
passed_in-gave bounds entries conn bytes gone =
    ap (λ pieces. bounds.before.had ++ pieces) (passed_behind-append bounds [] entries (entry.Gave conn bytes gone ∷ []))
    ∙ sym (append_assoc bounds.before.had (passed_behind bounds [] entries) (record { conn = conn; bytes = bytes; taken = received bounds entries } ∷ []))

pub passed_in-took : (bounds : Bounds) (entries : List Entry) (event : LinkEvent) → passed_in bounds (entries ++ entry.Took event ∷ []) ≡ passed_in bounds entries
passed_in-took bounds entries event = ap (λ pieces. bounds.before.had ++ pieces) (passed_behind-append bounds [] entries (entry.Took event ∷ []) ∙ append-nil (passed_behind bounds [] entries))

-- of all events from the start
pub one_more_heeded : (bounds : Bounds) (events : List LinkEvent) (event : LinkEvent) → heeded bounds events ≡ events → refusal bounds events event ≡ None → heeded bounds (events ++ event ∷ []) ≡ events ++ event ∷ []
one_more_heeded bounds events event all fine = heeded_behind-more bounds [] events event all fine

pub refused_unheeded : (bounds : Bounds) (events : List LinkEvent) (event : LinkEvent) → heeded bounds events ≡ events → is_none (refusal bounds events event) ≡ false → heeded bounds (events ++ event ∷ []) ≡ events
refused_unheeded bounds events event all bad = heeded_behind-last bounds [] events event all bad

-- what came before a session counts by its events alone: of the same events the same ones are heeded, and bring the same items
heeded_behind-alike : (bounds : Bounds) (what : Before) (before events : List LinkEvent) → heeded_behind (record bounds { before = what }) before events ≡ heeded_behind bounds before events
unfolding heeded_behind
heeded_behind-alike bounds what before [] = refl
heeded_behind-alike bounds what before (event ∷ events) = ap (λ more. cond (is_none (refusal bounds before event)) (event ∷ more) []) (heeded_behind-alike bounds what (before ++ event ∷ []) events)

pub heeded-alike : (bounds : Bounds) (what : Before) (entries others : List Entry) → events_of (record bounds { before = what }) others ≡ events_of bounds entries
    → heeded (record bounds { before = what }) (events_of (record bounds { before = what }) others) ≡ heeded bounds (events_of bounds entries)
heeded-alike bounds what entries others same = ap (heeded (record bounds { before = what })) same ∙ heeded_behind-alike bounds what [] (events_of bounds entries)

pub items_in-alike : (bounds : Bounds) (what : Before) (entries others : List Entry) → events_of (record bounds { before = what }) others ≡ events_of bounds entries → items_in (record bounds { before = what }) others ≡ items_in bounds entries
items_in-alike bounds what entries others same = ap (items_of bounds.framing) (heeded-alike bounds what entries others same)
