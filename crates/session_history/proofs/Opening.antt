-- What events open and close, and what their items do.
use Rattle.std.proofs.Math.Seq.{take-append-add}
use Rattle.links.specs.declared.journal.LinkEvent.TheVariants as event
use Rattle.item_log.proofs.Hearing.{one_more_event}
use Rattle.session_history.proofs.Terms.{Bool, List, None, Option, Some, [], ap, append_assoc, arith, eqb, false, inl, inr, length, length-append, map, refl, subst, suc, sym, take, true, zero, ℕ, ◌++◌, ◌+◌, ◌-◌, ◌∙◌, ◌∷◌, ◌≡◌, ◌≢◌, ◌≤◌, both_ways, cond_both, eq-eqb, or_cases, or_left, or_right, is_none, unwrap_or, ◌||◌, Item, LinkEvent, Framing, Parts, cut, CLOSED, in_order, none_open, rest_of, Heard, bare_item, behind_items, brought, first_items, hear, hear_parts, heard, items_by, items_from, items_of, message_item, OpenWithin, closed_may, may, within_after, within_start, connections_after, no_connections, closes, opens, OpensOnce}
use Rattle.session_history.proofs.Connected.{after_items, after_items-append}

-- each connection that some events open has this property, and each that some items open
abbrev pub AllOpen : (ℕ → Type 0) → List LinkEvent → Type 0
AllOpen P [] = Unit {0}
AllOpen P (event.Opens conn ∷ events) = P conn × AllOpen P events
AllOpen P (event.Piece conn bytes ∷ events) = AllOpen P events
AllOpen P (event.Closes conn ∷ events) = AllOpen P events
AllOpen P (event.Settles ∷ events) = AllOpen P events
AllOpen P (event.Ends ∷ events) = AllOpen P events

abbrev pub Opening : (ℕ → Type 0) → List Item → Type 0
Opening P [] = Unit {0}
Opening P (item ∷ items) = (item.kind ≡ 1 → P item.conn) × Opening P items

pub all_open_as : (P Q : ℕ → Type 0) → ((conn : ℕ) → P conn → Q conn) → (events : List LinkEvent) → AllOpen P events → AllOpen Q events
all_open_as P Q so [] all = tt
all_open_as P Q so (event.Opens conn ∷ events) all = (so conn all.0, all_open_as P Q so events all.1)
all_open_as P Q so (event.Piece conn bytes ∷ events) all = all_open_as P Q so events all
all_open_as P Q so (event.Closes conn ∷ events) all = all_open_as P Q so events all
all_open_as P Q so (event.Settles ∷ events) all = all_open_as P Q so events all
all_open_as P Q so (event.Ends ∷ events) all = all_open_as P Q so events all

-- any property that all connections have
pub all_open_any : (P : ℕ → Type 0) → ((conn : ℕ) → P conn) → (events : List LinkEvent) → AllOpen P events
all_open_any P any [] = tt
all_open_any P any (event.Opens conn ∷ events) = (any conn, all_open_any P any events)
all_open_any P any (event.Piece conn bytes ∷ events) = all_open_any P any events
all_open_any P any (event.Closes conn ∷ events) = all_open_any P any events
all_open_any P any (event.Settles ∷ events) = all_open_any P any events
all_open_any P any (event.Ends ∷ events) = all_open_any P any events

-- events open what they open
pub all_opened : (events : List LinkEvent) → AllOpen (λ conn. opens conn events ≡ true) events
all_opened [] = tt
all_opened (event.Opens conn ∷ events) = (
  or_left (eqb conn conn) (opens conn events) (eq-eqb conn conn refl),
  all_open_as (λ c. opens c events ≡ true) (λ c. (eqb conn c || opens c events) ≡ true) (λ c h. or_right (eqb conn c) (opens c events) h) events (all_opened events),
)
all_opened (event.Piece conn bytes ∷ events) = all_opened events
all_opened (event.Closes conn ∷ events) = all_opened events
all_opened (event.Settles ∷ events) = all_opened events
all_opened (event.Ends ∷ events) = all_opened events

-- a connection that was closed stays so
closes_more : (conn : ℕ) (events more : List LinkEvent) → closes conn events ≡ true → closes conn (events ++ more) ≡ true
closes_more conn [] more h = cc
closes_more conn (event.Opens c ∷ events) more h = closes_more conn events more h
closes_more conn (event.Piece c bytes ∷ events) more h = closes_more conn events more h
closes_more conn (event.Closes c ∷ events) more h =
    elim (or_cases (eqb c conn) (closes conn events) h) [
      | inl here ↦ or_left (eqb c conn) (closes conn (events ++ more)) here
      | inr later ↦ or_right (eqb c conn) (closes conn (events ++ more)) (closes_more conn events more later)
    ]
closes_more conn (event.Settles ∷ events) more h = closes_more conn events more h
closes_more conn (event.Ends ∷ events) more h = closes_more conn events more h

-- and isn't opened again
pub none_open_again : (whole before events after : List LinkEvent) (conn : ℕ) → OpensOnce whole → whole ≡ before ++ (events ++ after) → closes conn before ≡ true → AllOpen (λ c. c ≢ conn) events
none_open_again whole before [] after conn once is closed = tt
none_open_again whole before (first ∷ events) after conn once is closed =
    of first is (none_open_again whole (before ++ first ∷ []) events after conn once (is ∙ sym (append_assoc before (first ∷ []) (events ++ after))) (closes_more conn before (first ∷ []) closed))
  where
    of : (e : LinkEvent) → whole ≡ before ++ (e ∷ (events ++ after)) → AllOpen (λ c. c ≢ conn) events → AllOpen (λ c. c ≢ conn) (e ∷ events)
    of (event.Opens c) split all = ((λ same. both_ways (closes conn before) (subst (λ d. closes d before ≡ false) same (once before (events ++ after) c split)) closed), all)
    of (event.Piece c bytes) split all = all
    of (event.Closes c) split all = all
    of event.Settles split all = all
    of event.Ends split all = all

pub opening-append : (P : ℕ → Type 0) (items more : List Item) → Opening P items → Opening P more → Opening P (items ++ more)
opening-append P [] more all others = others
opening-append P (item ∷ items) more all others = (all.0, opening-append P items more all.1 others)

pub opening-take : (P : ℕ → Type 0) (n : ℕ) (items : List Item) → Opening P items → Opening P (take n items)
opening-take P zero items all = tt
opening-take P (suc n) [] all = tt
opening-take P (suc n) (item ∷ items) all = (all.0, opening-take P n items all.1)

-- messages open nothing
messages_open : (P : ℕ → Type 0) (conn : ℕ) (messages : List (List ℕ)) → Opening P (map (message_item conn) messages)
messages_open P conn [] = tt
messages_open P conn (message ∷ messages) = ((λ h. absurd (cc)), messages_open P conn messages)

-- what an event brings opens what it opens
abbrev OpeningHeard : (ℕ → Type 0) → Option Heard → Type 0
OpeningHeard P None = Unit {0}
OpeningHeard P (Some found) = Opening P found.items

parts_open : (P : ℕ → Type 0) (rests : List (Option (List ℕ))) (conn : ℕ) (parts : Option Parts) → OpeningHeard P (hear_parts rests conn parts)
parts_open P rests conn None = tt
parts_open P rests conn (Some parts) = messages_open P conn parts.messages

brought_open : (P : ℕ → Type 0) (framing : Framing) (rests : List (Option (List ℕ))) (event : LinkEvent) → AllOpen P (event ∷ []) → OpeningHeard P (brought framing rests event)
brought_open P framing rests (event.Opens conn) all = ((λ h. all.0), tt)
brought_open P framing rests (event.Piece conn piece) all = parts_open P rests conn (cut framing (unwrap_or (rest_of rests conn) []) piece)
brought_open P framing rests (event.Closes conn) all = ((λ h. absurd (cc)), tt)
brought_open P framing rests event.Settles all = tt
brought_open P framing rests event.Ends all = tt

hear_open : (P : ℕ → Type 0) (framing : Framing) (rests : List (Option (List ℕ))) (event : LinkEvent) → AllOpen P (event ∷ []) → OpeningHeard P (hear framing rests event)
hear_open P framing rests event all = cond_both (in_order rests event) (brought framing rests event) None (OpeningHeard P) (λ _. brought_open P framing rests event all) (λ _. tt)

-- the first of some events, and the others
all_first : (P : ℕ → Type 0) (first : LinkEvent) (events : List LinkEvent) → AllOpen P (first ∷ events) → AllOpen P (first ∷ []) × AllOpen P events
all_first P (event.Opens conn) events all = ((all.0, tt), all.1)
all_first P (event.Piece conn bytes) events all = (tt, all)
all_first P (event.Closes conn) events all = (tt, all)
all_first P event.Settles events all = (tt, all)
all_first P event.Ends events all = (tt, all)

-- the items of some events open what these open
pub items_open : (P : ℕ → Type 0) (framing : Framing) (rests : List (Option (List ℕ))) (events : List LinkEvent) → AllOpen P events → Opening P (items_from framing rests events)
unfolding items_from
items_open P framing rests [] all = tt
items_open P framing rests (first ∷ events) all =
    let parts = all_first P first events all in
    of (hear framing rests first) (hear_open P framing rests first parts.0) (λ after. items_open P framing after events parts.1)
  where
    of : (found : Option Heard) → OpeningHeard P found → ((after : List (Option (List ℕ))) → Opening P (items_from framing after events)) → Opening P (first_items found (λ after. items_from framing after events))
    of None open_first more = tt
    of (Some found) open_first more = opening-append P found.items (items_from framing found.rests events) open_first (more found.rests)

-- the items of more events come behind, and open what those open
pub record Behind (P : ℕ → Type 0) (items whole : List Item) : Type 0 where
  pub later : List Item
  pub split : whole ≡ items ++ later
  pub opens : Opening P later

pub items_behind : (P : ℕ → Type 0) (framing : Framing) (rests : List (Option (List ℕ))) (events more : List LinkEvent) → AllOpen P more → Behind P (items_from framing rests events) (items_from framing rests (events ++ more))
unfolding items_from
items_behind P framing rests [] more all = record { later = items_from framing rests more; split = refl; opens = items_open P framing rests more all }
items_behind P framing rests (first ∷ events) more all = of (hear framing rests first) (λ after. items_behind P framing after events more all)
  where
    of : (found : Option Heard) → ((after : List (Option (List ℕ))) → Behind P (items_from framing after events) (items_from framing after (events ++ more)))
        → Behind P (first_items found (λ after. items_from framing after events)) (first_items found (λ after. items_from framing after (events ++ more)))
    of None next = record { later = []; split = refl; opens = tt }
    of (Some found) next =
        let behind = next found.rests in
        record { later = behind.later; split = ap (λ its. found.items ++ its) behind.split ∙ sym (append_assoc found.items (items_from framing found.rests events) behind.later); opens = behind.opens }

-- each connection that items leave open was open before, or they open it
pub within_items : (P : ℕ → Type 0) (items : List Item) (connections : List Bool) → OpenWithin P connections → Opening P items → OpenWithin P (after_items items connections)
within_items P [] connections within all = within
within_items P (item ∷ items) connections within all = within_items P items (connections_after item connections) (within_after P item connections within all.0) all.1

-- a close that is heard brings its item
abbrev BringsClose : ℕ → Option Heard → Type 0
BringsClose conn None = Unit {0}
BringsClose conn (Some found) = found.items ≡ bare_item CLOSED conn ∷ []

pub close_item : (framing : Framing) (events : List LinkEvent) (conn : ℕ) → is_none (heard framing events) ≡ false → is_none (heard framing (events ++ event.Closes conn ∷ [])) ≡ false
    → items_of framing (events ++ event.Closes conn ∷ []) ≡ items_of framing events ++ bare_item CLOSED conn ∷ []
close_item framing events conn was now = of_before (heard framing events) refl was
  where
    brings : (rests : List (Option (List ℕ))) → BringsClose conn (hear framing rests (event.Closes conn))
    brings rests = cond_both (in_order rests (event.Closes conn)) (brought framing rests (event.Closes conn)) None (BringsClose conn) (λ _. refl) (λ _. tt)

    of_found : (before : Heard) (found : Option Heard) → BringsClose conn found → is_none (behind_items before.items found) ≡ false → items_by found ≡ bare_item CLOSED conn ∷ []
    of_found before None is heard_so = cc
    of_found before (Some found) is heard_so = is

    of_before : (before : Option Heard) → heard framing events ≡ before → is_none before ≡ false → items_of framing (events ++ event.Closes conn ∷ []) ≡ items_of framing events ++ bare_item CLOSED conn ∷ []
    of_before None is fine = cc
    of_before (Some before) is fine =
        let more = one_more_event framing events (event.Closes conn) before is in
        more.0
        ∙ ap (λ its. items_of framing events ++ its)
        (of_found before (hear framing before.rests (event.Closes conn)) (brings before.rests) (sym (ap (λ found. is_none found) more.1) ∙ now))

-- behind its close, no items leave a connection open that none of them opens
pub closed_behind : (before later : List Item) (conn n : ℕ) → Opening (λ c. c ≢ conn) later → length before + 1 ≤ n → may (after_items (take n ((before ++ bare_item CLOSED conn ∷ []) ++ later)) no_connections) conn ≡ true → ⊥
closed_behind before later conn n all late may_be =
    let front : List Item = before ++ bare_item CLOSED conn ∷ [] in
    let k : ℕ = n - length front in
    let same : n ≡ length front + k = omega (arith, length-append before (bare_item CLOSED conn ∷ []), late) in
    let split : take n (front ++ later) ≡ front ++ take k later = ap (λ m. take m (front ++ later)) same ∙ take-append-add front later k in
    let closed : may (after_items front no_connections) conn ≡ false =
    ap (λ cs. may cs conn) (after_items-append before (bare_item CLOSED conn ∷ []) no_connections) ∙ closed_may (bare_item CLOSED conn) (after_items before no_connections) refl in
    let within : OpenWithin (λ c. c ≢ conn) (after_items front no_connections) = record {
      each = λ c may_c same. both_ways (may (after_items front no_connections) conn) closed (subst (λ d. may (after_items front no_connections) d ≡ true) same may_c);
    } in
    let all_within = within_items (λ c. c ≢ conn) (take k later) (after_items front no_connections) within (opening-take (λ c. c ≢ conn) k later all) in
    all_within.each conn (ap (λ cs. may cs conn) (sym (ap (λ its. after_items its no_connections) split ∙ after_items-append front (take k later) no_connections)) ∙ may_be) refl

-- a connection that the items of some events leave open is one that they open
pub opened_before : (framing : Framing) (events : List LinkEvent) (conn n : ℕ) → may (after_items (take n (items_of framing events)) no_connections) conn ≡ true → opens conn events ≡ true
opened_before framing events conn n may_be =
    let P : ℕ → Type 0 = λ c. opens c events ≡ true in
    (within_items P (take n (items_of framing events)) no_connections (within_start P) (opening-take P n (items_of framing events) (items_open P framing none_open events (all_opened events)))).each conn may_be
