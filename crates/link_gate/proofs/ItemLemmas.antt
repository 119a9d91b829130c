-- What is known of the items that a log keeps beside a journal.
use Rattle.std.specs.List.{All, slice_get}
use Rattle.std.proofs.lemmas.List.Elements.{All-append, All-map, All-nil, All-cons}
use Rattle.rx_base.specs.declared.item.Item.{Item}
use Rattle.msg_frame.specs.declared.framing.TheConstants.{MAX_MESSAGE}
use Rattle.msg_frame.specs.Feeding.{IsRest}
use Rattle.msg_frame.proofs.Short.{Keeps, cut_keeps, no_rest}
use Rattle.item_log.specs.Heard.{Heard}
use Rattle.item_log.specs.Log.{received}
use Rattle.link_gate.proofs.Terms.{Bool, List, None, Option, Some, [], ap, arith, false, get_or, inl, inr, length, map, refl, replicate, subst, sym, true, ℕ, ◌<◌, ◌^◌, ◌||◌, ◌∙◌, ◌∷◌, ◌≡◌, ◌≤◌, ◌⊎◌, cases_lt, cond_both, eq-eqb, eqb-true, or_right, true≢false, get_or-replicate, get_or-set_other, get_or-set_same, get_or_past, length-replicate, length-set, get_or_from_slice_get, slice_get_within, unwrap_or, slice_set, ◌==◌, Entry, LinkEvent, Closes, Ends, Opens, Piece, Settles, Framing, Parts, cut, CLOSED, CONNECTIONS, OPENED, shown_items, in_order, none_open, rest_of, bare_item, brought, first_items, hear, hear_parts, items_from, items_of, message_item, IsItemOf, Log, Bounds, events_of, heeded, items_in, KeepsItems, opens}
use Rattle.link_gate.proofs.Phasing.{opens_by, opens-first}

-- the item of a number is that of the journal
pub item_is : (bounds : Bounds) (entries : List Entry) (log : Log) (number : ℕ) (item : Item) → KeepsItems bounds entries log → IsItemOf log number item → slice_get (items_in bounds entries) number ≡ Some item
item_is bounds entries log number item keeps is = ap (λ events. slice_get (items_of bounds.framing events) number) keeps.all_heeded ∙ is bounds.framing (events_of bounds entries) keeps.shows

-- a log received as many items as the journal has
pub received_is : (bounds : Bounds) (entries : List Entry) (log : Log) → KeepsItems bounds entries log → received log ≡ length (items_in bounds entries)
received_is bounds entries log keeps = (shown_items bounds.framing (events_of bounds entries) log keeps.shows).0 ∙ ap (λ events. length (items_of bounds.framing events)) (sym keeps.all_heeded)

-- what holds of each of some items holds of the one at a number
pub item_at_number : (P : Item → Type 0) (items : List Item) (number : ℕ) (item : Item) → All P items → slice_get items number ≡ Some item → P item
item_at_number P items number item all is = subst P (get_or_from_slice_get items number item item is) (all number item (slice_get_within items number item is))

-- no item has more bytes than a message may have
abbrev pub IsShortItem : Item → Type 0
IsShortItem item = length item.bytes ≤ MAX_MESSAGE

-- every rest is one of a message
abbrev AreRests : Framing → List (Option (List ℕ)) → Type 0
AreRests framing rests = (conn : ℕ) → IsRest framing (unwrap_or (rest_of rests conn) [])

-- so is it where one connection has another rest
rest_set : (framing : Framing) (rests : List (Option (List ℕ))) (place : ℕ) (rest : Option (List ℕ)) → AreRests framing rests → IsRest framing (unwrap_or rest []) → AreRests framing (slice_set rests place rest)
rest_set framing rests place rest all h conn = by (conn == place) refl
  where
    P : Option (List ℕ) → Type 0
    P o = IsRest framing (unwrap_or o [])

    by : (b : Bool) → conn == place ≡ b → P (rest_of (slice_set rests place rest) conn)
    by false p = subst P (sym (get_or-set_other rests place conn rest None (λ same. true≢false (sym (eq-eqb conn place same) ∙ p)))) (all conn)
    by true p = subst (λ n. P (rest_of (slice_set rests place rest) n)) (sym (eqb-true conn place p))
        (elim (cases_lt place (length rests)) [
          | inl less ↦ subst P (sym (get_or-set_same rests place rest None less)) h
          | inr past ↦ subst P (sym (get_or_past (slice_set rests place rest) place None (omega (arith, past, length-set rests place rest)))) (no_rest framing)
        ])

none_rest : (framing : Framing) → AreRests framing none_open
unfolding none_open
none_rest framing conn = by (cases_lt conn CONNECTIONS)
  where
    by : (conn < CONNECTIONS) ⊎ (CONNECTIONS ≤ conn) → IsRest framing (unwrap_or (rest_of (replicate CONNECTIONS None) conn) [])
    by (inl less) = subst (λ o. IsRest framing (unwrap_or o [])) (sym (get_or-replicate {A = Option (List ℕ)} CONNECTIONS conn None None less)) (no_rest framing)
    by (inr past) = subst (λ o. IsRest framing (unwrap_or o [])) (sym (get_or_past (replicate CONNECTIONS None) conn None (omega (arith, past, length-replicate {A = Option (List ℕ)} CONNECTIONS None)))) (no_rest framing)

abbrev HoldsHeard : Framing → Option Heard → Type 0
HoldsHeard framing None = Unit {0}
HoldsHeard framing (Some more) = All IsShortItem more.items × AreRests framing more.rests

parts_hold : (framing : Framing) (rests : List (Option (List ℕ))) (conn : ℕ) (parts : Option Parts) → AreRests framing rests → Keeps (IsRest framing) parts → HoldsHeard framing (hear_parts rests conn parts)
parts_hold framing rests conn None all h = tt
parts_hold framing rests conn (Some parts) all h = (All-map IsShortItem (message_item conn) parts.messages h.0, rest_set framing rests conn (Some parts.rest) all h.1)

brought_holds : (framing : Framing) (rests : List (Option (List ℕ))) (event : LinkEvent) → AreRests framing rests → HoldsHeard framing (brought framing rests event)
brought_holds framing rests (Opens conn) all = (All-cons IsShortItem (bare_item OPENED conn) [] (omega arith) (All-nil IsShortItem), rest_set framing rests conn (Some []) all (no_rest framing))
brought_holds framing rests (Piece conn piece) all =
    parts_hold framing rests conn (cut framing (unwrap_or (rest_of rests conn) []) piece) all (cut_keeps framing (unwrap_or (rest_of rests conn) []) piece (all conn))
brought_holds framing rests (Closes conn) all = (All-cons IsShortItem (bare_item CLOSED conn) [] (omega arith) (All-nil IsShortItem), rest_set framing rests conn None all (no_rest framing))
brought_holds framing rests Settles all = (All-nil IsShortItem, all)
brought_holds framing rests Ends all = (All-nil IsShortItem, all)

hear_holds : (framing : Framing) (rests : List (Option (List ℕ))) (event : LinkEvent) → AreRests framing rests → HoldsHeard framing (hear framing rests event)
hear_holds framing rests event all = cond_both (in_order rests event) (brought framing rests event) None (HoldsHeard framing) (λ _. brought_holds framing rests event all) (λ _. tt)

first_short : (framing : Framing) (found : Option Heard) (next : List (Option (List ℕ)) → List Item) → HoldsHeard framing found → ((rests : List (Option (List ℕ))) → AreRests framing rests → All IsShortItem (next rests)) → All IsShortItem (first_items found next)
first_short framing None next h later = All-nil IsShortItem
first_short framing (Some found) next h later = All-append IsShortItem found.items (next found.rests) h.0 (later found.rests h.1)

items_short : (framing : Framing) (rests : List (Option (List ℕ))) (events : List LinkEvent) → AreRests framing rests → All IsShortItem (items_from framing rests events)
unfolding items_from
items_short framing rests [] all = All-nil IsShortItem
items_short framing rests (event ∷ events) all =
    first_short framing (hear framing rests event) (λ more. items_from framing more events) (hear_holds framing rests event all) (λ more h. items_short framing more events h)

pub item_short : (framing : Framing) (events : List LinkEvent) (number : ℕ) (item : Item) → slice_get (items_of framing events) number ≡ Some item → length item.bytes ≤ MAX_MESSAGE
item_short framing events number item is = item_at_number IsShortItem (items_of framing events) number item (items_short framing none_open events (none_rest framing)) is

pub item_fits : (framing : Framing) (events : List LinkEvent) (number : ℕ) (item : Item) → slice_get (items_of framing events) number ≡ Some item → length item.bytes < 2 ^ 32
item_fits framing events number item is = let short : length item.bytes ≤ MAX_MESSAGE = item_short framing events number item is in omega arith

-- an item that says that a connection opened comes of an event that opens it
abbrev IsOpenedBy : List LinkEvent → Item → Type 0
IsOpenedBy events item = item.kind ≡ OPENED → opens item.conn events ≡ true

opened_later : (event : LinkEvent) (events : List LinkEvent) (items : List Item) → All (IsOpenedBy events) items → All (IsOpenedBy (event ∷ events)) items
opened_later event events items all = λ k d less kind. opens-first (get_or items k d).conn event events ∙ or_right (opens_by (get_or items k d).conn event) (opens (get_or items k d).conn events) (all k d less kind)

message_opens : (P : Item → Type 0) (conn : ℕ) (messages : List (List ℕ)) → ((bytes : List ℕ) → P (message_item conn bytes)) → All P (map (message_item conn) messages)
message_opens P conn messages h = All-map P (message_item conn) messages (λ k d less. h (get_or messages k d))

abbrev ItemsAre : (Item → Type 0) → Option Heard → Type 0
ItemsAre P None = Unit {0}
ItemsAre P (Some more) = All P more.items

brought_opens : (framing : Framing) (rests : List (Option (List ℕ))) (event : LinkEvent) (events : List LinkEvent) → ItemsAre (IsOpenedBy (event ∷ events)) (brought framing rests event)
brought_opens framing rests (Opens conn) events = All-cons (IsOpenedBy (Opens conn ∷ events)) (bare_item OPENED conn) [] (λ _. ap (λ (b : Bool). b || opens conn events) (eq-eqb conn conn refl)) (All-nil (IsOpenedBy (Opens conn ∷ events)))
brought_opens framing rests (Piece conn piece) events = by (cut framing (unwrap_or (rest_of rests conn) []) piece)
  where
    by : (parts : Option Parts) → ItemsAre (IsOpenedBy (Piece conn piece ∷ events)) (hear_parts rests conn parts)
    by None = tt
    by (Some parts) = message_opens (IsOpenedBy (Piece conn piece ∷ events)) conn parts.messages (λ bytes kind. absurd (omega (arith, kind)))
brought_opens framing rests (Closes conn) events = All-cons (IsOpenedBy (Closes conn ∷ events)) (bare_item CLOSED conn) [] (λ kind. absurd (omega (arith, kind))) (All-nil (IsOpenedBy (Closes conn ∷ events)))
brought_opens framing rests Settles events = All-nil (IsOpenedBy (Settles ∷ events))
brought_opens framing rests Ends events = All-nil (IsOpenedBy (Ends ∷ events))

first_opens : (event : LinkEvent) (events : List LinkEvent) (found : Option Heard) (next : List (Option (List ℕ)) → List Item) → ItemsAre (IsOpenedBy (event ∷ events)) found → ((rests : List (Option (List ℕ))) → All (IsOpenedBy events) (next rests))
    → All (IsOpenedBy (event ∷ events)) (first_items found next)
first_opens event events None next h later = All-nil (IsOpenedBy (event ∷ events))
first_opens event events (Some found) next h later = All-append (IsOpenedBy (event ∷ events)) found.items (next found.rests) h (opened_later event events (next found.rests) (later found.rests))

items_open : (framing : Framing) (rests : List (Option (List ℕ))) (events : List LinkEvent) → All (IsOpenedBy events) (items_from framing rests events)
unfolding items_from
items_open framing rests [] = All-nil (IsOpenedBy [])
items_open framing rests (event ∷ events) =
    first_opens event events (hear framing rests event) (λ more. items_from framing more events)
    (cond_both (in_order rests event) (brought framing rests event) None (ItemsAre (IsOpenedBy (event ∷ events))) (λ _. brought_opens framing rests event events) (λ _. tt))
    (λ more. items_open framing more events)

pub opened_items : (bounds : Bounds) (entries : List Entry) (number : ℕ) (item : Item) → slice_get (items_in bounds entries) number ≡ Some item → item.kind ≡ OPENED → opens item.conn (heeded bounds (events_of bounds entries)) ≡ true
opened_items bounds entries number item is kind =
    item_at_number (IsOpenedBy (heeded bounds (events_of bounds entries))) (items_in bounds entries) number item (items_open bounds.framing none_open (heeded bounds (events_of bounds entries))) is kind
