-- Items of events that come in parts.
use Rattle.item_log.proofs.Terms.{List, None, Option, Some, [], ap, append_assoc, length, refl, sym, true, ℕ, ◌++◌, ◌∙◌, ◌∷◌, ◌≡◌, cond-true, cond_both, append-nil, length-replicate, length-set, same_Some, unwrap_or, Item, LinkEvent, Closes, Ends, Opens, Piece, Settles, Framing, Parts, cut, CONNECTIONS, in_order, none_open, rest_of, Heard, behind_items, brought, first_items, hear, hear_parts, heard, heard_from, items_by, items_from, items_of, then_hear, HeardItems, OneMoreEvent, RefusedGiveNone}

-- nothing heard, and items before what was heard
abbrev nothing : List (Option (List ℕ)) → Heard
nothing rests = record { items = []; rests = rests }

abbrev behind : List Item → Heard → Heard
behind items heard = record { items = items ++ heard.items; rests = heard.rests }

behind_items-none : (heard : Option Heard) → behind_items [] heard ≡ heard
behind_items-none None = refl
behind_items-none (Some heard) = refl

behind_items-behind_items : (xs ys : List Item) (heard : Option Heard) → behind_items xs (behind_items ys heard) ≡ behind_items (xs ++ ys) heard
behind_items-behind_items xs ys None = refl
behind_items-behind_items xs ys (Some heard) = rw append_assoc refl

then_hear-behind_items : (xs : List Item) (heard : Option Heard) (f : List (Option (List ℕ)) → Option Heard) → then_hear (behind_items xs heard) f ≡ behind_items xs (then_hear heard f)
then_hear-behind_items xs None f = refl
then_hear-behind_items xs (Some heard) f = sym (behind_items-behind_items xs heard.items (f heard.rests))

then_hear_same : (heard : Option Heard) (f g : List (Option (List ℕ)) → Option Heard) → ((rests : List (Option (List ℕ))) → f rests ≡ g rests) → then_hear heard f ≡ then_hear heard g
then_hear_same None f g same = refl
then_hear_same (Some heard) f g same = ap (behind_items heard.items) (same heard.rests)

then_hear-then_hear : (heard : Option Heard) (f g : List (Option (List ℕ)) → Option Heard) → then_hear (then_hear heard f) g ≡ then_hear heard (λ rests. then_hear (f rests) g)
then_hear-then_hear None f g = refl
then_hear-then_hear (Some heard) f g = then_hear-behind_items heard.items (f heard.rests) g

-- events that come in two parts
heard_from-append : (framing : Framing) (rests : List (Option (List ℕ))) (events more : List LinkEvent) → heard_from framing rests (events ++ more) ≡ then_hear (heard_from framing rests events) (λ after. heard_from framing after more)
unfolding heard_from
heard_from-append framing rests [] more = sym (behind_items-none (heard_from framing rests more))
heard_from-append framing rests (event ∷ events) more =
    then_hear_same (hear framing rests event) (λ after. heard_from framing after (events ++ more)) (λ after. then_hear (heard_from framing after events) (λ last. heard_from framing last more)) (λ after. heard_from-append framing after events more)
    ∙ sym (then_hear-then_hear (hear framing rests event) (λ after. heard_from framing after events) (λ last. heard_from framing last more))

then_nothing : (heard : Option Heard) → then_hear heard (λ rests. Some (record { items = []; rests = rests })) ≡ heard
then_nothing None = refl
then_nothing (Some heard) = rw append-nil refl

heard_from-one : (framing : Framing) (rests : List (Option (List ℕ))) (event : LinkEvent) → heard_from framing rests (event ∷ []) ≡ hear framing rests event
unfolding heard_from
heard_from-one framing rests event = then_nothing (hear framing rests event)

first_nothing : (heard : Option Heard) → first_items heard (λ rests. []) ≡ items_by heard
first_nothing None = refl
first_nothing (Some heard) = append-nil heard.items

items_from-one : (framing : Framing) (rests : List (Option (List ℕ))) (event : LinkEvent) → items_from framing rests (event ∷ []) ≡ items_by (hear framing rests event)
unfolding items_from
items_from-one framing rests event = first_nothing (hear framing rests event)

-- items before those that were heard later
items_before : (first : List Item) (found all : Heard) → behind_items first (Some found) ≡ Some all → (first ++ found.items ≡ all.items) × (found.rests ≡ all.rests)
items_before first found all is =
    let same : behind first found ≡ all = same_Some (behind first found) all is in
    (ap (λ (heard : Heard). heard.items) same, ap (λ (heard : Heard). heard.rests) same)

-- one event before others of which none is refused
later_on : (first : Heard) (found : Option Heard) (items whole : List Item) (behind : List (Option (List ℕ)) → List Item) (all : Heard) →
    ((later : Heard) → found ≡ Some later → (whole ≡ items ++ behind later.rests) × (items ≡ later.items)) →
    behind_items first.items found ≡ Some all → (first.items ++ whole ≡ first.items ++ items ++ behind all.rests) × (first.items ++ items ≡ all.items)
later_on first None items whole behind all h is = absurd (cc)
later_on first (Some found) items whole behind all h is =
    let later = h found refl in
    let parts = items_before first.items found all is in (
      ap (λ items. first.items ++ items) later.0 ∙ sym (append_assoc first.items items (behind found.rests)) ∙ ap (λ rests. first.items ++ items ++ behind rests) parts.1,
      ap (λ items. first.items ++ items) later.1 ∙ parts.0,
    )

step_on : (now : Option Heard) (next : List (Option (List ℕ)) → Option Heard) (items whole : List (Option (List ℕ)) → List Item) (behind : List (Option (List ℕ)) → List Item) (all : Heard) →
    ((rests : List (Option (List ℕ))) (later : Heard) → next rests ≡ Some later → (whole rests ≡ items rests ++ behind later.rests) × (items rests ≡ later.items)) →
    then_hear now next ≡ Some all → (first_items now whole ≡ first_items now items ++ behind all.rests) × (first_items now items ≡ all.items)
step_on None next items whole behind all h is = absurd (cc)
step_on (Some first) next items whole behind all h is = later_on first (next first.rests) (items first.rests) (whole first.rests) behind all (h first.rests) is

items_from-append : (framing : Framing) (rests : List (Option (List ℕ))) (events more : List LinkEvent) (all : Heard) → heard_from framing rests events ≡ Some all →
    (items_from framing rests (events ++ more) ≡ items_from framing rests events ++ items_from framing all.rests more) × (items_from framing rests events ≡ all.items)
unfolding heard_from items_from
items_from-append framing rests [] more all is =
    let same : nothing rests ≡ all = same_Some (nothing rests) all is in
    (ap (λ (heard : Heard). items_from framing heard.rests more) same, ap (λ (heard : Heard). heard.items) same)
items_from-append framing rests (event ∷ events) more all is =
    step_on (hear framing rests event) (λ after. heard_from framing after events) (λ after. items_from framing after events) (λ after. items_from framing after (events ++ more)) (λ last. items_from framing last more) all
    (λ after later h. items_from-append framing after events more later h) is

pub one_more_event : OneMoreEvent
one_more_event framing events event before is = (
  ap (items_of framing) refl ∙ (items_from-append framing none_open events (event ∷ []) before is).0 ∙ ap (λ items. items_of framing events ++ items) (items_from-one framing before.rests event),
  heard_from-append framing none_open events (event ∷ [])
      ∙ ap (λ heard. then_hear heard (λ after. heard_from framing after (event ∷ []))) is
      ∙ ap (behind_items before.items) (heard_from-one framing before.rests event),
)

-- events of which one is refused
later_refused : (first : Heard) (found : Option Heard) (items whole : List Item) → (found ≡ None → whole ≡ items) → behind_items first.items found ≡ None → first.items ++ whole ≡ first.items ++ items
later_refused first None items whole h is = ap (λ items. first.items ++ items) (h refl)
later_refused first (Some found) items whole h is = absurd (cc)

step_refused : (now : Option Heard) (next : List (Option (List ℕ)) → Option Heard) (items whole : List (Option (List ℕ)) → List Item) → ((rests : List (Option (List ℕ))) → next rests ≡ None → whole rests ≡ items rests) →
    then_hear now next ≡ None → first_items now whole ≡ first_items now items
step_refused None next items whole h is = refl
step_refused (Some first) next items whole h is = later_refused first (next first.rests) (items first.rests) (whole first.rests) (h first.rests) is

items_from-refused : (framing : Framing) (rests : List (Option (List ℕ))) (events more : List LinkEvent) → heard_from framing rests events ≡ None → items_from framing rests (events ++ more) ≡ items_from framing rests events
unfolding heard_from items_from
items_from-refused framing rests [] more is = absurd (cc)
items_from-refused framing rests (event ∷ events) more is =
    step_refused (hear framing rests event) (λ after. heard_from framing after events) (λ after. items_from framing after events) (λ after. items_from framing after (events ++ more)) (λ after h. items_from-refused framing after events more h) is

pub refused_give_none : RefusedGiveNone
refused_give_none framing events more is = items_from-refused framing none_open events more is

-- the number of connections stays
abbrev HasPlaces : ℕ → Option Heard → Type 0
HasPlaces n None = Unit {0}
HasPlaces n (Some heard) = length heard.rests ≡ n

parts_places : (rests : List (Option (List ℕ))) (conn : ℕ) (parts : Option Parts) → HasPlaces (length rests) (hear_parts rests conn parts)
parts_places rests conn None = tt
parts_places rests conn (Some parts) = length-set rests conn (Some parts.rest)

brought_places : (framing : Framing) (rests : List (Option (List ℕ))) (event : LinkEvent) → HasPlaces (length rests) (brought framing rests event)
brought_places framing rests (Opens conn) = length-set rests conn (Some [])
brought_places framing rests (Piece conn piece) = parts_places rests conn (cut framing (unwrap_or (rest_of rests conn) []) piece)
brought_places framing rests (Closes conn) = length-set rests conn None
brought_places framing rests Settles = refl
brought_places framing rests Ends = refl

hear_places : (framing : Framing) (rests : List (Option (List ℕ))) (event : LinkEvent) → HasPlaces (length rests) (hear framing rests event)
hear_places framing rests event = cond_both (in_order rests event) (brought framing rests event) None (HasPlaces (length rests)) (λ _. brought_places framing rests event) (λ _. tt)

behind_places : (n : ℕ) (items : List Item) (heard : Option Heard) → HasPlaces n heard → HasPlaces n (behind_items items heard)
behind_places n items None h = tt
behind_places n items (Some heard) h = h

then_places : (n : ℕ) (now : Option Heard) (next : List (Option (List ℕ)) → Option Heard) → HasPlaces n now → ((rests : List (Option (List ℕ))) → length rests ≡ n → HasPlaces n (next rests)) → HasPlaces n (then_hear now next)
then_places n None next h g = tt
then_places n (Some now) next h g = behind_places n now.items (next now.rests) (g now.rests h)

from_places : (n : ℕ) (framing : Framing) (rests : List (Option (List ℕ))) (events : List LinkEvent) → length rests ≡ n → HasPlaces n (heard_from framing rests events)
unfolding heard_from
from_places n framing rests [] h = h
from_places n framing rests (event ∷ events) h =
    then_places n (hear framing rests event) (λ after. heard_from framing after events) (rw h at (hear_places framing rests event)) (λ after g. from_places n framing after events g)

pub none_places : length none_open ≡ CONNECTIONS
unfolding none_open
none_places = length-replicate {A = Option (List ℕ)} CONNECTIONS None

at_places : (n : ℕ) (heard : Option Heard) (all : Heard) → heard ≡ Some all → HasPlaces n heard → length all.rests ≡ n
at_places n heard all is h = rw is at h

pub heard_items : HeardItems
heard_items framing events all is =
    ((items_from-append framing none_open events [] all is).1, at_places CONNECTIONS (heard framing events) all is (from_places CONNECTIONS framing none_open events none_places))

pub hear-in_order : (framing : Framing) (rests : List (Option (List ℕ))) (event : LinkEvent) → in_order rests event ≡ true → hear framing rests event ≡ brought framing rests event
hear-in_order framing rests event h = cond-true (in_order rests event) (brought framing rests event) None h
