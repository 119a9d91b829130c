-- Two journals over one stream of events: the one of the session that left a record, and the one of its replay.
use Rattle.links.specs.declared.journal.Entry.TheVariants as entry
use Rattle.links.specs.declared.journal.LinkEvent.TheVariants as event
use Rattle.replay.proofs.Terms.{List, None, Option, Some, [], ap, append_assoc, drop, inl, inr, refl, subst, sym, ℕ, ◌++◌, ◌∙◌, ◌∷◌, ◌≡◌, ◌⊎◌, none-some, same_Some, unwrap_or, Prefix, Entry, LinkEvent, Ends, events_in-append, HasEnded, events_in, last_taken, Framing, Heard, first_items, hear, items_from, items_of}

-- of two fronts of one list the first has the second, or ends before it
pub two_fronts : {X : Type 0} (xs more ys others : List X) → xs ++ more ≡ ys ++ others → Prefix ys xs ⊎ ((x : X) × (mid : List X) × (ys ≡ xs ++ x ∷ mid))
two_fronts xs more [] others same = inl (xs, refl)
two_fronts [] more (y ∷ ys) others same = inr (y, ys, refl)
two_fronts (x ∷ xs) more (y ∷ ys) others same =
    let here : x ≡ y = cc in
    elim (two_fronts xs more ys others (ap (drop 1) same)) [
      | inl found ↦ inl (found.0, ap (λ l. y ∷ l) found.1 ∙ ap (λ z. z ∷ xs) (sym here))
      | inr found ↦ inr (found.0, found.1, ap (λ l. y ∷ l) found.2 ∙ ap (λ z. z ∷ (xs ++ found.0 ∷ found.1)) (sym here))
    ]

-- the items of the first events are the first items
items_first : (framing : Framing) (rests : List (Option (List ℕ))) (events more : List LinkEvent) → Prefix (items_from framing rests events) (items_from framing rests (events ++ more))
unfolding items_from
items_first framing rests [] more = (items_from framing rests more, refl)
items_first framing rests (event ∷ events) more = of (hear framing rests event) (λ after. items_first framing after events more)
  where
    of : (found : Option Heard) → ((after : List (Option (List ℕ))) → Prefix (items_from framing after events) (items_from framing after (events ++ more)))
        → Prefix (first_items found (λ after. items_from framing after events)) (first_items found (λ after. items_from framing after (events ++ more)))
    of None later = ([], refl)
    of (Some heard) later =
        let front = later heard.rests in
        (front.0, append_assoc heard.items (items_from framing heard.rests events) front.0 ∙ ap (λ items. heard.items ++ items) front.1)

pub items_grow : (framing : Framing) (events : List LinkEvent) {all : List LinkEvent} → Prefix events all → Prefix (items_of framing events) (items_of framing all)
items_grow framing events front = subst (λ es. Prefix (items_of framing events) (items_of framing es)) front.1 (items_first framing _ events front.0)

-- where a journal has its events in two parts, the second one was taken behind the first
pub record TookBehind (entries : List Entry) (front : List LinkEvent) (event : LinkEvent) : Type 0 where
  pub before : List Entry
  pub after : List Entry
  pub split : entries ≡ before ++ entry.Took event ∷ after
  pub events : events_in before ≡ front

-- one more entry before all of them
took_later : {first : Entry} {entries : List Entry} {front : List LinkEvent} {event : LinkEvent} → TookBehind entries front event → TookBehind (first ∷ entries) (events_in (first ∷ []) ++ front) event
took_later {first = first} took = record {
  before = first ∷ took.before;
  after = took.after;
  split = ap (λ es. first ∷ es) took.split;
  events = events_in-append (first ∷ []) took.before ∙ ap (λ es. events_in (first ∷ []) ++ es) took.events;
}

-- an event of a journal is the one looked for, or it comes before it
took_here : {first : LinkEvent} {entries : List Entry} (front : List LinkEvent) {event : LinkEvent} {rest : List LinkEvent} → events_in (entry.Took first ∷ []) ≡ first ∷ []
    → ((later : List LinkEvent) → events_in entries ≡ later ++ event ∷ rest → TookBehind entries later event)
    → first ∷ events_in entries ≡ front ++ event ∷ rest → TookBehind (entry.Took first ∷ entries) front event
took_here {first = first} {entries = entries} [] {event = event} counts later same =
    let here : first ≡ event = cc in
    record { before = []; after = entries; split = ap (λ e. entry.Took e ∷ entries) here; events = refl }
took_here {first = first} {entries = entries} (f ∷ front) {event = event} counts later same =
    let here : first ≡ f = cc in
    subst (λ es. TookBehind (entry.Took first ∷ entries) es event) (ap (λ es. es ++ front) counts ∙ ap (λ e. e ∷ front) here) (took_later (later front (ap (drop 1) same)))

pub took_behind : (entries : List Entry) (front : List LinkEvent) {one : LinkEvent} (rest : List LinkEvent) → events_in entries ≡ front ++ one ∷ rest → TookBehind entries front one
took_behind [] [] rest same = absurd (cc)
took_behind [] (f ∷ front) rest same = absurd (cc)
took_behind (entry.Gave conn bytes gone ∷ entries) front rest same = took_later (took_behind entries front rest same)
took_behind (entry.Took (event.Opens conn) ∷ entries) front rest same = took_here front refl (λ later is. took_behind entries later rest is) same
took_behind (entry.Took (event.Piece conn bytes) ∷ entries) front rest same = took_here front refl (λ later is. took_behind entries later rest is) same
took_behind (entry.Took (event.Closes conn) ∷ entries) front rest same = took_here front refl (λ later is. took_behind entries later rest is) same
took_behind (entry.Took event.Settles ∷ entries) front rest same = took_here front refl (λ later is. took_behind entries later rest is) same
took_behind (entry.Took event.Ends ∷ entries) front rest same = took_later (took_behind entries front rest same)

-- a journal of which nothing was taken has no event
none_taken : (entries : List Entry) → last_taken entries ≡ None → events_in entries ≡ []
none_taken [] none = refl
none_taken (entry.Gave conn bytes gone ∷ entries) none = none_taken entries none
none_taken (entry.Took event ∷ entries) none = absurd (none-some _ (sym none))

-- where a link has ended, all events were taken before it did
pub ended_behind : (entries : List Entry) → HasEnded entries → TookBehind entries (events_in entries) Ends
ended_behind [] ended = absurd (none-some Ends ended)
ended_behind (entry.Gave conn bytes gone ∷ entries) ended = took_later (ended_behind entries ended)
ended_behind (entry.Took first ∷ entries) ended = of (last_taken entries) refl (λ later. ended_behind entries later) (same_Some (unwrap_or (last_taken entries) first) Ends ended)
  where
    of : (found : Option LinkEvent) → last_taken entries ≡ found → (last_taken entries ≡ Some Ends → TookBehind entries (events_in entries) Ends) → unwrap_or (last_taken entries) first ≡ Ends
        → TookBehind (entry.Took first ∷ entries) (events_in (entry.Took first ∷ entries)) Ends
    of None none later is =
        let last : first ≡ Ends = sym (ap (λ (o : Option LinkEvent). unwrap_or o first) none) ∙ is in
        let no_events : events_in (entry.Took first ∷ entries) ≡ [] = ap (λ (e : LinkEvent). events_in (entry.Took e ∷ entries)) last ∙ none_taken entries none in
        record { before = []; after = entries; split = ap (λ e. entry.Took e ∷ entries) last; events = sym no_events }
    of (Some found) some later is =
        subst (λ es. TookBehind (entry.Took first ∷ entries) es Ends) (sym (events_in-append (entry.Took first ∷ []) entries))
        (took_later (later (some ∙ ap (λ e. Some e) (sym (ap (λ (o : Option LinkEvent). unwrap_or o first) some) ∙ is))))
