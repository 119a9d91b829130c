-- Which connections stay open while a guest takes items.
use Rattle.replay.proofs.Terms.{Bool, List, Some, [], add-one, ap, drop, refl, subst, suc, sym, ℕ, ◌+◌, ◌∙◌, ◌∷◌, ◌≡◌, drop-cons, get_or_from_slice_get, slice_get_within, slice_get, Item, Open, Phases, within_after, connections_after, AreOpen, AreOpenThen, StayOpen}

-- what stays open is open behind the first item
pub stays_then : (phases : Phases) (items : List Item) (connections : List Bool) → StayOpen phases items connections → AreOpenThen phases items connections
stays_then phases [] connections opened = opened
stays_then phases (item ∷ items) connections opened = opened.1

pub stays_now : (phases : Phases) (items : List Item) (connections : List Bool) → StayOpen phases items connections → AreOpen phases connections
stays_now phases [] connections opened = opened
stays_now phases (item ∷ items) connections opened = opened.0

-- the items behind the one of a number
pub drop_one : (items : List Item) (n : ℕ) {item : Item} → slice_get items n ≡ Some item → drop n items ≡ item ∷ drop (n + 1) items
drop_one items n {item = item} here =
    drop-cons items n item (slice_get_within items n item here)
    ∙ ap (λ (first : Item). first ∷ drop (suc n) items) (get_or_from_slice_get items n item item here)
    ∙ ap (λ (k : ℕ). item ∷ drop k items) (sym (add-one n))

-- a guest takes the item of a number
pub takes_open : (phases : Phases) (items : List Item) (n : ℕ) {item : Item} (connections : List Bool) → slice_get items n ≡ Some item → AreOpenThen phases (drop n items) connections → StayOpen phases (drop (n + 1) items) (connections_after item connections)
takes_open phases items n connections here opened = subst (λ (rest : List Item). AreOpenThen phases rest connections) (drop_one items n here) opened

-- items that neither open nor close a connection
pub messages_open : {phases : Phases} (items : List Item) {connections : List Bool} → ((k : ℕ) (item : Item) → slice_get items k ≡ Some item → connections_after item connections ≡ connections) → AreOpen phases connections → StayOpen phases items connections
messages_open [] each opened = opened
messages_open {phases = phases} (item ∷ items) each opened =
    (opened, subst (StayOpen phases items) (sym (each 0 item refl)) (messages_open items (λ k other here. each (suc k) other here) opened))

-- an item that opens its connection, and one that closes it
pub item_opens : {phases : Phases} (item : Item) (connections : List Bool) → AreOpen phases connections → (item.kind ≡ 1 → phases item.conn ≡ Open) → AreOpen phases (connections_after item connections)
item_opens {phases = phases} item connections opened opens = (within_after (λ conn. phases conn ≡ Open) item connections (record { each = opened }) opens).each
