-- What holds of all checkpoints of a ring, as the session goes on.
use Rattle.link_gate.proofs.Knowing.{known_none}
use Rattle.recovery.proofs.Terms.{Bool, List, None, [], append-nil, drop, false, length, refl, subst, suc, sym, take, true, zero, ℕ, ◌++◌, ◌∙◌, ◌∷◌, ◌≡◌, ◌≤◌, both_ways, Item, Entry, Log, Ledger, connection_of, Image, may_send, Limits, Override, Path, Served, origin, IsBounded, served_on, served_with, events_of, heeded, items_in, KeepsReplies, Rules, opens, Carries, chained_from, AreChained, AreCheckpoints, AreKept, CanGoOn, Brings}

-- the latest run goes on
pub chained_on : (limits : Limits) (items : List Item) (plan : List Override) (image : Image) (now next : Path) (ring : List Path) → Served limits items plan now next → AreChained limits items plan image now ring → AreChained limits items plan image next ring
chained_on limits items plan image now next [] served chain = served_on limits items plan (origin image) now next chain served
chained_on limits items plan image now next (newest ∷ older) served chain = (served_on limits items plan newest now next chain.0 served, chain.1)

-- more items are there
pub chained_with : (limits : Limits) (items more : List Item) (plan : List Override) (image : Image) (now : Path) (ring : List Path) → AreChained limits items plan image now ring → AreChained limits (items ++ more) plan image now ring
chained_with limits items more plan image now [] chain = served_with limits items more plan (origin image) now chain
chained_with limits items more plan image now (newest ∷ older) chain = (served_with limits items more plan newest now chain.0, chained_with limits items more plan image newest older chain.1)

-- of the checkpoints the newest ones
pub chained_take : (limits : Limits) (items : List Item) (plan : List Override) (image : Image) (now : Path) (ring : List Path) (count : ℕ) → AreChained limits items plan image now ring → AreChained limits items plan image now (take count ring)
chained_take limits items plan image now ring zero chain = chained_from limits items plan image now ring chain
chained_take limits items plan image now [] (suc count) chain = chain
chained_take limits items plan image now (newest ∷ older) (suc count) chain = (chain.0, chained_take limits items plan image newest older count chain.1)

pub are_take : (limits : Limits) (image : Image) (ring : List Path) (count : ℕ) → AreCheckpoints limits image ring → AreCheckpoints limits image (take count ring)
are_take limits image ring zero are = tt
are_take limits image [] (suc count) are = tt
are_take limits image (newest ∷ older) (suc count) are = (are.0, are_take limits image older count are.1)

pub kept_take : (rules : Rules) (entries : List Entry) (log : Log) (ledger : Ledger) (ring : List Path) (count : ℕ) → AreKept rules entries log ledger ring → AreKept rules entries log ledger (take count ring)
kept_take rules entries log ledger ring zero are = tt
kept_take rules entries log ledger [] (suc count) are = tt
kept_take rules entries log ledger (newest ∷ older) (suc count) are = (are.0, kept_take rules entries log ledger older count are.1)

-- and the oldest ones
pub kept_drop : (rules : Rules) (entries : List Entry) (log : Log) (ledger : Ledger) (ring : List Path) (count : ℕ) → AreKept rules entries log ledger ring → AreKept rules entries log ledger (drop count ring)
kept_drop rules entries log ledger ring zero are = are
kept_drop rules entries log ledger [] (suc count) are = tt
kept_drop rules entries log ledger (newest ∷ older) (suc count) are = kept_drop rules entries log ledger older count are.1

-- what isn't opened later wasn't opened before
still_closed : (rules : Rules) (before after : List Entry) (more : List Item) (conn : ℕ) → Brings rules before after more → opens conn (heeded rules.bounds (events_of rules.bounds after)) ≡ false → opens conn (heeded rules.bounds (events_of rules.bounds before)) ≡ false
still_closed rules before after more conn brings none = of_both (opens conn (heeded rules.bounds (events_of rules.bounds before))) (opens conn (heeded rules.bounds (events_of rules.bounds after))) none (brings.opened conn) where
  of_both : (b c : Bool) → c ≡ false → (b ≡ true → c ≡ true) → b ≡ false
  of_both true c is up = absurd (both_ways c is (up refl))
  of_both false c is up = refl

-- a run can go on behind more entries
pub can_go_on : (rules : Rules) (before after : List Entry) (more : List Item) (path : Path) → Brings rules before after more → CanGoOn rules before path → CanGoOn rules after path
can_go_on rules before after more path brings goes = record {
  bounded = goes.bounded;
  within = λ conn may. brings.opened conn (goes.within conn may);
  opened = λ conn none. goes.opened conn (still_closed rules before after more conn brings none);
  timed = goes.timed;
  sendable = goes.sendable;
}

-- no more entries bring none
pub brings_none : (rules : Rules) (entries : List Entry) → Brings rules entries entries []
brings_none rules entries = record { items = sym (append-nil (items_in rules.bounds entries)); opened = λ conn is. is }

-- and a checkpoint is kept, where log and ledger have given up no more
pub kept_with : (rules : Rules) (before after : List Entry) (more : List Item) (log log' : Log) (ledger ledger' : Ledger) (ring : List Path) → Brings rules before after more → log'.first ≡ log.first → ledger'.first ≡ ledger.first
    → AreKept rules before log ledger ring → AreKept rules after log' ledger' ring
kept_with rules before after more log log' ledger ledger' [] brings same still are = tt
kept_with rules before after more log log' ledger ledger' (newest ∷ older) brings same still are = (
  record {
    lives = are.0.lives;
    goes = can_go_on rules before after more newest brings are.0.goes;
    items = subst (λ n. n ≤ newest.state.machine.taken) (sym same) are.0.items;
    sends = subst (λ n. n ≤ length newest.state.sends) (sym still) are.0.sends;
  },
  kept_with rules before after more log log' ledger ledger' older brings same still are.1,
)

-- The survivor of a session that serves can go on.
pub survivor_goes : (rules : Rules) (image : Image) (entries : List Entry) (plan : List Override) (now : Path) (ledger : Ledger) → Carries rules image entries plan now → KeepsReplies rules.bounds entries None now.state.sends ledger
    → (now.state.ended ≡ None → IsBounded rules.limits.budget now) → ((conn : ℕ) → may_send now.state.machine conn ≡ true → opens conn (heeded rules.bounds (events_of rules.bounds entries)) ≡ true) → CanGoOn rules entries now
survivor_goes rules image entries plan now ledger carries replies bounded within = record {
  bounded = bounded;
  within = within;
  opened = λ conn none. replies.shows.opened conn (known_none (connection_of ledger.connections conn) (replies.opened conn ∙ none));
  timed = carries.timed;
  sendable = replies.sendable;
}
