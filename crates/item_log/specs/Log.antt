-- What a log of items is seen as, and what it does with an event.
use Rattle.std.specs.Prelude.{◌≡◌, ℕ, ◌+◌, ◌-◌, ◌<◌, ◌≤◌, max, List, [], ◌∷◌, ◌++◌, drop, length, take, Option, Some, None, option_map, Result, Ok, Err, slice_get}
use Rattle.item_log.specs.Terms.{Item, LinkEvent, Closes, Ends, Opens, Piece, Settles, Framing, ItemRefusal, Items, Memory, TooLong}
use Rattle.item_log.specs.Connections.{none_open}
use Rattle.item_log.specs.Counting.{none_counted, counted, number_at}
use Rattle.item_log.specs.Heard.{Heard, hear, heard, items_of}

-- how messages are cut, how many items may be received, those that are kept, from the number of the first on, and how many messages each
-- connection had since it opened, among those that were given up
pub record Log : Type 0 where
  pub framing : Framing
  pub max_items : ℕ
  pub first : ℕ
  pub kept : List Item
  pub rests : List (Option (List ℕ))
  pub counts : List ℕ

-- a log at the start of a link
abbrev pub empty_log : Framing → ℕ → Log
empty_log framing max_items = record { framing = framing; max_items = max_items; first = 0; kept = []; rests = none_open; counts = none_counted }

-- how many items were received
abbrev pub received : Log → ℕ
received log = log.first + length log.kept

-- the item of a number
abbrev pub item_at : Log → ℕ → Option Item
item_at log number = slice_get log.kept (number - log.first)

-- the number of the item of a number among the messages of its connection: how many that had since it opened, with this item
abbrev pub number_in_connection : Log → ℕ → ℕ
number_in_connection log number = number_at log.counts log.kept (number - log.first)

-- a log with what was heard behind it
abbrev pub with_heard : Log → Heard → Log
with_heard log heard = record log { kept = log.kept ++ heard.items; rests = heard.rests }

-- a log with one more event; None where the event is refused
abbrev pub logged : Log → LinkEvent → Option Log
logged log event = option_map (with_heard log) (hear log.framing log.rests event)

-- a log without the items before a number, which are counted
abbrev pub trimmed : Log → ℕ → Log
trimmed log before = record log { first = max log.first before; kept = drop (before - log.first) log.kept; counts = counted log.counts (take (before - log.first) log.kept) }

-- no more items were received than may be, or more
abbrev pub Fits : ℕ → Option Log → Type 0
Fits most None = ⊥
Fits most (Some log) = received log ≤ most

abbrev pub Passes : ℕ → Option Log → Type 0
Passes most None = ⊥
Passes most (Some log) = most < received log

-- a piece of this connection
abbrev pub IsPieceOf : LinkEvent → ℕ → Type 0
IsPieceOf (Piece conn piece) of = conn ≡ of
IsPieceOf (Opens conn) of = ⊥
IsPieceOf (Closes conn) of = ⊥
IsPieceOf Settles of = ⊥
IsPieceOf Ends of = ⊥

-- at Ok the log has one more event. It is too long exactly where a message of its piece is; there are too many items
-- exactly where it isn't too long and more would be received than may be. After an Err the log is as it was
abbrev pub Logs : Log → LinkEvent → Log → Result (Unit {0}) ItemRefusal → Type 0
Logs old event new (Ok _) = (logged old event ≡ Some new) × Fits old.max_items (logged old event)
Logs old event new (Err (TooLong conn)) = (logged old event ≡ None) × IsPieceOf event conn × (new ≡ old)
Logs old event new (Err Items) = Passes old.max_items (logged old event) × (new ≡ old)
Logs old event new (Err Memory) = Fits old.max_items (logged old event) × (new ≡ old)

-- a log shows events: its connections are as they leave them, it keeps what their items are from the first on, and counted those before
pub record Shows (framing : Framing) (events : List LinkEvent) (log : Log) : Type 0 where
  pub items : List Item
  pub is_heard : heard framing events ≡ Some (record { items = items; rests = log.rests })
  pub cut_so : log.framing ≡ framing
  pub kept : log.kept ≡ drop log.first items
  pub given_up : log.first ≤ length items
  pub counts : log.counts ≡ counted none_counted (take log.first items)

-- whatever events a log shows, it shows with this one behind them
abbrev pub ShowsMore : Log → LinkEvent → Log → Type 0
ShowsMore old event new = (framing : Framing) (events : List LinkEvent) → Shows framing events old → Shows framing (events ++ event ∷ []) new

-- whatever events a log shows, it shows still
abbrev pub ShowsStill : Log → Log → Type 0
ShowsStill old new = (framing : Framing) (events : List LinkEvent) → Shows framing events old → Shows framing events new

-- whatever events a log shows, this is their item of this number
abbrev pub IsItemOf : Log → ℕ → Item → Type 0
IsItemOf log number item = (framing : Framing) (events : List LinkEvent) → Shows framing events log → slice_get (items_of framing events) number ≡ Some item

-- whatever events a log shows, this is the number of that item among the messages of its connection
abbrev pub IsNumberOf : Log → ℕ → ℕ → Type 0
IsNumberOf log number within = (framing : Framing) (events : List LinkEvent) → Shows framing events log → number_at none_counted (items_of framing events) number ≡ within
