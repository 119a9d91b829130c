-- How many messages each connection has had since it opened.
use Rattle.std.specs.Prelude.{ℕ, ◌+◌, ◌^◌, ◌<◌, ◌==◌, List, [], ◌∷◌, All, if◌then◌else◌, replicate, slice_get, slice_index_or, slice_set, take}
use Rattle.item_log.specs.Terms.{option_map_or, Item, CONNECTIONS, MESSAGE, OPENED}

-- no connection has had a message
unfoldable pub none_counted : List ℕ
none_counted = replicate CONNECTIONS 0

-- a connection's count after an item of a kind: none at an open, one more at a message, the same at a close
abbrev pub count_then : ℕ → ℕ → ℕ
count_then kind count = if kind == OPENED then 0 else if kind == MESSAGE then count + 1 else count

-- the counts after an item, which is one of its connection alone
abbrev pub counted_one : List ℕ → Item → List ℕ
counted_one counts item = slice_set counts item.conn (count_then item.kind (slice_index_or counts item.conn 0))

-- the counts after some items
unfoldable pub counted : List ℕ → List Item → List ℕ
counted counts [] = counts
counted counts (item ∷ items) = counted (counted_one counts item) items

-- the number of the item at a place among the messages of its connection: how many that had since it opened, with this item
abbrev pub number_at : List ℕ → List Item → ℕ → ℕ
number_at counts items place = option_map_or (λ (item : Item). slice_index_or (counted counts (take (place + 1) items)) item.conn 0) (slice_get items place) 0

-- so many messages more can be counted
abbrev pub HaveRoom : ℕ → List ℕ → Type 0
HaveRoom more counts = All (λ (count : ℕ). count + more < 2 ^ 64) counts
