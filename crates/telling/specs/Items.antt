-- The item that a guest took last.
use Rattle.std.specs.Prelude.{ℕ, ◌-◌, ◌&&◌, length, Option, None, option_map, nat_le, nat_lt, if◌then◌else◌}
use Rattle.rx_base.specs.declared.item.Item.{Item}
use Rattle.item_log.specs.Log.{Log, item_at, number_in_connection, received}
use Rattle.telling.specs.declared.item.SeenItem.{SeenItem}

-- what is told of an item, which has this number among the messages of its connection
abbrev pub seen_item : ℕ → Item → SeenItem
seen_item number item = record { kind = item.kind; conn = item.conn; number = number; len = length item.bytes }

-- the item that was taken last, where so many were taken: it was received, and isn't given up
abbrev pub last_taken : Log → ℕ → Option Item
last_taken log point = if nat_lt 0 point && (nat_le log.first (point - 1) && nat_lt (point - 1) (received log)) then item_at log (point - 1) else None

-- what is told of it
abbrev pub taken_last : Log → ℕ → Option SeenItem
taken_last log point = option_map (seen_item (number_in_connection log (point - 1))) (last_taken log point)
