-- What holds of the items of every list of events.
use Rattle.std.specs.Prelude.{◌≡◌, List, [], ◌∷◌, ◌++◌, drop, length, Some, None}
use Rattle.item_log.specs.Terms.{LinkEvent, Framing, CONNECTIONS}
use Rattle.item_log.specs.Heard.{Heard, hear, heard, behind_items, items_by, items_of}
use Rattle.item_log.specs.Log.{Log, received, logged, Shows, ShowsMore}

-- the items of one more event come behind those of the events before it
abbrev pub OneMoreEvent : Type 0
OneMoreEvent =
    (framing : Framing) (events : List LinkEvent) (event : LinkEvent) (before : Heard) → heard framing events ≡ Some before →
    (items_of framing (events ++ event ∷ []) ≡ items_of framing events ++ items_by (hear framing before.rests event))
    × (heard framing (events ++ event ∷ []) ≡ behind_items before.items (hear framing before.rests event))

-- the items of events of which none is refused are those that were heard, and 4096 connections were watched
abbrev pub HeardItems : Type 0
HeardItems =
    (framing : Framing) (events : List LinkEvent) (all : Heard) → heard framing events ≡ Some all →
    (items_of framing events ≡ all.items) × (length all.rests ≡ CONNECTIONS)

-- an event that is refused gives no item, nor does any behind it
abbrev pub RefusedGiveNone : Type 0
RefusedGiveNone =
    (framing : Framing) (events more : List LinkEvent) → heard framing events ≡ None →
    items_of framing (events ++ more) ≡ items_of framing events

-- a log that shows events shows one more where it logs one more
abbrev pub LogsShow : Type 0
LogsShow = (old new : Log) (event : LinkEvent) → logged old event ≡ Some new → ShowsMore old event new

-- the items of the events that a log shows are as many as it received, and it keeps those from the first on
abbrev pub ShownItems : Type 0
ShownItems =
    (framing : Framing) (events : List LinkEvent) (log : Log) → Shows framing events log →
    (received log ≡ length (items_of framing events)) × (log.kept ≡ drop log.first (items_of framing events))
