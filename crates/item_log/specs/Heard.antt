-- The items of the events of a link.
use Rattle.std.specs.Prelude.{ℕ, List, [], ◌∷◌, ◌++◌, map, Option, Some, None, unwrap_or, if◌then◌else◌, slice_set}
use Rattle.item_log.specs.Terms.{Item, LinkEvent, Closes, Ends, Opens, Piece, Settles, Framing, Parts, cut, CLOSED, MESSAGE, OPENED}
use Rattle.item_log.specs.Connections.{none_open, rest_of, in_order}

-- the items of some events, and what the connections' messages that aren't whole yet have then
pub record Heard : Type 0 where
  pub items : List Item
  pub rests : List (Option (List ℕ))

-- an item without bytes, and one with a message
abbrev pub bare_item : ℕ → ℕ → Item
bare_item kind conn = record { kind = kind; conn = conn; bytes = [] }

abbrev pub message_item : ℕ → List ℕ → Item
message_item conn bytes = record { kind = MESSAGE; conn = conn; bytes = bytes }

-- the messages of a piece are items, and the connection has a new rest
abbrev pub hear_parts : List (Option (List ℕ)) → ℕ → Option Parts → Option Heard
hear_parts rests conn None = None
hear_parts rests conn (Some parts) = Some (record { items = map (message_item conn) parts.messages; rests = slice_set rests conn (Some parts.rest) })

-- what an event in order brings; None where a message is too long. A close drops the rest of its connection
abbrev pub brought : Framing → List (Option (List ℕ)) → LinkEvent → Option Heard
brought framing rests (Opens conn) = Some (record { items = bare_item OPENED conn ∷ []; rests = slice_set rests conn (Some []) })
brought framing rests (Piece conn piece) = hear_parts rests conn (cut framing (unwrap_or (rest_of rests conn) []) piece)
brought framing rests (Closes conn) = Some (record { items = bare_item CLOSED conn ∷ []; rests = slice_set rests conn None })
brought framing rests Settles = Some (record { items = []; rests = rests })
brought framing rests Ends = Some (record { items = []; rests = rests })

-- what an event brings; None where it is out of order or a message is too long
abbrev pub hear : Framing → List (Option (List ℕ)) → LinkEvent → Option Heard
hear framing rests event = if in_order rests event then brought framing rests event else None

-- items before others
abbrev pub behind_items : List Item → Option Heard → Option Heard
behind_items items None = None
behind_items items (Some heard) = Some (record { items = items ++ heard.items; rests = heard.rests })

-- what comes behind the first events, unless one of them was refused
abbrev pub then_hear : Option Heard → (List (Option (List ℕ)) → Option Heard) → Option Heard
then_hear None next = None
then_hear (Some heard) next = behind_items heard.items (next heard.rests)

-- what events bring, one after another
unfoldable pub heard_from : Framing → List (Option (List ℕ)) → List LinkEvent → Option Heard
heard_from framing rests [] = Some (record { items = []; rests = rests })
heard_from framing rests (event ∷ events) = then_hear (hear framing rests event) (λ more. heard_from framing more events)

-- what all events of a link bring, from its start; None where one is refused
abbrev pub heard : Framing → List LinkEvent → Option Heard
heard framing events = heard_from framing none_open events

-- the items of what was heard, if it wasn't refused
abbrev pub items_by : Option Heard → List Item
items_by None = []
items_by (Some heard) = heard.items

-- the items of events, up to the first that is refused
abbrev pub first_items : Option Heard → (List (Option (List ℕ)) → List Item) → List Item
first_items None next = []
first_items (Some heard) next = heard.items ++ next heard.rests

-- those of events that come where connections have these rests
unfoldable pub items_from : Framing → List (Option (List ℕ)) → List LinkEvent → List Item
items_from framing rests [] = []
items_from framing rests (event ∷ events) = first_items (hear framing rests event) (λ more. items_from framing more events)

-- the items of all events of a link, numbered by their places
abbrev pub items_of : Framing → List LinkEvent → List Item
items_of framing events = items_from framing none_open events
