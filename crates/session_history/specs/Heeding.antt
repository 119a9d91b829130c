-- The events of a link that a session heeds, and their items. A session ends at the first event that it refuses.
use Rattle.std.specs.Prelude.{◌≡◌, ℕ, List, [], ◌∷◌, ◌++◌, length, Option, None, Some, is_none, nat_le, nat_lt, if◌then◌else◌}
use Rattle.session_history.specs.Terms.{Item, Send, Entry, LinkEvent, events_in, Framing, heard, items_of, Override, Path}

-- What came before a session's journal, where it goes on for another host: the events of the part that was followed; what clients have of what was sent
-- there, each piece with the number of items that were taken when it was sent; the plan of that part; and where its run stood then.
pub record Before : Type 0 where
  pub events : List LinkEvent
  pub had : List Send
  pub plan : List Override
  pub stood : Option Path

-- a session that begins with its link has nothing before it
abbrev pub nothing_before : Before
nothing_before = record { events = []; had = []; plan = []; stood = None }

-- what a session allows a link: how pieces are cut into messages, how many items it receives, and how many events; and what came before it
pub record Bounds : Type 0 where
  pub framing : Framing
  pub max_items : ℕ
  pub max_events : ℕ
  pub before : Before

-- all events of a session: those before it, and its journal's
abbrev pub events_of : Bounds → List Entry → List LinkEvent
events_of bounds entries = bounds.before.events ++ events_in entries

-- why an event is refused: it is one too many, a message of its piece is too long, or it would bring too many items
pub data Unheeded : Type 0 where
  LimitEvents : Unheeded
  TooLong : Unheeded
  LimitItems : Unheeded

-- whether the event behind these is refused, by the first cause that holds
abbrev pub refusal : Bounds → List LinkEvent → LinkEvent → Option Unheeded
refusal bounds before event =
    if nat_le bounds.max_events (length before) then Some LimitEvents else
    if is_none (heard bounds.framing (before ++ event ∷ [])) then Some TooLong else
    if nat_lt bounds.max_items (length (items_of bounds.framing (before ++ event ∷ []))) then Some LimitItems else
    None

-- the events behind these that come before the first refused one
unfoldable pub heeded_behind : Bounds → List LinkEvent → List LinkEvent → List LinkEvent
heeded_behind bounds before [] = []
heeded_behind bounds before (event ∷ events) =
    if is_none (refusal bounds before event) then event ∷ heeded_behind bounds (before ++ event ∷ []) events else []

-- the events of a link that are heeded
abbrev pub heeded : Bounds → List LinkEvent → List LinkEvent
heeded bounds events = heeded_behind bounds [] events

-- the items that all events bring, up to a journal's last one
abbrev pub items_in : Bounds → List Entry → List Item
items_in bounds entries = items_of bounds.framing (heeded bounds (events_of bounds entries))

-- how many items were received with a journal
abbrev pub received : Bounds → List Entry → ℕ
received bounds entries = length (items_in bounds entries)

-- every event is heeded, up to a journal's last one: none was refused
abbrev pub AreHeeded : Bounds → List Entry → Type 0
AreHeeded bounds entries = heeded bounds (events_of bounds entries) ≡ events_of bounds entries
