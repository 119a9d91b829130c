-- What a session hears of its link's next event.
use Rattle.std.specs.Prelude.{◌≡◌, ◌≢◌, ℕ, List, [], ◌∷◌, ◌++◌, Option, None, Some, false}
use Rattle.links.specs.declared.journal.Entry.TheVariants as entry
use Rattle.links.specs.declared.journal.LinkEvent.TheVariants as event
use Rattle.session_history.specs.Terms.{Item, Send, Entry, LinkEvent, Ends, Log, Ledger}
use Rattle.session_history.specs.Heeding.{Bounds, Unheeded, events_of, refusal, heeded, items_in}
use Rattle.session_history.specs.Opened.{closes}
use Rattle.session_history.specs.Keeping.{KeepsReplies, KeepsItems}

-- the connection that an event closes
abbrev pub closing_of : LinkEvent → Option ℕ
closing_of (event.Closes conn) = Some conn
closing_of _ = None

-- an event that isn't refused, behind a journal: its items come behind those that were received
pub record IsHeeded (bounds : Bounds) (entries : List Entry) (event : LinkEvent) : Type 0 where
  pub allowed : refusal bounds (events_of bounds entries) event ≡ None
  pub more : List Item
  pub brings : items_in bounds (entries ++ entry.Took event ∷ []) ≡ items_in bounds entries ++ more

-- the end of the link is no event: it brings nothing
pub record IsHeard (bounds : Bounds) (entries : List Entry) (sends : List Send) (event : LinkEvent) (log : Log) (ledger : Ledger) : Type 0 where
  pub more : List Item
  pub brings : items_in bounds (entries ++ entry.Took event ∷ []) ≡ items_in bounds entries ++ more
  pub items : KeepsItems bounds (entries ++ entry.Took event ∷ []) log
  pub replies : KeepsReplies bounds (entries ++ entry.Took event ∷ []) (closing_of event) sends ledger

-- an event that is refused, which Ends never is, brings no item, and changes nothing that the session knows; a close that is refused is the first of its
-- connection
pub record IsUnheeded (bounds : Bounds) (entries : List Entry) (sends : List Send) (event : LinkEvent) (cause : Unheeded) (ledger : Ledger) : Type 0 where
  pub refused : refusal bounds (events_of bounds entries) event ≡ Some cause
  pub no_end : event ≢ Ends
  pub first_close : (conn : ℕ) → closing_of event ≡ Some conn → closes conn (heeded bounds (events_of bounds entries)) ≡ false
  pub brings_none : items_in bounds (entries ++ entry.Took event ∷ []) ≡ items_in bounds entries
  pub replies : KeepsReplies bounds (entries ++ entry.Took event ∷ []) None sends ledger
