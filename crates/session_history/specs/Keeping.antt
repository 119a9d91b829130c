-- What the parts of a session's code know of its journal: the ledger of its replies, the log of its items, and the phases of its link.
use Rattle.std.specs.Prelude.{◌≡◌, ℕ, ◌<◌, ◌≤◌, List, [], ◌∷◌, length, take, Bool, true, not, ◌&&◌, ◌==◌, if◌then◌else◌, Option, None, Some, is_some}
use Rattle.item_log.specs.Log as logs
use Rattle.reply_ledger.specs.Ledger as ledgers
use Rattle.reply_ledger.specs.Shows.{Shows}
use Rattle.session_history.specs.Terms.{Send, sent_to, Entry, LinkEvent, Closed, Open, Phase, Phases, Unopened, Log, Ledger, connection_of}
use Rattle.session_history.specs.Heeding.{Bounds, events_of, heeded}
use Rattle.session_history.specs.Opened.{opens, closes, is_gone, is_open}
use Rattle.session_history.specs.Passing.{passed_in}

-- whether something may be passed to a connection: it is open; or its close was just heard, and it isn't gone
abbrev pub may_pass : Bounds → List Entry → Option ℕ → ℕ → Bool
may_pass bounds entries None conn = is_open bounds entries conn
may_pass bounds entries (Some closing) conn =
    if conn == closing then opens conn (heeded bounds (events_of bounds entries)) && not (is_gone conn entries) else is_open bounds entries conn

-- a send has some bytes, and no more than one piece may have
pub record IsSendable (send : Send) : Type 0 where
  pub some : 0 < length send.bytes
  pub few : length send.bytes ≤ 65535

-- each send of a run is so
abbrev pub AreSendable : List Send → Type 0
AreSendable [] = Unit {0}
AreSendable (send ∷ sends) = IsSendable send × AreSendable sends

-- A ledger beside a journal, and the sends of the survivor: it has what is left of them behind those that it gave up, of which
-- all was passed that may still be; and it knows each connection as the journal does. One may be closing. Only a connection
-- that was opened is gone.
pub record KeepsReplies (bounds : Bounds) (entries : List Entry) (closing : Option ℕ) (sends : List Send) (ledger : Ledger) : Type 0 where
  pub shows : Shows ledger sends (passed_in bounds entries)
  pub opened : (conn : ℕ) → is_some (connection_of ledger.connections conn) ≡ opens conn (heeded bounds (events_of bounds entries))
  pub may : (conn : ℕ) → ledgers.is_open ledger.connections conn ≡ may_pass bounds entries closing conn
  pub gone : (conn : ℕ) → is_gone conn entries ≡ true → opens conn (heeded bounds (events_of bounds entries)) ≡ true
  pub given_up : (conn : ℕ) → may_pass bounds entries closing conn ≡ true → length (sent_to conn (take ledger.first sends)) ≤ length (sent_to conn (passed_in bounds entries))
  pub sendable : AreSendable sends

-- a log of items beside a journal: every event is heeded, and the log shows them
pub record KeepsItems (bounds : Bounds) (entries : List Entry) (log : Log) : Type 0 where
  pub all_heeded : heeded bounds (events_of bounds entries) ≡ events_of bounds entries
  pub shows : logs.Shows bounds.framing (events_of bounds entries) log
  pub most : log.max_items ≡ bounds.max_items

-- the phase of a connection behind some events
abbrev pub phase_after : ℕ → List LinkEvent → Phase
phase_after conn events = if closes conn events then Closed else if opens conn events then Open else Unopened

-- the phases of a link beside a journal, whose events it gave
abbrev pub KeepsPhases : Bounds → List Entry → Phases → Type 0
KeepsPhases bounds entries phases = (conn : ℕ) → phases conn ≡ phase_after conn (events_of bounds entries)
