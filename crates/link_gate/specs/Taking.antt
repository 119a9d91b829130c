-- The parts of taking an event in.
use Rattle.std.specs.Prelude.{◌≡◌, ℕ, ◌+◌, ◌<◌, ◌≤◌, None, Some, Result, Ok, Err}
use Rattle.links.specs.declared.journal.LinkEvent.TheVariants as event
use Rattle.links.specs.declared.journal.LinkFault.TheVariants as link
use Rattle.item_log.specs.declared.item_refusal.ItemRefusal.{ItemRefusal}
use Rattle.item_log.specs.declared.item_refusal.ItemRefusal.TheVariants as refusal
use Rattle.link_gate.specs.Terms.{LinkEvent, LinkFault, Fits, IsPieceOf, Log, Passes, logged, Ledger, connection_of, with_connection, HearFault, Heard}
use Rattle.link_gate.specs.declared.heard.Heard.TheVariants as heard
use Rattle.link_gate.specs.declared.heard.HearFault.TheVariants as fault
use Rattle.link_gate.specs.Calls.{IsShown}

-- a fault of a link as the code's answer; a fault of writing doesn't come
abbrev pub IsFaultOf : LinkFault → HearFault → Type 0
IsFaultOf (link.Refused kind offset) answer = answer ≡ fault.Refused kind offset
IsFaultOf link.ReadFault answer = answer ≡ fault.ReadFault
IsFaultOf link.WriteFault answer = ⊥
IsFaultOf link.Memory answer = answer ≡ fault.Memory

-- why a log refused an event as the code's answer
abbrev pub IsRefusedBy : ItemRefusal → HearFault → Type 0
IsRefusedBy (refusal.TooLong conn) answer = answer ≡ fault.TooLong conn
IsRefusedBy refusal.Items answer = answer ≡ fault.LimitItems
IsRefusedBy refusal.Memory answer = answer ≡ fault.Memory

-- a ledger doesn't know the connection that an event opens
abbrev pub IsNew : LinkEvent → Ledger → Type 0
IsNew (event.Opens conn) ledger = connection_of ledger.connections conn ≡ None
IsNew (event.Piece conn bytes) ledger = Unit {0}
IsNew (event.Closes conn) ledger = Unit {0}
IsNew event.Settles ledger = Unit {0}
IsNew event.Ends ledger = Unit {0}

-- a ledger with the connection that an event opens
abbrev pub entered : LinkEvent → Ledger → Ledger
entered (event.Opens conn) ledger = with_connection ledger conn
entered (event.Piece conn bytes) ledger = ledger
entered (event.Closes conn) ledger = ledger
entered event.Settles ledger = ledger
entered event.Ends ledger = ledger

-- An event is counted and logged, by the answer. There may be so many; where it is refused, nothing changes.
abbrev pub LogsEvent : LinkEvent → Log → Log → ℕ → ℕ → ℕ → Result (Unit {0}) HearFault → Type 0
LogsEvent event old new before now most (Ok _) = (before < most) × (logged old event ≡ Some new) × Fits old.max_items (logged old event) × (now ≡ before + 1)
LogsEvent event old new before now most (Err fault.LimitEvents) = (most ≤ before) × (new ≡ old) × (now ≡ before)
LogsEvent event old new before now most (Err (fault.TooLong conn)) = (before < most) × (logged old event ≡ None) × IsPieceOf event conn × (new ≡ old) × (now ≡ before)
LogsEvent event old new before now most (Err fault.LimitItems) = (before < most) × Passes old.max_items (logged old event) × (new ≡ old) × (now ≡ before)
LogsEvent event old new before now most (Err fault.Memory) = (before < most) × Fits old.max_items (logged old event) × (new ≡ old) × (now ≡ before)
LogsEvent event old new before now most (Err (fault.Refused kind offset)) = ⊥
LogsEvent event old new before now most (Err fault.ReadFault) = ⊥

-- The same with the ledger. Want of memory may come behind an event that was logged; it isn't in the ledger then.
abbrev pub TakesIn : LinkEvent → Log → Log → Ledger → Ledger → ℕ → ℕ → ℕ → Result Heard HearFault → Type 0
TakesIn event old new ledger later before now most (Ok answer) =
    IsShown event answer × (before < most) × (logged old event ≡ Some new) × Fits old.max_items (logged old event) × (now ≡ before + 1) × (later ≡ entered event ledger)
TakesIn event old new ledger later before now most (Err fault.Memory) =
    (before < most) × Fits old.max_items (logged old event) × (new.first ≡ old.first) × (now ≤ before + 1) × (later ≡ ledger)
TakesIn event old new ledger later before now most (Err fault) = LogsEvent event old new before now most (Err fault) × (later ≡ ledger)

-- Ends is no event: nothing changes
abbrev pub TakesOrEnds : LinkEvent → Log → Log → Ledger → Ledger → ℕ → ℕ → ℕ → Result Heard HearFault → Type 0
TakesOrEnds event.Ends old new ledger later before now most result = (result ≡ Ok heard.Ends) × (new ≡ old) × (later ≡ ledger) × (now ≡ before)
TakesOrEnds event old new ledger later before now most result = TakesIn event old new ledger later before now most result
