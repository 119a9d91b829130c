-- What a session hears of its link.
use Rattle.std.specs.Prelude.{◌≡◌, ℕ, ◌≤◌, List, [], ◌∷◌, ◌++◌, length, Bool, true, false, None, Some, Option, Result, Ok, Err, IfSome, IsSome, IsErrOf, ◌⊎◌}
use Rattle.links.specs.declared.journal.Entry.TheVariants as entry
use Rattle.links.specs.declared.journal.LinkEvent.TheVariants as event
use Rattle.session_history.specs.Heeding as unheeded
use Rattle.link_gate.specs.Terms.{Rose, Send, Entry, LinkEvent, Coming, Counts, IsNext, Refuses, Tells, Told, Seen, IsPieceOf, Log, Ledger, is_open, stamped_to, IsHeard, IsHeeded, IsUnheeded, Bounds, events_of, KeepsItems, KeepsPhases, KeepsReplies, HearFault, Heard}
use Rattle.link_gate.specs.declared.heard.Heard.TheVariants as heard
use Rattle.link_gate.specs.declared.heard.HearFault.TheVariants as fault

-- an event as the code's answer
abbrev pub IsShown : LinkEvent → Heard → Type 0
IsShown (event.Opens conn) answer = answer ≡ heard.Items
IsShown (event.Piece conn bytes) answer = answer ≡ heard.Items
IsShown (event.Closes conn) answer = answer ≡ heard.Closes conn
IsShown event.Settles answer = answer ≡ heard.Settles
IsShown event.Ends answer = answer ≡ heard.Ends

-- an event was taken
abbrev pub Takes : Told → Told → LinkEvent → Type 0
Takes old new event = Tells old new (entry.Took event ∷ [])

-- This event was heard, and answered so: log, ledger, phases and count of events know it.
abbrev pub HearsThis : Bounds → List Entry → List Send → Log → Ledger → ℕ → Seen → Seen → LinkEvent → Heard → Type 0
HearsThis bounds entries sends log ledger events old new event answer =
    IsShown event answer × Takes old.told new.told event × IsHeard bounds entries sends event log ledger
    × KeepsPhases bounds (entries ++ entry.Took event ∷ []) new.phases × (events ≡ length (events_of bounds (entries ++ entry.Took event ∷ [])))

-- What was heard, by the answer. An event that is refused was taken all the same; so was, perhaps, one for which memory ran out.
abbrev pub HearsBy : Bounds → List Entry → List Send → Log → Ledger → ℕ → Seen → Seen → Result Heard HearFault → Type 0
HearsBy bounds entries sends log ledger events old new (Ok answer) = (event : LinkEvent) × HearsThis bounds entries sends log ledger events old new event answer
HearsBy bounds entries sends log ledger events old new (Err (fault.Refused kind offset)) =
    Tells old.told new.told [] × IfSome old.coming (λ next. next ≡ Refuses kind offset) × KeepsReplies bounds entries None sends ledger
HearsBy bounds entries sends log ledger events old new (Err fault.ReadFault) = Tells old.told new.told [] × KeepsReplies bounds entries None sends ledger
HearsBy bounds entries sends log ledger events old new (Err fault.LimitEvents) =
    (event : LinkEvent) × Takes old.told new.told event × IsUnheeded bounds entries sends event unheeded.LimitEvents ledger
HearsBy bounds entries sends log ledger events old new (Err (fault.TooLong conn)) =
    (event : LinkEvent) × Takes old.told new.told event × IsUnheeded bounds entries sends event unheeded.TooLong ledger × IsPieceOf event conn
HearsBy bounds entries sends log ledger events old new (Err fault.LimitItems) =
    (event : LinkEvent) × Takes old.told new.told event × IsUnheeded bounds entries sends event unheeded.LimitItems ledger
HearsBy bounds entries sends log ledger events old new (Err fault.Memory) =
    Tells old.told new.told [] ⊎ ((event : LinkEvent) × Takes old.told new.told event × IsHeeded bounds entries event)

-- The same, where it was this event that was heard.
abbrev pub HearsEvent : Bounds → List Entry → List Send → Log → Ledger → ℕ → Seen → Seen → LinkEvent → Result Heard HearFault → Type 0
HearsEvent bounds entries sends log ledger events old new event (Ok answer) = HearsThis bounds entries sends log ledger events old new event answer
HearsEvent bounds entries sends log ledger events old new event (Err fault) = HearsBy bounds entries sends log ledger events old new (Err fault)

-- What comes is told after an event as before, also after one that a session refuses, unless reading failed or memory ran out.
abbrev pub ComesOn : Option Coming → Option Coming → Result Heard HearFault → Type 0
ComesOn None new result = Unit {0}
ComesOn (Some old) new (Ok answer) = IsSome new
ComesOn (Some old) new (Err fault.ReadFault) = Unit {0}
ComesOn (Some old) new (Err fault.Memory) = Unit {0}
ComesOn (Some old) new (Err other) = IsSome new

-- Events may be taken behind one that was heard, also behind one that a session refuses, or for which memory ran out. Behind a refusal of
-- the link and a fault of reading none may; where the link itself wants memory none was taken.
abbrev pub TakesBehind : Told → Told → Bool → Result Heard HearFault → Type 0
TakesBehind old new takes (Ok answer) = takes ≡ true
TakesBehind old new takes (Err (fault.Refused kind offset)) = takes ≡ false
TakesBehind old new takes (Err fault.ReadFault) = takes ≡ false
TakesBehind old new takes (Err fault.Memory) = Tells old new [] ⊎ (takes ≡ true)
TakesBehind old new takes (Err other) = takes ≡ true

-- what comes stays as it was where a link has ended or refused
abbrev pub ComesLast : Option Coming → Result Heard HearFault → Type 0
ComesLast coming (Ok heard.Ends) = IfSome coming (λ next. IsNext next event.Ends)
ComesLast coming (Err (fault.Refused kind offset)) = IfSome coming (λ next. next ≡ Refuses kind offset)
ComesLast coming _ = Unit {0}

-- Log, ledger, the count of events and a link's phases know one journal. Events may be taken from the link.
pub record MayHear (log : Log) (ledger : Ledger) (seen : Seen) (events most : ℕ) : Type 0 where
  pub bounds : Bounds
  pub entries : List Entry
  pub sends : List Send
  pub limit : most ≡ bounds.max_events
  pub counted : events ≡ length (events_of bounds entries)
  pub items : KeepsItems bounds entries log
  pub replies : KeepsReplies bounds entries None sends ledger
  pub is_at : KeepsPhases bounds entries seen.phases
  pub takes : seen.takes ≡ true

-- no count falls, and ReadFault is answered only where that of failed takes rose
pub record HasHearCause {T : Type 0} (before now : Counts) (result : Result T HearFault) : Type 0 where
  pub later : before.takes ≤ now.takes
  pub read_fault : IsErrOf result fault.ReadFault → Rose before.takes now.takes
  pub gives : now.gives ≡ before.gives
  pub gones : now.gones ≡ before.gones

-- hearing changes nothing that was sent or passed
pub record HasSameReplies (old new : Ledger) : Type 0 where
  pub first : new.first ≡ old.first
  pub kept : new.kept ≡ old.kept
  pub trial : new.trial ≡ old.trial
  pub stamped : (conn : ℕ) → stamped_to new.connections conn ≡ stamped_to old.connections conn

-- An event that is refused changes nothing, and neither does a fault of the link. Where memory runs out the ledger stays; the
-- event may be logged and counted.
abbrev pub Stays : Log → Log → Ledger → Ledger → ℕ → ℕ → Result Heard HearFault → Type 0
Stays old new ledger later before now (Ok answer) = Unit {0}
Stays old new ledger later before now (Err fault.Memory) = later ≡ ledger
Stays old new ledger later before now (Err fault) = (new ≡ old) × (later ≡ ledger) × (now ≡ before)

-- what a link shows behind the call: it gives as before, and to each connection that the ledger has as open
pub record HearShows (old new : Seen) (later : Ledger) (result : Result Heard HearFault) : Type 0 where
  pub takes : TakesBehind old.told new.told new.takes result
  pub last : ComesLast new.coming result
  pub coming : ComesOn old.coming new.coming result
  pub cause : HasHearCause old.counts new.counts result
  pub gives : new.gives ≡ old.gives
  pub connected : (conn : ℕ) → is_open later.connections conn ≡ true → new.gives_to conn ≡ true

-- what becomes of log, ledger and count of events: nothing that was sent or passed changes, no item is given up, and no more events than may be
-- are counted
pub record KeepsHearing (old new : Log) (ledger later : Ledger) (before now most : ℕ) (result : Result Heard HearFault) : Type 0 where
  pub replies : HasSameReplies ledger later
  pub stays : Stays old new ledger later before now result
  pub first : new.first ≡ old.first
  pub events : now ≤ most
