-- What a link between clients and a session tells, and what its calls do to it. The journal of a link is one list of
-- entries: the events that were taken from it, and the pieces that were given to its connections, in order.
use Rattle.std.specs.Prelude.{◌≡◌, ◌≢◌, ℕ, ◌<◌, ◌≤◌, Bool, true, false, List, [], ◌∷◌, ◌++◌, length, take, Option, Some, None, IfSome, IsSome, Result, Ok, Err, IsErrOf, unwrap_or, if◌then◌else◌, ◌==◌}
use Rattle.rx_base.specs.Faults.{Rose}
use Rattle.links.specs.Terms.{Prefix, Entry, Given, All, Gone, LinkEvent, LinkFault, Memory, ReadFault, Refused, WriteFault}
use Rattle.links.specs.declared.journal.Entry.TheVariants as entry
use Rattle.links.specs.declared.journal.LinkEvent.TheVariants as event

-- a connection wasn't opened yet, is open, or was closed; it is opened once at most
pub data Phase : Type 0 where
  Unopened : Phase
  Open : Phase
  Closed : Phase

-- the phase of each connection, by its number
abbrev pub Phases : Type 0
Phases = ℕ → Phase

-- no connection was opened
abbrev pub IsFresh : Phases → Type 0
IsFresh phases = (conn : ℕ) → phases conn ≡ Unopened

-- an event is in order for its connection: it opens once, and its pieces and its one close come only while it is open
abbrev pub IsInOrder : Phases → LinkEvent → Type 0
IsInOrder phases (event.Opens conn) = (conn < 4096) × (phases conn ≡ Unopened)
IsInOrder phases (event.Piece conn bytes) = (conn < 4096) × (phases conn ≡ Open)
IsInOrder phases (event.Closes conn) = (conn < 4096) × (phases conn ≡ Open)
IsInOrder phases event.Settles = Unit {0}
IsInOrder phases event.Ends = Unit {0}

-- the phases with another one for a connection
abbrev pub with_phase : ℕ → Phase → Phases → Phases
with_phase conn phase phases other = if other == conn then phase else phases other

-- the phases after an event
abbrev pub phases_after : LinkEvent → Phases → Phases
phases_after (event.Opens conn) phases = with_phase conn Open phases
phases_after (event.Piece conn bytes) phases = phases
phases_after (event.Closes conn) phases = with_phase conn Closed phases
phases_after event.Settles phases = phases
phases_after event.Ends phases = phases

-- an event that was taken is in order and makes the phases; without one they stay
abbrev pub Enters : Phases → Phases → Result LinkEvent LinkFault → Type 0
Enters old new (Ok event) = IsInOrder old event × ((conn : ℕ) → new conn ≡ phases_after event old conn)
Enters old new (Err fault) = (conn : ℕ) → new conn ≡ old conn

-- a piece that was given: the connection, the bytes that went out, and whether the connection was gone
pub record Piece : Type 0 where
  pub conn : ℕ
  pub bytes : List ℕ
  pub gone : Bool

-- the events of a journal, in order. Ends is an entry and no event: it says that none is left
abbrev pub events_in : List Entry → List LinkEvent
events_in [] = []
events_in (entry.Took event.Ends ∷ entries) = events_in entries
events_in (entry.Took other ∷ entries) = other ∷ events_in entries
events_in (entry.Gave conn bytes gone ∷ entries) = events_in entries

-- the pieces of a journal, in order
abbrev pub pieces_in : List Entry → List Piece
pieces_in [] = []
pieces_in (entry.Took event ∷ entries) = pieces_in entries
pieces_in (entry.Gave conn bytes gone ∷ entries) = record { conn = conn; bytes = bytes; gone = gone } ∷ pieces_in entries

-- what was taken last, Ends included
abbrev pub last_taken : List Entry → Option LinkEvent
last_taken [] = None
last_taken (entry.Took event ∷ entries) = Some (unwrap_or (last_taken entries) event)
last_taken (entry.Gave conn bytes gone ∷ entries) = last_taken entries

-- the link has ended
abbrev pub HasEnded : List Entry → Type 0
HasEnded entries = last_taken entries ≡ Some event.Ends

-- What a link tells, each part if it tells it: the events taken so far, the pieces given so far, and the journal, which
-- has the order of both. A trunk tells events and pieces, if its source and its sink tell their bytes, and no order.
pub record Told : Type 0 where
  pub events : Option (List LinkEvent)
  pub pieces : Option (List Piece)
  pub journal : Option (List Entry)

-- a list that is told grew by these at its end; what is told once is told from then on
abbrev pub Grew : {T : Type 0} → Option (List T) → Option (List T) → List T → Type 0
Grew None new more = Unit {0}
Grew (Some old) None more = ⊥
Grew (Some old) (Some new) more = new ≡ old ++ more

-- what a link tells grew by these entries
pub record Tells (old new : Told) (entries : List Entry) : Type 0 where
  pub events : Grew old.events new.events (events_in entries)
  pub pieces : Grew old.pieces new.pieces (pieces_in entries)
  pub journal : Grew old.journal new.journal entries

-- What a link's grammar has behind the events that were taken: one more, Ends among them, or a refusal with its kind and
-- its offset. A link may tell only that it refuses nothing, and not which event comes.
pub data Coming : Type 0 where
  Comes : LinkEvent → Coming
  Refuses : ℕ → ℕ → Coming
  ComesUntold : Coming

-- an event is the one that comes, unless it isn't told which one does
abbrev pub IsNext : Coming → LinkEvent → Type 0
IsNext coming event = coming ≢ ComesUntold → coming ≡ Comes event

-- An event is taken, or refused, exactly as the grammar has it, where the link tells that. A fault of reading or want of
-- memory may come in place of either; a fault of writing doesn't.
abbrev pub GoesBy : Option Coming → Result LinkEvent LinkFault → Type 0
GoesBy coming (Ok event) = IfSome coming (λ next. IsNext next event)
GoesBy coming (Err (Refused kind offset)) = IfSome coming (λ next. next ≡ Refuses kind offset)
GoesBy coming (Err ReadFault) = Unit {0}
GoesBy coming (Err Memory) = Unit {0}
GoesBy coming (Err WriteFault) = ⊥

-- what comes stays as it was where a link has ended or refused
abbrev pub StillComes : Option Coming → Result LinkEvent LinkFault → Type 0
StillComes coming (Ok event.Ends) = IfSome coming (λ next. IsNext next event.Ends)
StillComes coming (Err (Refused kind offset)) = IfSome coming (λ next. next ≡ Refuses kind offset)
StillComes coming _ = Unit {0}

-- what comes is told after a call as before, unless reading failed or memory ran out
abbrev pub StaysTold : Option Coming → Option Coming → Result LinkEvent LinkFault → Type 0
StaysTold None new result = Unit {0}
StaysTold (Some old) new (Ok event) = IsSome new
StaysTold (Some old) new (Err (Refused kind offset)) = IsSome new
StaysTold (Some old) new (Err other) = Unit {0}

-- an event that was taken is one more entry; without one there is none
abbrev pub Nexts : Told → Told → Result LinkEvent LinkFault → Type 0
Nexts old new (Ok event) = Tells old new (entry.Took event ∷ [])
Nexts old new (Err fault) = Tells old new []

-- some first bytes of a piece went out, or none; a piece of which none did is no entry
abbrev pub cut_entries : ℕ → List ℕ → List Entry
cut_entries conn [] = []
cut_entries conn (byte ∷ bytes) = entry.Gave conn (byte ∷ bytes) false ∷ []

-- of a piece whose connection is gone, some first bytes or none were told as given
abbrev pub Cuts : Told → Told → ℕ → List ℕ → Type 0
Cuts old new conn bytes = (front : List ℕ) × Prefix front bytes × Tells old new (cut_entries conn front)

-- A piece was given: all of it, or so many of its first bytes before the connection was gone. After a fault of writing, or
-- want of memory, some first bytes went out. The other faults don't come.
abbrev pub Gives : Told → Told → ℕ → List ℕ → Result Given LinkFault → Type 0
Gives old new conn bytes (Ok All) = Tells old new (entry.Gave conn bytes false ∷ [])
Gives old new conn bytes (Ok (Gone count)) = (count ≤ length bytes) × Tells old new (entry.Gave conn (take count bytes) true ∷ [])
Gives old new conn bytes (Err WriteFault) = Cuts old new conn bytes
Gives old new conn bytes (Err Memory) = Cuts old new conn bytes
Gives old new conn bytes (Err ReadFault) = ⊥
Gives old new conn bytes (Err (Refused kind offset)) = ⊥

-- the piece that a link was handed last: its connection and its whole length
pub record Handed : Type 0 where
  pub conn : ℕ
  pub length : ℕ

-- a link that tells its pieces tells besides which one it was handed last
abbrev pub TellsHanded : Told → Option Handed → ℕ → List ℕ → Type 0
TellsHanded told handed conn bytes = IfSome told.pieces (λ pieces. handed ≡ Some (record { conn = conn; length = length bytes }))

-- how often a link has failed to take and to give, and how often a connection was gone
pub record Counts : Type 0 where
  pub takes : ℕ
  pub gives : ℕ
  pub gones : ℕ

-- no count falls, and ReadFault is answered only where the count of failed takes rose
pub record HasTakeCause (before now : Counts) (result : Result LinkEvent LinkFault) : Type 0 where
  pub later : before.takes ≤ now.takes
  pub read_fault : IsErrOf result ReadFault → Rose before.takes now.takes
  pub gives : now.gives ≡ before.gives
  pub gones : now.gones ≡ before.gones

-- a connection was gone
abbrev pub IsGone : Result Given LinkFault → Type 0
IsGone (Ok All) = ⊥
IsGone (Ok (Gone count)) = Unit {0}
IsGone (Err fault) = ⊥

-- no count falls, WriteFault is answered only where the count of failed gives rose, and Gone only where its own count did
pub record HasGiveCause (before now : Counts) (result : Result Given LinkFault) : Type 0 where
  pub later : before.gives ≤ now.gives
  pub write_fault : IsErrOf result WriteFault → Rose before.gives now.gives
  pub later_gone : before.gones ≤ now.gones
  pub gone : IsGone result → Rose before.gones now.gones
  pub takes : now.takes ≡ before.takes

-- a link still gives to a connection whose close was just taken
abbrev pub GivesAtClose : (ℕ → Bool) → Result LinkEvent LinkFault → Type 0
GivesAtClose gives_to (Ok (event.Closes conn)) = gives_to conn ≡ true
GivesAtClose gives_to _ = Unit {0}
