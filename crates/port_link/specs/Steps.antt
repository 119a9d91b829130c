-- What a link does to its port, over one call or several.
use Rattle.std.specs.Prelude.{◌≡◌, ℕ, ◌+◌, ◌≤◌, ◌||◌, Bool, List, [], ◌∷◌, ◌++◌, Option, None, Some, Result, Ok, Err, IsErrOf, Vec, slice_set}
use Rattle.std.specs.declared.alloc.Global.{Global}
use Rattle.port_link.specs.Terms.{IoFault, Rose, Entry, LinkEvent, LinkFault, Memory, ReadFault, ComesUntold, Enters, GivesAtClose, GoesBy, Tells, PortEntry, Ready, Logs}
use Rattle.port_link.specs.declared.place.Closing.TheVariants as closing
use Rattle.port_link.specs.declared.place.PortLimits.{PortLimits}
use Rattle.port_link.specs.declared.place.Place.{Place}
use Rattle.port_link.specs.declared.place.Stage.TheVariants.{Closed, Dropped, Ended, Open}
use Rattle.port_link.specs.Served.{served_of, AreCalls, is_stop}
use Rattle.port_link.specs.Standing.{Stands, IsWhole, phases_at, gives_at, told_at}
use Rattle.links.specs.declared.journal.Entry.TheVariants as entry
use Rattle.links.specs.declared.journal.LinkEvent.TheVariants as event
use Rattle.rx_base.specs.declared.fault.IoFault.TheVariants as io
use Rattle.ports.specs.declared.port_calls.FailedCall.TheVariants as call
use Rattle.ports.specs.declared.port_calls.PortEntry.TheVariants as made

-- calls were made, each such as a link makes there
pub record Calls (limits : PortLimits) (old new : List PortEntry) : Type 0 where
  pub calls : List PortEntry
  pub grew : new ≡ old ++ calls
  pub are : AreCalls limits (served_of old) calls

abbrev pub WentOn : PortLimits → Option (List PortEntry) → Option (List PortEntry) → Type 0
WentOn limits None None = Unit {0}
WentOn limits None (Some new) = ⊥
WentOn limits (Some old) None = ⊥
WentOn limits (Some old) (Some new) = Calls limits old new

-- the link tells these entries more
pub record StepsTo (limits : PortLimits) (old new : Option (List PortEntry)) (place later : Place) (entries : List Entry) : Type 0 where
  pub told : Tells (told_at old place) (told_at new later) entries
  pub went : WentOn limits old new

-- where a link stands behind the accept of the next connection, and behind the end of one
abbrev pub opened_place : Place → Place
opened_place place = record place { stages = slice_set place.stages place.accepted Open; accepted = place.accepted + 1 }

abbrev pub ended_place : ℕ → Place → Place
ended_place conn place = record place { stages = slice_set place.stages conn Ended; closing = closing.Due conn }

-- behind the close of one to which a give failed, which is answered then; and behind that of one whose end was answered
abbrev pub dropped_place : ℕ → Place → Place
dropped_place conn place = record place { stages = slice_set place.stages conn Dropped; closed = place.closed + 1; closing = closing.Made conn }

abbrev pub closed_place : ℕ → Place → Place
closed_place conn place = record place { stages = slice_set place.stages conn Closed; closed = place.closed + 1; closing = closing.Nothing }

-- where the close that was answered last was made before
abbrev pub settled_place : ℕ → Place → Place
settled_place conn place = record place { stages = slice_set place.stages conn Closed; closing = closing.Nothing }

-- behind what a wait answered: what was stopped stays so
abbrev pub waited_place : Ready → Place → Place
waited_place ready place = record place { stopped = is_stop ready || place.stopped }

abbrev pub IsWaited : Result Ready LinkFault → Place → Place → Type 0
IsWaited (Ok ready) place later = later ≡ waited_place ready place
IsWaited (Err fault) place later = later ≡ place

-- the end was answered once more; or memory ran out
abbrev pub AnswersEnd : Place → Place → Result LinkEvent LinkFault → Type 0
AnswersEnd place later (Ok answered) = (answered ≡ event.Ends) × (later ≡ record place { ends = place.ends + 1 })
AnswersEnd place later (Err fault) = (fault ≡ Memory) × (later ≡ place)

-- a fault of a wait or an accept
abbrev pub read_fault_of : IoFault → LinkFault
read_fault_of io.Failed = ReadFault
read_fault_of io.Memory = Memory

-- the entry of an event that was answered; without one there is none
abbrev pub taken : Result LinkEvent LinkFault → List Entry
taken (Ok event) = entry.Took event ∷ []
taken (Err fault) = []

-- an event was answered in order, and none refused; to a connection whose close was answered is given still
pub record NextAt (place later : Place) (result : Result LinkEvent LinkFault) : Type 0 where
  pub order : Enters (phases_at place) (phases_at later) result
  pub grammar : GoesBy (Some ComesUntold) result
  pub closing : GivesAtClose (gives_at later) result

-- a fault is one that may come in place of an event
abbrev pub NextGoes : {T : Type 0} → Result T LinkFault → Type 0
NextGoes (Ok answer) = Unit {0}
NextGoes (Err fault) = GoesBy (Some ComesUntold) (Err fault)

-- the next event was taken of a port
pub record TakesNext (limits : PortLimits) (old new : Option (List PortEntry)) (connections : List Bool) (place later : Place) (result : Result LinkEvent LinkFault) : Type 0 where
  pub stands : Stands new connections limits later
  pub steps : StepsTo limits old new place later (taken result)
  pub whole : IsWhole old → IsWhole new
  pub next : NextAt place later result

-- The connection whose close was answered was closed, if there is one: then none is to be closed. It is as before for a client of the link.
pub record Settles (limits : PortLimits) (old new : Option (List PortEntry)) (connections : List Bool) (place later : Place) : Type 0 where
  pub stands : Stands new connections limits later
  pub steps : StepsTo limits old new place later []
  pub whole : IsWhole old → IsWhole new
  pub phases : (conn : ℕ) → phases_at later conn ≡ phases_at place conn
  pub nothing : later.closing ≡ closing.Nothing

-- a link waited, and stands where it stood; but a stop is kept
pub record WaitsAt (limits : PortLimits) (old new : Option (List PortEntry)) (connections : List Bool) (place later : Place) : Type 0 where
  pub stands : Stands new connections limits later
  pub steps : StepsTo limits old new place later []
  pub whole : IsWhole old → IsWhole new

-- the port's faults of bind, wait and accept never fall, and `ReadFault` comes only where they rose
pub record HasOpenCause {T : Type 0} (before now : ℕ) (result : Result T LinkFault) : Type 0 where
  pub later : before ≤ now
  pub read_fault : IsErrOf result ReadFault → Rose before now

-- a take of this connection gave these bytes, into a buffer of 4096; none at the end, or where it failed
abbrev pub IsTake : ℕ → List ℕ → PortEntry → Type 0
IsTake conn bytes (made.Took of took room) = (of ≡ conn) × (took ≡ bytes) × (room ≡ 4096)
IsTake conn bytes (made.Failed (call.Take of)) = (of ≡ conn) × (bytes ≡ [])
IsTake conn bytes _ = ⊥

-- a take is the one call more; where memory ran out there is none
abbrev pub TakesPiece : ℕ → Option (List PortEntry) → Option (List PortEntry) → Result (Vec ℕ Global) LinkFault → Type 0
TakesPiece conn old new (Ok piece) = (call : PortEntry) × IsTake conn piece.items call × Logs old new (call ∷ [])
TakesPiece conn old new (Err Memory) = Logs old new []
TakesPiece conn old new (Err fault) = ⊥
