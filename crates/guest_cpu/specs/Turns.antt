-- An instruction of a guest, by its parts: what it has beside its memory, and the pages of its memory.
use Rattle.std.specs.Prelude.{◌≡◌, ℕ, ◌+◌, ◌<◌, ◌≤◌, List, length, Option, Some, None, Result, Ok, Err, Contains, slice_index}
use Rattle.guest_cpu.specs.Terms.{AllocError, SameEnds, Range, Puts, GuestPages, blank_span, flat, Event, Met, Question}
use Rattle.guest_cpu.specs.declared.guest_core.Core.{Core}
use Rattle.guest_cpu.specs.declared.event.Event.TheVariants as event
use Rattle.guest_cpu.specs.declared.event.Met.TheVariants as met
use Rattle.guest_cpu.specs.declared.event.Question.TheVariants as question
use Rattle.guest_cpu.specs.Standing.{Standing, standing, AreCounted, Turn, turn_to}

-- bytes of a range were written, or none and then nothing changed
abbrev pub Wrote : Option Range → GuestPages → GuestPages → Type 0
Wrote None old new = new ≡ old
Wrote (Some range) old new = (bytes : List ℕ) × (length bytes ≡ range.count) × Puts old range.at bytes new

-- a turn was done, and the bytes that it wrote were put into the memory
pub record Turned {E : Type 0} (next : Option (Turn E)) (event : Option E) (new : Standing) (old_space new_space : GuestPages) : Type 0 where
  pub written : Option Range
  pub turns : next ≡ Some (turn_to event new written)
  pub wrote : Wrote written old_space new_space

-- a turn that is an event which may lack memory: a send
pub record IsSend {E : Type 0} (sends : ℕ → List ℕ → E) (next : Option (Turn E)) : Type 0 where
  pub conn : ℕ
  pub bytes : List ℕ
  pub turn : Turn E
  pub turns : next ≡ Some turn
  pub is : turn.event ≡ Some (sends conn bytes)

-- a turn was done; or memory ran out for the bytes of a send, and nothing changed
abbrev pub TurnsBy : {E : Type 0} → (ℕ → List ℕ → E) → Option (Turn E) → Core → GuestPages → Result (Option E) AllocError → Core → GuestPages → Type 0
TurnsBy sends next old old_space (Ok event) new new_space = Turned next event (standing new (flat new_space)) old_space new_space
TurnsBy sends next old old_space (Err e) new new_space = (new ≡ old) × (new_space ≡ old_space) × IsSend sends next

-- what stays of a guest's parts, and how its counts rise: each turn is at most one instruction
pub record Keeps (old new : Core) : Type 0 where
  pub ends : SameEnds old.book new.book
  pub counted : AreCounted new.marks
  pub later : old.marks.steps ≤ new.marks.steps
  pub one : new.marks.steps ≤ old.marks.steps + 1

-- after an instruction that is no event one more is counted
abbrev pub Rises : {E : Type 0} → Core → Result (Option E) AllocError → Core → Type 0
Rises old (Ok None) new = (new.marks.since ≡ old.marks.since + 1) × (new.marks.steps ≡ old.marks.steps + 1) × (new.ended ≡ old.ended)
Rises old _ new = Unit {0}

-- the heap of a guest is an area of its memory that may be read and written
abbrev pub HasHeap : Core → GuestPages → Type 0
HasHeap core space = Contains space.spans (blank_span core.book.start core.book.end)

-- a guest ends itself by an exit alone
abbrev pub Lasts : Result (Option Event) AllocError → Option ℕ → Option ℕ → Type 0
Lasts (Ok (Some (event.Exits code))) old new = new ≡ Some code
Lasts _ old new = new ≡ old

-- what an instruction in an environment keeps, beside where it leads: one that is no event comes within the budget
pub record KeepsTurn (budget : ℕ) (old : Core) (result : Result (Option Event) AllocError) (new : Core) : Type 0 where
  pub keeps : Keeps old new
  pub rises : Rises old result new
  pub within : result ≡ Ok None → old.marks.since < budget
  pub lasts : Lasts result old.ended new.ended

-- a guest that runs as recorded ends itself by an exit alone
abbrev pub RecordedLasts : Result (Option Question) AllocError → Option ℕ → Option ℕ → Type 0
RecordedLasts (Ok (Some (question.Exits code))) old new = new ≡ Some code
RecordedLasts _ old new = new ≡ old

-- the same before the allocator is asked; where it is to be, all is as it was
abbrev pub MetLasts : Result (Option Met) AllocError → Core → GuestPages → Core → GuestPages → Type 0
MetLasts (Ok (Some (met.Exits code))) old old_space new new_space = new.ended ≡ Some code
MetLasts (Ok (Some (met.Allocates ask))) old old_space new new_space = (new ≡ old) × (new_space ≡ old_space)
MetLasts (Ok (Some (met.Frees at))) old old_space new new_space = (new ≡ old) × (new_space ≡ old_space) × (at ≡ slice_index new.regs.x 10)
MetLasts _ old old_space new new_space = new.ended ≡ old.ended

-- where an item is asked for, and behind a send, the memory is as it was
abbrev pub MetStays : Result (Option Met) AllocError → GuestPages → GuestPages → Type 0
MetStays (Ok (Some met.Asks)) old new = new ≡ old
MetStays (Ok (Some (met.Emits conn bytes))) old new = new ≡ old
MetStays _ old new = Unit {0}
