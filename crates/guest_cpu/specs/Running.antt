-- A run to the next event.
use Rattle.std.specs.Prelude.{◌≡◌, ℕ, List, Option, Some, None, Result, Ok, Err}
use Rattle.guest_cpu.specs.Terms.{AllocError, repeated, Event, Question}
use Rattle.guest_cpu.specs.declared.event.Event.TheVariants as event
use Rattle.guest_cpu.specs.declared.event.Question.TheVariants as question
use Rattle.guest_cpu.specs.Standing.{Standing, Turn, Live, live_after, quiet_next}
use Rattle.guest_cpu.specs.Turns.{IsSend}

module _ {E : Type 0} where
  -- so many instructions without an event, and then the event
  pub record Reaches (next : Standing → Option (Turn E)) (base : ℕ) (old : Live) (event : E) (new : Live) : Type 0 where
    pub count : ℕ
    pub before : Live
    pub quiet : repeated (quiet_next next base) count old ≡ Some before
    pub last : Turn E
    pub turns : next before.standing ≡ Some last
    pub is_event : last.event ≡ Some event
    pub left : new ≡ live_after base before last

  -- so many instructions without an event, up to a send for whose bytes memory ran out
  pub record Breaks (sends : ℕ → List ℕ → E) (next : Standing → Option (Turn E)) (base : ℕ) (old new : Live) : Type 0 where
    pub count : ℕ
    pub quiet : repeated (quiet_next next base) count old ≡ Some new
    pub at_send : IsSend sends (next new.standing)

  -- a run to the next event, or to a send for whose bytes memory ran out
  abbrev pub RunsBy : (ℕ → List ℕ → E) → (Standing → Option (Turn E)) → ℕ → Live → Result E AllocError → Live → Type 0
  RunsBy sends next base old (Ok event) new = Reaches next base old event new
  RunsBy sends next base old (Err e) new = Breaks sends next base old new

-- a guest that was running has ended itself exactly where it came to an exit
abbrev pub Lives : Result Event AllocError → Option ℕ → Type 0
Lives (Ok (event.Exits code)) ended = ended ≡ Some code
Lives _ ended = ended ≡ None

-- that is so of a guest that runs as recorded
abbrev pub RecordedLives : Result Question AllocError → Option ℕ → Type 0
RecordedLives (Ok (question.Exits code)) ended = ended ≡ Some code
RecordedLives _ ended = ended ≡ None
