-- What a session records of its run's answers of the allocator.
use Rattle.std.specs.Prelude.{◌≡◌, ℕ, ◌+◌, ◌-◌, List, take, drop, Result, Ok, Err, IfOk}
use Rattle.session_state.specs.Terms.{IoFault, HasCause, Grew, Choice, Shown}
use Rattle.session_state.specs.Recovered.{FailsAtChoices, FailsUpTo}

-- Of the answers behind the first recorded ones those up to the first safe ones were noted, and left the list. Where noting failed nothing changed, and just
-- those were handed to the notes.
abbrev pub NotesUpTo : ℕ → ℕ → List Choice → Shown → Shown → ℕ → List Choice → Result (Unit {0}) IoFault → Type 0
NotesUpTo safe recorded choices before now later left (Ok done) =
    Grew before.told.choices now.told.choices (take (safe - recorded) choices) × (later ≡ recorded + (safe - recorded)) × (left ≡ drop (safe - recorded) choices)
NotesUpTo safe recorded choices before now later left (Err fault) = (now.told.choices ≡ before.told.choices) × (later ≡ recorded) × (left ≡ choices) × FailsAtChoices before.told.unnoted now.told.unnoted choices × FailsUpTo before.told.unnoted now.told.unnoted safe recorded choices

-- noting answers of the allocator notes no episode; unless it failed, what the first failed call was handed stays; and no fault comes without its cause
pub record KeepsNotes (before now : Shown) (result : Result (Unit {0}) IoFault) : Type 0 where
  pub episodes : now.told.episodes ≡ before.told.episodes
  pub unnoted : IfOk result (λ _. now.told.unnoted ≡ before.told.unnoted)
  pub cause : HasCause before.faults now.faults result
