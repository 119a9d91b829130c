-- Which files a command called by their names, in order.
use Rattle.std.specs.Prelude.{◌≡◌, ℕ, true, List, [], ◌∷◌, ◌++◌, All, Option, Result, Ok, Err}
use Rattle.run_history.specs.declared.answer.Answer.TheVariants as answer
use Rattle.rx_serve.specs.Terms.{Prefix, FileCall, Loaded, Calls, Answer, IsEnd, CallsFront, ending, is_addition, starting, starts_of, ConvertValue, ReplayValue, RunValue}
use Rattle.rx_serve.specs.Noting.{names_of}

-- one call that loads a file was made; where memory ran out, perhaps none
abbrev pub CallsAnswer : List ℕ → Option (List FileCall) → Option (List FileCall) → Answer → Type 0
CallsAnswer name old new answer.Memory = CallsFront old new (Loaded name ∷ [])
CallsAnswer name old new _ = Calls old new (Loaded name ∷ [])

-- the same of a file that is loaded, or of what is read from it
abbrev pub CallsLoad : {T : Type 0} → List ℕ → Option (List FileCall) → Option (List FileCall) → Result T Answer → Type 0
CallsLoad name old new (Ok file) = Calls old new (Loaded name ∷ [])
CallsLoad name old new (Err end) = CallsAnswer name old new end

-- ---- run

-- the calls before a session: the program is loaded, then the record is started, then the report
abbrev pub before_session : RunValue → List FileCall
before_session value = Loaded value.program ∷ starting (names_of value)

-- Some first ones of the calls that end both files: all of them where an end is answered, none where the session came to none.
pub record IsEnding (value : RunValue) (ended end : Answer) (last : List FileCall) : Type 0 where
  pub begins : Prefix last (ending (names_of value))
  pub whole : IsEnd end → last ≡ ending (names_of value)
  pub none : (IsEnd ended → ⊥) → last ≡ []

-- these calls alone were made, behind a session that came to the first of these two, where the second was answered
pub record CallsEnding (value : RunValue) (old new : Option (List FileCall)) (ended end : Answer) : Type 0 where
  pub last : List FileCall
  pub is : IsEnding value ended end last
  pub made : Calls old new last

-- A session was served: these calls before it were made, then some each of which adds to the record or to the report, then those that end both files, or
-- some first ones of them.
pub record CallsServedBehind (before : List FileCall) (value : RunValue) (old new : Option (List FileCall)) (ended end : Answer) : Type 0 where
  pub added : List FileCall
  pub each : All (λ call. is_addition (names_of value) call ≡ true) added
  pub last : List FileCall
  pub is : IsEnding value ended end last
  pub made : Calls old new (before ++ (added ++ last))

-- so it is behind all calls before a session
abbrev pub CallsServed : RunValue → Option (List FileCall) → Option (List FileCall) → Answer → Answer → Type 0
CallsServed value = CallsServedBehind (before_session value) value

-- ---- asm

-- the calls of `asm`: the text is loaded, then the executable is started, then added to
abbrev pub assembling : List ℕ → List ℕ → List FileCall
assembling source out = Loaded source ∷ starts_of out

-- all of them were made at Finished, the first alone where the text is refused or too large, else some first ones
abbrev pub CallsAsm : List ℕ → List ℕ → Option (List FileCall) → Option (List FileCall) → Answer → Type 0
CallsAsm source out old new answer.Finished = Calls old new (assembling source out)
CallsAsm source out old new (answer.AsmRefused kind line) = Calls old new (Loaded source ∷ [])
CallsAsm source out old new answer.TooLarge = Calls old new (Loaded source ∷ [])
CallsAsm source out old new _ = CallsFront old new (assembling source out)

-- a file was started and added to, or some first ones of these two calls were made
abbrev pub CallsWrite : List ℕ → Option (List FileCall) → Option (List FileCall) → Answer → Type 0
CallsWrite out old new answer.Finished = Calls old new (starts_of out)
CallsWrite out old new _ = CallsFront old new (starts_of out)

-- ---- replay

-- the calls of `replay`: the program is loaded, then its record
abbrev pub replaying : ReplayValue → List FileCall
replaying value = Loaded value.program ∷ Loaded value.recording ∷ []

-- ---- convert

-- the replay of the same names
abbrev pub replayed : ConvertValue → ReplayValue
replayed value = record { program = value.program; recording = value.recording }

-- the calls of `convert`: those of the replay, and then the new record is started and added to
abbrev pub converting : ConvertValue → List FileCall
converting value = replaying (replayed value) ++ starts_of value.out

-- All of them were made at Finished; at a fault of the files and want of memory some first ones. At each other answer the new record wasn't called.
abbrev pub CallsConvert : ConvertValue → Option (List FileCall) → Option (List FileCall) → Answer → Type 0
CallsConvert value old new answer.Finished = Calls old new (converting value)
CallsConvert value old new answer.FileFault = CallsFront old new (converting value)
CallsConvert value old new answer.Memory = CallsFront old new (converting value)
CallsConvert value old new _ = CallsFront old new (replaying (replayed value))
