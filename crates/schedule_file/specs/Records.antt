-- Which values a record may have, and what a reading of a text is.
use Rattle.std.specs.Prelude.{◌≡◌, ℕ, ◌^◌, ◌<◌, ◌≤◌, true, false, List, map, All, Option, None, Some, IsSome}
use Rattle.schedule_file.specs.Terms.{MAX_ITEMS, Ask, Calloc, Malloc, Realloc, Choice, is_calloc, replaced, Framing, Line, Recorded, MAX_WINDOW, VERSION}
use Rattle.schedule_file.specs.Lines.{line_of, record_text}

-- the numbers of an ask have 32 bits
abbrev pub IsAsk : Ask → Type 0
IsAsk (Malloc size) = size < 2 ^ 32
IsAsk (Calloc count size) = (count < 2 ^ 32) × (size < 2 ^ 32)
IsAsk (Realloc old size) = (old < 2 ^ 32) × (size < 2 ^ 32)

-- version 2 has what was asked, and version 1 hasn't
abbrev pub IsAskOf : ℕ → Option Ask → Type 0
IsAskOf version None = version ≡ 1
IsAskOf version (Some ask) = (version ≡ 2) × IsAsk ask

abbrev pub WasCalloc : Option Ask → Type 0
WasCalloc None = ⊥
WasCalloc (Some ask) = is_calloc ask ≡ true

-- the answer was to stand in place of a block
abbrev pub WasReplacing : Option Ask → Type 0
WasReplacing None = ⊥
WasReplacing (Some ask) = IsSome (replaced ask)

-- The line of an answer in a version: a null pointer isn't zeroed, and a block that calloc asked for is. Bytes are carried only to a block that stands
-- in place of another one.
pub record IsAnswer (version : ℕ) (line : Line) : Type 0 where
  pub asked : IsAskOf version line.ask
  pub address : line.at < 2 ^ 32
  pub null : line.at ≡ 0 → line.zeroed ≡ false
  pub zeros : WasCalloc line.ask → 0 < line.at → line.zeroed ≡ true
  pub carried : line.carried < 2 ^ 32
  pub carries : 0 < line.carried → (0 < line.at) × WasReplacing line.ask

-- an answer of the allocator that has a line
abbrev pub IsChoice : Choice → Type 0
IsChoice choice = IsAnswer VERSION (line_of choice)

-- the numbers of a record are in their ranges
pub record IsRecord (value : Recorded) : Type 0 where
  pub some_version : 1 ≤ value.version
  pub version : value.version ≤ VERSION
  pub some_window : 1 ≤ value.window
  pub window : value.window ≤ MAX_WINDOW
  pub lines : All (IsAnswer value.version) value.lines
  pub steps : value.steps < 2 ^ 63
  pub taken : value.taken ≤ MAX_ITEMS

-- the text of a record
abbrev pub text_of : Recorded → List ℕ
text_of value = record_text value.version value.window value.frame value.lines value.steps value.taken

-- a text is that of a record whose numbers are in their ranges
abbrev pub IsReading : List ℕ → Recorded → Type 0
IsReading text value = IsRecord value × (text_of value ≡ text)

-- the record of some answers, as it is written
abbrev pub record_of : ℕ → Framing → List Choice → ℕ → ℕ → Recorded
record_of window frame choices steps taken =
    record { version = VERSION; window = window; frame = frame; lines = map line_of choices; steps = steps; taken = taken }
