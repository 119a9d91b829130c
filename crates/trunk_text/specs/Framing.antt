-- Lines that are turned into frames.
use Rattle.std.specs.Prelude.{◌≡◌, ◌⊎◌, ℕ, ◌+◌, ◌≤◌, Bool, true, not, List, [], ◌∷◌, ◌++◌, length, Option, None, Some, Result, Ok, Err, ◌==◌}
use Rattle.trunk_text.specs.Terms.{list_all, IoFault, Prefix, Flaw, LongLine, Line}
use Rattle.trunk_text.specs.declared.turning.Ended.{Ended}
use Rattle.trunk_text.specs.declared.turning.Ended.TheVariants as ended
use Rattle.trunk_text.specs.declared.framing.TheConstants.{MAX_LINE}
use Rattle.trunk_text.specs.declared.framing.Taken.{Taken}
use Rattle.trunk_text.specs.declared.framing.Taken.TheVariants.{Fed, Last, Long}
use Rattle.trunk_text.specs.Lines.{line_of}
use Rattle.trunk_text.specs.Frames.{frame_of}
use Rattle.trunk_text.specs.Turns.{Way, Loses}

-- no byte is a line feed
abbrev pub is_bare : List ℕ → Bool
is_bare line = list_all (λ byte. not (byte == 10)) line

-- a line without its line feed, or a part of one, that isn't too long
pub record IsLine (line : List ℕ) : Type 0 where
  pub bare : is_bare line ≡ true
  pub short : length line ≤ MAX_LINE

-- a line says what has this frame
abbrev pub Frames : List ℕ → List ℕ → Type 0
Frames line to = (says : Line) × IsLine line × (line_of line ≡ Ok says) × (to ≡ frame_of says)

-- a line with its line feed becomes the frame of what it says
abbrev pub FramesFed : List ℕ → List ℕ → Type 0
FramesFed from to = (line : List ℕ) × (from ≡ line ++ 10 ∷ []) × Frames line to

-- a line is refused by its flaw, with its line feed or at the end of the input; one that is too long is, at the first byte too many
abbrev pub IsBadLine : Type 0 → Flaw → List ℕ → Type 0
IsBadLine drained flaw from = ((line : List ℕ) × IsLine line × (line_of line ≡ Err flaw) × ((from ≡ line ++ 10 ∷ []) ⊎ ((from ≡ line) × drained)))
    ⊎ ((flaw ≡ LongLine) × (is_bare from ≡ true) × (length from ≡ MAX_LINE + 1))

-- lines become frames; a last line without a line feed is a line
abbrev pub framing : Way
framing = record { Turns = FramesFed; Last = Frames; IsBad = IsBadLine; IsPart = IsLine }

-- what was taken: a line and its line feed, a line at the end of the input, or more bytes than a line has; or, after a fault, a part of a line
abbrev pub TakesLine : (List ℕ → Type 0) → Type 0 → Result Taken IoFault → Type 0
TakesLine Takes drained (Ok (Fed line)) = IsLine line.items × Takes (line.items ++ 10 ∷ [])
TakesLine Takes drained (Ok (Last line)) = IsLine line.items × drained × Takes line.items
TakesLine Takes drained (Ok Long) = (line : List ℕ) × (is_bare line ≡ true) × (length line ≡ MAX_LINE + 1) × Takes line
TakesLine Takes drained (Err fault) = Loses IsLine Takes fault

-- what is written for a line that begins at an offset: its frame, nothing where it is refused, or after a fault some first bytes of its frame
abbrev pub GivesFront : (List ℕ → Type 0) → List ℕ → Type 0
GivesFront Writes line = (says : Line) × (front : List ℕ) × (line_of line ≡ Ok says) × Prefix front (frame_of says) × Writes front

abbrev pub GivesLine : (List ℕ → Type 0) → List ℕ → ℕ → Option Ended → Type 0
GivesLine Writes line at None = (says : Line) × (line_of line ≡ Ok says) × Writes (frame_of says)
GivesLine Writes line at (Some (ended.Refused flaw offset)) = (line_of line ≡ Err flaw) × (offset ≡ at) × Writes []
GivesLine Writes line at (Some ended.WriteFault) = GivesFront Writes line
GivesLine Writes line at (Some ended.Memory) = Writes [] ⊎ GivesFront Writes line
GivesLine Writes line at (Some other) = ⊥
