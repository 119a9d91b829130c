-- Frames that are turned into lines.
use Rattle.std.specs.Prelude.{◌≡◌, ◌⊎◌, ℕ, ◌+◌, ◌^◌, ◌<◌, ◌≤◌, not, List, [], ◌∷◌, ◌++◌, length, Option, None, Some, Result, Ok, Err, Vec, if◌then◌else◌, ◌==◌}
use Rattle.trunk_text.specs.Terms.{Global, IoFault, Prefix, Header, BYTES, CLOSE, OPEN, header_of, is_extra, is_known, Flaw, Cut, Kind, Payload, Line, Closes, Opens, Piece, Settles}
use Rattle.trunk_text.specs.declared.unframing.Read.{Read}
use Rattle.trunk_text.specs.declared.unframing.Read.TheVariants.{Whole, End, Wrong}
use Rattle.trunk_text.specs.declared.turning.Ended.TheVariants as ended
use Rattle.trunk_text.specs.declared.turning.Turn.{Turn}
use Rattle.trunk_text.specs.declared.turning.Turn.TheVariants.{More, Ends}
use Rattle.trunk_text.specs.Frames.{IsFrameOf}
use Rattle.trunk_text.specs.Lines.{text_of}
use Rattle.trunk_text.specs.Turns.{Way, Loses}

-- why a header is refused, by the trunk's tests of kind and payload
abbrev pub header_flaw : Header → Option Flaw
header_flaw header = if not (is_known header) then Some Kind else if is_extra header then Some Payload else None

-- what a frame with a header that isn't refused says
abbrev pub says_of : ℕ → ℕ → List ℕ → Line
says_of kind conn payload =
    if kind == OPEN then Opens conn
    else if kind == BYTES then Piece conn payload
    else if kind == CLOSE then Closes conn
    else Settles

-- bytes are a part of a frame and not a whole one; a whole header among them isn't refused
abbrev pub IsCut : List ℕ → Type 0
IsCut (kind ∷ conn_low ∷ conn_high ∷ length_low ∷ length_high ∷ payload) =
    let header = header_of kind conn_low conn_high length_low length_high in (header_flaw header ≡ None) × (length payload < header.length)
IsCut fewer = Unit {0}

-- bytes are the header of a frame, which is refused
abbrev pub IsBadHeader : Flaw → List ℕ → Type 0
IsBadHeader flaw (kind ∷ conn_low ∷ conn_high ∷ length_low ∷ length_high ∷ []) = header_flaw (header_of kind conn_low conn_high length_low length_high) ≡ Some flaw
IsBadHeader flaw other = ⊥

-- a header is refused, or the input ends within a frame
abbrev pub IsBadFrame : Type 0 → Flaw → List ℕ → Type 0
IsBadFrame drained flaw from = IsBadHeader flaw from ⊎ ((flaw ≡ Cut) × IsCut from × (0 < length from) × drained)

-- a frame becomes the line of what it says, and the end of the input nothing
abbrev pub Unframes : List ℕ → List ℕ → Type 0
Unframes from to = (says : Line) × IsFrameOf says from × (to ≡ text_of says ++ 10 ∷ [])

abbrev pub IsNothing : List ℕ → List ℕ → Type 0
IsNothing from to = (from ≡ []) × (to ≡ [])

abbrev pub unframing : Way
unframing = record { Turns = Unframes; Last = IsNothing; IsBad = IsBadFrame; IsPart = IsCut }

-- so many bytes were taken, or all that were left, or after a fault fewer
abbrev pub TakesUpTo : ℕ → (List ℕ → Type 0) → Type 0 → Result (Vec ℕ Global) IoFault → Type 0
TakesUpTo count Takes drained (Ok bytes) = Takes bytes.items × (length bytes.items ≤ count) × (length bytes.items < count → drained)
TakesUpTo count Takes drained (Err fault) = Loses (λ part. length part < count) Takes fault

-- what was taken: a whole frame of so many bytes, nothing at the end of the input, or what is refused; or after a fault a part of a frame
abbrev pub TakesFrame : (List ℕ → Type 0) → Type 0 → Result Read IoFault → Type 0
TakesFrame Takes drained (Ok (Whole says count)) = (from : List ℕ) × IsFrameOf says from × (length from ≡ count) × Takes from × (0 < count)
TakesFrame Takes drained (Ok End) = Takes [] × drained
TakesFrame Takes drained (Ok (Wrong flaw)) = (from : List ℕ) × IsBadFrame drained flaw from × Takes from
TakesFrame Takes drained (Err fault) = Loses IsCut Takes fault

-- what is written for a frame of so many bytes that begins at an offset: its line, or after a fault some first bytes of it
abbrev pub GivesSome : (List ℕ → Type 0) → Line → Type 0
GivesSome Writes says = (front : List ℕ) × Prefix front (text_of says ++ 10 ∷ []) × Writes front

abbrev pub GivesText : (List ℕ → Type 0) → Line → ℕ → ℕ → Turn → Type 0
GivesText Writes says at count (More now) = (now ≡ at + count) × Writes (text_of says ++ 10 ∷ [])
GivesText Writes says at count (Ends ended.WriteFault) = GivesSome Writes says
GivesText Writes says at count (Ends ended.Memory) = GivesSome Writes says
GivesText Writes says at count (Ends ended.Limit) = (2 ^ 64 ≤ at + count) × Writes []
GivesText Writes says at count (Ends other) = ⊥
