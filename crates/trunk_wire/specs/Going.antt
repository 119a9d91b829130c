-- How a trunk goes on: what it takes from its source and writes to its sink over any number of calls.
use Rattle.std.specs.Prelude.{◌≡◌, ℕ, ◌^◌, ◌<◌, Bool, true, false, All, List, [], ◌∷◌, ◌++◌, length, Option, None, Some}
use Rattle.trunk_wire.specs.Terms.{CONNECTIONS, IsDrained, Stream, Prefix, LinkEvent, Handed, IsInOrder, Phases, Piece, phases_after}
use Rattle.trunk_wire.specs.Calls.{Reads, Writes, count_after, IsRefused}
use Rattle.trunk_wire.specs.Frames.{AreFramesOf, piece_frame, frames}
use Rattle.trunk_wire.specs.Grammar.{Part, front}
use Rattle.trunk_wire.specs.declared.refusal.Refusal.{Refusal}

-- events in order, one after another
abbrev pub AreInOrder : Phases → List LinkEvent → Type 0
AreInOrder phases [] = Unit {0}
AreInOrder phases (first ∷ events) = IsInOrder phases first × AreInOrder (phases_after first phases) events

-- the phases behind events
abbrev pub phases_behind : List LinkEvent → Phases → Phases
phases_behind [] phases = phases
phases_behind (first ∷ events) phases = phases_behind events (phases_after first phases)

-- what a source tells, how many of its bytes a link took, the link's phases, whether it takes events, and the refusal where it
-- doesn't for that
pub record Intake : Type 0 where
  pub told : Option Stream
  pub took : ℕ
  pub phases : Phases
  pub takes : Bool
  pub refused : Option Refusal

-- What was taken behind whole frames: nothing while the link takes events. Where it was refused, it is what is refused, and
-- begins at the refusal's offset. Else it is a part of a frame and not a whole one.
abbrev pub IsTail : Phases → Type 0 → ℕ → Bool → Option Refusal → List ℕ → Type 0
IsTail phases drained offset true refused tail = tail ≡ []
IsTail phases drained offset false None tail = front phases tail ≡ Part
IsTail phases drained offset false (Some refusal) tail = (refusal.offset ≡ offset) × IsRefused phases drained refusal.kind tail

-- the frames of events in order were taken, and a tail behind them
pub record TookFrames (old new : Intake) : Type 0 where
  pub events : List LinkEvent
  pub whole : List ℕ
  pub tail : List ℕ
  pub order : AreInOrder old.phases events
  pub phases : (conn : ℕ) → new.phases conn ≡ phases_behind events old.phases conn
  pub are : AreFramesOf events whole
  pub reads : Reads old.told new.told old.took new.took (whole ++ tail)
  pub is_tail : IsTail (phases_behind events old.phases) (IsDrained new.told) (count_after old.took (length whole)) new.takes new.refused tail

-- frames are taken while the link takes events. Once it doesn't, all of this stays
abbrev pub TakesOn : Bool → Intake → Intake → Type 0
TakesOn true old new = TookFrames old new
TakesOn false old new = new ≡ old

-- what a sink tells, how many bytes a link wrote to it, the piece that the link was handed last, and whether it gives pieces
pub record Output : Type 0 where
  pub told : Option (List ℕ)
  pub wrote : ℕ
  pub handed : Option Handed
  pub gives : Bool

-- a piece that a frame holds: 1 to 65,535 bytes for a connection below CONNECTIONS, and all of them
pub record IsFramed (piece : Piece) : Type 0 where
  pub below : piece.conn < CONNECTIONS
  pub some : 0 < length piece.bytes
  pub few : length piece.bytes < 2 ^ 16
  pub whole : piece.gone ≡ false

-- what was written behind whole frames: nothing while the link gives pieces, else a first part of one more, perhaps all of it,
-- perhaps none: that of the piece that it was handed last
abbrev pub IsCut : Bool → Option Handed → List ℕ → Type 0
IsCut true handed tail = tail ≡ []
IsCut false handed tail = (piece : Piece) × IsFramed piece × Prefix tail (piece_frame piece.conn piece.bytes) × (handed ≡ Some (record { conn = piece.conn; length = length piece.bytes }))

-- the frames of pieces were written, and a first part of one more behind them
pub record WroteFrames (old new : Output) : Type 0 where
  pub pieces : List Piece
  pub tail : List ℕ
  pub framed : All IsFramed pieces
  pub writes : Writes old.told new.told old.wrote new.wrote (frames pieces ++ tail)
  pub cut : IsCut new.gives new.handed tail

-- frames are written while the link gives pieces. Once it doesn't, all of this stays
abbrev pub GivesOn : Bool → Output → Output → Type 0
GivesOn true old new = WroteFrames old new
GivesOn false old new = new ≡ old
