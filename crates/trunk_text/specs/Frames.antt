-- The frames of lines, by the trunk's grammar.
use Rattle.std.specs.Prelude.{◌≡◌, ℕ, List, [], length}
use Rattle.trunk_text.specs.Terms.{BYTES, CLOSE, OPEN, SETTLE, FitsTwoBytes, frame, Line, Closes, Nothing, Opens, Piece, Settles}

-- the frame that is written for a line; a settle is one of connection 0
abbrev pub frame_of : Line → List ℕ
frame_of (Opens conn) = frame OPEN conn []
frame_of (Piece conn bytes) = frame BYTES conn bytes
frame_of (Closes conn) = frame CLOSE conn []
frame_of Settles = frame SETTLE 0 []
frame_of Nothing = []

-- bytes are a whole frame with two bytes of connection and two of length
pub record IsFrame (kind conn : ℕ) (payload bytes : List ℕ) : Type 0 where
  pub is : bytes ≡ frame kind conn payload
  pub narrow : FitsTwoBytes conn
  pub few : FitsTwoBytes (length payload)

-- bytes are the frame of what a line says; the connection of a settle says nothing
abbrev pub IsFrameOf : Line → List ℕ → Type 0
IsFrameOf (Opens conn) bytes = IsFrame OPEN conn [] bytes
IsFrameOf (Piece conn payload) bytes = IsFrame BYTES conn payload bytes
IsFrameOf (Closes conn) bytes = IsFrame CLOSE conn [] bytes
IsFrameOf Settles bytes = (conn : ℕ) × IsFrame SETTLE conn [] bytes
IsFrameOf Nothing bytes = ⊥

-- a piece fits the two bytes of its length
abbrev pub IsShort : Line → Type 0
IsShort (Piece conn bytes) = FitsTwoBytes (length bytes)
IsShort other = Unit {0}
