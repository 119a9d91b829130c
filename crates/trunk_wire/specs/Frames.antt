-- Frames of many connections on one stream. A frame is its kind (one byte), its connection and its payload's length (two
-- bytes each, little-endian), and the payload.
use Rattle.std.specs.Prelude.{◌≡◌, ℕ, ◌+◌, ◌*◌, ◌/◌, ◌%◌, ◌^◌, ◌<◌, List, [], ◌∷◌, ◌++◌, length, flat_map}
use Rattle.links.specs.declared.journal.LinkEvent.TheVariants as event
use Rattle.trunk_wire.specs.Terms.{CONNECTIONS, LinkEvent, Piece}
use Rattle.trunk_wire.specs.declared.header.Header.{Header}
use Rattle.trunk_wire.specs.declared.header.TheConstants.{OPEN, BYTES, CLOSE, SETTLE}

-- the lower and the higher byte of a number of two bytes
abbrev pub low_byte : ℕ → ℕ
low_byte n = n % 256

abbrev pub high_byte : ℕ → ℕ
high_byte n = n / 256 % 256

-- a number fits two bytes
abbrev pub FitsTwoBytes : ℕ → Type 0
FitsTwoBytes n = n < 2 ^ 16

-- a number as two bytes, and two bytes as a number; the lower byte comes first
abbrev pub two_bytes : ℕ → List ℕ
two_bytes n = low_byte n ∷ high_byte n ∷ []

abbrev pub from_two_bytes : ℕ → ℕ → ℕ
from_two_bytes low high = low + 256 * high

-- a header as its five bytes: the kind, the connection and the payload's length
abbrev pub header_bytes : Header → List ℕ
header_bytes header = header.kind ∷ (two_bytes header.conn ++ two_bytes header.length)

-- the header that five bytes are
abbrev pub header_of : ℕ → ℕ → ℕ → ℕ → ℕ → Header
header_of kind conn_low conn_high length_low length_high =
    record { kind = kind; conn = from_two_bytes conn_low conn_high; length = from_two_bytes length_low length_high }

-- a header with the payload behind it
abbrev pub frame : ℕ → ℕ → List ℕ → List ℕ
frame kind conn payload = header_bytes (record { kind = kind; conn = conn; length = length payload }) ++ payload

-- bytes are one frame of a connection below CONNECTIONS
pub record IsFrame (kind conn : ℕ) (payload bytes : List ℕ) : Type 0 where
  pub is : bytes ≡ frame kind conn payload
  pub below : conn < CONNECTIONS
  pub few : FitsTwoBytes (length payload)

-- on the way in, the frame of an event. The connection of a settle has no meaning. Ends has no frame: no byte is left there
abbrev pub IsFrameOf : LinkEvent → List ℕ → Type 0
IsFrameOf (event.Opens conn) bytes = IsFrame OPEN conn [] bytes
IsFrameOf (event.Piece conn payload) bytes = IsFrame BYTES conn payload bytes
IsFrameOf (event.Closes conn) bytes = IsFrame CLOSE conn [] bytes
IsFrameOf event.Settles bytes = (conn : ℕ) × IsFrame SETTLE conn [] bytes
IsFrameOf event.Ends bytes = ⊥

-- bytes are the frames of events, one after another
abbrev pub AreFramesOf : List LinkEvent → List ℕ → Type 0
AreFramesOf [] bytes = bytes ≡ []
AreFramesOf (first ∷ events) bytes = (front : List ℕ) × (rest : List ℕ) × (bytes ≡ front ++ rest) × IsFrameOf first front × AreFramesOf events rest

-- on the way out, every frame is of kind 2
abbrev pub piece_frame : ℕ → List ℕ → List ℕ
piece_frame conn bytes = frame BYTES conn bytes

-- the frames of pieces, one behind the other
abbrev pub frames : List Piece → List ℕ
frames pieces = flat_map (λ (piece : Piece). piece_frame piece.conn piece.bytes) pieces
