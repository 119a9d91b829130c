-- The events that a stream of frames brings in, and the pieces that one takes out.
use Rattle.std.specs.Prelude.{ℕ, nat_lt, ◌==◌, false, List, [], ◌∷◌, ◌++◌, length, flat_map, Option, None, Some, if◌then◌else◌}
use Rattle.trunk_wire.specs.Terms.{LinkEvent, Phases, Piece, Unopened, phases_after}
use Rattle.trunk_wire.specs.Frames.{from_two_bytes}
use Rattle.trunk_wire.specs.Grammar.{Front, Whole, Part, Bad, front}
use Rattle.trunk_wire.specs.Parts.{Progress, Reader, put_bytes}

-- the event of a whole frame, and none of anything else
abbrev pub whole_event : Front → Option LinkEvent
whole_event (Whole event) = Some event
whole_event Part = None
whole_event (Bad kind) = None

-- a part that is a whole frame is an event. A refused header is never whole, whatever follows it
abbrev pub event_reader : Reader Phases LinkEvent
event_reader = record { whole_of = λ phases part. whole_event (front phases part); after = phases_after }

-- the events that bytes are, where connections were in these phases before
abbrev pub read_from : Phases → List ℕ → Progress Phases LinkEvent
read_from phases bytes = put_bytes event_reader (record { whole = []; state = phases; part = [] }) bytes

-- the events of the whole frames at the front of bytes, up to the first header that is refused
abbrev pub events : Phases → List ℕ → List LinkEvent
events phases bytes = (read_from phases bytes).whole

-- no connection was opened
abbrev pub fresh : Phases
fresh conn = Unopened

-- a whole frame of output, as a piece
abbrev pub whole_piece : List ℕ → Option Piece
whole_piece (kind ∷ conn_low ∷ conn_high ∷ length_low ∷ length_high ∷ payload) =
    if nat_lt (length payload) (from_two_bytes length_low length_high) then None
    else Some (record { conn = from_two_bytes conn_low conn_high; bytes = payload; gone = false })
whole_piece _ = None

-- the payload bytes of a frame that is cut short, as a piece; none where there are none
abbrev pub cut_piece : List ℕ → List Piece
cut_piece (kind ∷ conn_low ∷ conn_high ∷ length_low ∷ length_high ∷ byte ∷ bytes) =
    record { conn = from_two_bytes conn_low conn_high; bytes = byte ∷ bytes; gone = false } ∷ []
cut_piece _ = []

-- a part that is a whole frame of output is a piece
abbrev pub piece_reader : Reader (Unit {0}) Piece
piece_reader = record { whole_of = λ _ part. whole_piece part; after = λ piece state. state }

-- the pieces that bytes are
abbrev pub written : List ℕ → Progress (Unit {0}) Piece
written bytes = put_bytes piece_reader (record { whole = []; state = tt; part = [] }) bytes

-- the pieces of a stream of output, a last frame that is cut short included
abbrev pub pieces : List ℕ → List Piece
pieces bytes = (written bytes).whole ++ cut_piece (written bytes).part

-- the bytes that pieces have for a connection
abbrev pub given_to : ℕ → List Piece → List ℕ
given_to conn pieces = flat_map (λ (piece : Piece). if piece.conn == conn then piece.bytes else []) pieces

-- all payload bytes of a stream of output for a connection, those of a last frame that is cut short included
abbrev pub payload : ℕ → List ℕ → List ℕ
payload conn bytes = given_to conn (pieces bytes)
