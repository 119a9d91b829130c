-- The grammar of the trunk: what comes at the first byte of a frame.
use Rattle.std.specs.Prelude.{ℕ, nat_lt, ◌==◌, Bool, not, ◌&&◌, ◌||◌, List, [], ◌∷◌, length, take, Option, None, Some, if◌then◌else◌}
use Rattle.links.specs.declared.journal.LinkEvent.TheVariants as event
use Rattle.trunk_wire.specs.Terms.{CONNECTIONS, LinkEvent, is_open, is_unopened, Comes, Coming, Phases, Refuses}
use Rattle.trunk_wire.specs.Frames.{header_of}
use Rattle.trunk_wire.specs.declared.header.Header.{Header}
use Rattle.trunk_wire.specs.declared.header.TheConstants.{OPEN, BYTES, CLOSE, SETTLE}

-- the kind is one of the four
abbrev pub is_known : Header → Bool
is_known header = not (nat_lt header.kind OPEN) && not (nat_lt SETTLE header.kind)

-- only bytes have a payload
abbrev pub is_extra : Header → Bool
is_extra header = not (header.kind == BYTES) && not (header.length == 0)

-- the connection was opened before, closed or not
abbrev pub is_reopened : Phases → Header → Bool
is_reopened phases header = header.kind == OPEN && not (is_unopened (phases header.conn))

-- the connection wasn't opened, or was closed
abbrev pub is_not_open : Phases → Header → Bool
is_not_open phases header = (header.kind == BYTES || header.kind == CLOSE) && not (is_open (phases header.conn))

-- the kind by which a header is refused: the first that holds
abbrev pub header_refusal : Phases → Header → Option ℕ
header_refusal phases header =
    if not (is_known header) then Some 1
    else if not (nat_lt header.conn CONNECTIONS) then Some 2
    else if is_extra header then Some 6
    else if is_reopened phases header then Some 3
    else if is_not_open phases header then Some 4
    else None

-- the event of a frame that isn't refused
abbrev pub event_of : Header → List ℕ → LinkEvent
event_of header payload =
    if header.kind == OPEN then event.Opens header.conn
    else if header.kind == BYTES then event.Piece header.conn payload
    else if header.kind == CLOSE then event.Closes header.conn
    else event.Settles

-- what stands at the front of bytes: a whole frame, a part of one that goes on, or a header that is refused
pub data Front : Type 0 where
  Whole : LinkEvent → Front
  Part : Front
  Bad : ℕ → Front

-- behind a header that isn't refused
abbrev pub front_accepted : Header → List ℕ → Front
front_accepted header payload = if nat_lt (length payload) header.length then Part else Whole (event_of header (take header.length payload))

-- a header that is refused by a kind, or what stands there otherwise
abbrev pub front_by : Option ℕ → Front → Front
front_by None front = front
front_by (Some kind) front = Bad kind

-- what bytes with this header and this payload begin with
abbrev pub front_behind : Phases → Header → List ℕ → Front
front_behind phases header payload = front_by (header_refusal phases header) (front_accepted header payload)

-- what bytes begin with, where connections are in these phases
abbrev pub front : Phases → List ℕ → Front
front phases (kind ∷ conn_low ∷ conn_high ∷ length_low ∷ length_high ∷ payload) = front_behind phases (header_of kind conn_low conn_high length_low length_high) payload
front phases _ = Part

-- what comes at an offset where these bytes are left: the event of a whole frame, Ends where no byte is left, or the refusal.
-- A part of a frame is refused by kind 5, Truncated
abbrev pub coming_of : ℕ → Front → Coming
coming_of offset (Whole event) = Comes event
coming_of offset Part = Refuses 5 offset
coming_of offset (Bad kind) = Refuses kind offset

-- what comes of the bytes from an offset on; without bytes the link ends
abbrev pub event_at : Phases → ℕ → List ℕ → Coming
event_at phases offset [] = Comes event.Ends
event_at phases offset (byte ∷ bytes) = coming_of offset (front phases (byte ∷ bytes))
