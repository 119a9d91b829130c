-- How a stream is cut into messages, byte by byte.
use Rattle.std.specs.Prelude.{ℕ, ◌+◌, ◌*◌, List, [], ◌∷◌, ◌++◌, length, take, drop, Option, Some, None, if◌then◌else◌, ◌==◌, nat_lt, nat_le}
use Rattle.msg_frame.specs.declared.framing.Framing.{Framing}
use Rattle.msg_frame.specs.declared.framing.Framing.TheVariants.{Line, Length, Whole}
use Rattle.msg_frame.specs.declared.framing.TheConstants.{MAX_MESSAGE, LINE_FEED, NUMBER_BYTES}

-- whole messages, and the bytes behind the last one, of a message that isn't whole yet
pub record Parts : Type 0 where
  pub messages : List (List ℕ)
  pub rest : List ℕ

-- no message is whole
abbrev pub no_message : List ℕ → Option Parts
no_message rest = Some (record { messages = []; rest = rest })

-- one message is whole, and nothing is behind it
abbrev pub one_message : List ℕ → Option Parts
one_message message = Some (record { messages = message ∷ []; rest = [] })

-- messages, and others behind them
abbrev pub behind : List (List ℕ) → Option Parts → Option Parts
behind messages None = None
behind messages (Some parts) = Some (record { messages = messages ++ parts.messages; rest = parts.rest })

-- the messages of some bytes, and behind them those that their rest begins; None where one is refused
abbrev pub then_cut : Option Parts → (List ℕ → Option Parts) → Option Parts
then_cut None next = None
then_cut (Some parts) next = behind parts.messages (next parts.rest)

-- the number of these bytes, the lowest first
abbrev pub little_number : List ℕ → ℕ
little_number [] = 0
little_number (byte ∷ bytes) = byte + 256 * little_number bytes

-- how many bytes a message has, by the number before it
abbrev pub announced : List ℕ → ℕ
announced bytes = little_number (take NUMBER_BYTES bytes)

-- one more byte of a line: refused behind the most bytes that a message may have; the line feed makes it whole
unfoldable pub line_byte : List ℕ → ℕ → Option Parts
line_byte rest byte =
    if nat_le MAX_MESSAGE (length rest) then None else
    if byte == LINE_FEED then one_message (rest ++ byte ∷ []) else
    no_message (rest ++ byte ∷ [])

-- a number and what is there of its message: refused where the number is too large; whole where no byte is missing
unfoldable pub announced_parts : List ℕ → Option Parts
announced_parts bytes =
    if nat_lt (length bytes) NUMBER_BYTES then no_message bytes else
    if nat_lt MAX_MESSAGE (announced bytes) then None else
    if nat_lt (length bytes) (NUMBER_BYTES + announced bytes) then no_message bytes else
    one_message (drop NUMBER_BYTES bytes)

-- one more byte of a number or of the message behind it
abbrev pub length_byte : List ℕ → ℕ → Option Parts
length_byte rest byte = announced_parts (rest ++ byte ∷ [])

-- the bytes of a piece behind a rest, one after another
unfoldable pub cut_bytes : (List ℕ → ℕ → Option Parts) → List ℕ → List ℕ → Option Parts
cut_bytes add rest [] = no_message rest
cut_bytes add rest (byte ∷ bytes) = then_cut (add rest byte) (λ more. cut_bytes add more bytes)

-- a piece that is a message, unless it is empty
unfoldable pub cut_whole : List ℕ → Option Parts
cut_whole [] = no_message []
cut_whole (byte ∷ bytes) = if nat_lt MAX_MESSAGE (length (byte ∷ bytes)) then None else one_message (byte ∷ bytes)

-- the messages that a piece behind a rest makes whole, and the new rest; None where a message is refused
unfoldable pub cut : Framing → List ℕ → List ℕ → Option Parts
cut Line rest piece = cut_bytes line_byte rest piece
cut Length rest piece = cut_bytes length_byte rest piece
cut Whole rest piece = cut_whole piece

-- the same of pieces that come one after another
abbrev pub cut_all : Framing → List ℕ → List (List ℕ) → Option Parts
cut_all framing rest [] = no_message rest
cut_all framing rest (piece ∷ pieces) = then_cut (cut framing rest piece) (λ more. cut_all framing more pieces)

-- the messages of all pieces of a connection, from its start, and the rest behind them
abbrev pub messages : Framing → List (List ℕ) → Option Parts
messages framing pieces = cut_all framing [] pieces
