-- What connections do with a piece of one of them.
use Rattle.std.specs.Prelude.{◌≡◌, ℕ, List, [], Vec, Option, Some, None, unwrap_or, slice_set, Result, Ok, Err}
use Rattle.msg_frame.specs.declared.framing.FrameRefusal.TheVariants.{TooLong, Memory}
use Rattle.item_log.specs.Terms.{Global, FrameRefusal, Framing, Parts, cut, one_message}
use Rattle.item_log.specs.Connections.{rest_of}
use Rattle.item_log.specs.Watched.{Watched}

-- at Ok these are the messages, and the connection has the new rest; it is too long only where a message is; after an Err
-- all is as it was
abbrev pub FeedsOne : Watched → ℕ → List ℕ → Watched → Result (Vec (List ℕ) Global) FrameRefusal → Type 0
FeedsOne old conn piece new (Ok messages) =
    (parts : Parts) × (cut old.framing (unwrap_or (rest_of old.rests conn) []) piece ≡ Some parts) × (messages.items ≡ parts.messages) × (new ≡ record old { rests = slice_set old.rests conn (Some parts.rest) })
FeedsOne old conn piece new (Err TooLong) = (cut old.framing (unwrap_or (rest_of old.rests conn) []) piece ≡ None) × (new ≡ old)
FeedsOne old conn piece new (Err Memory) = new ≡ old

-- a piece of a connection is one message: nothing is left before it, and nothing behind it
abbrev pub IsMessageOf : Framing → List (Option (List ℕ)) → ℕ → List ℕ → Type 0
IsMessageOf framing rests conn piece = (rest_of rests conn ≡ Some []) × (cut framing [] piece ≡ one_message piece)
