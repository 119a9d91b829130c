-- What a framer is seen as, and what it does with a piece.
use Rattle.std.specs.Prelude.{◌≡◌, ◌≢◌, ℕ, ◌+◌, ◌<◌, ◌≤◌, List, [], length, Vec, Option, Some, None, option_map, Result, Ok, Err}
use Rattle.std.specs.declared.alloc.Global.{Global}
use Rattle.msg_frame.specs.declared.framing.Framing.{Framing}
use Rattle.msg_frame.specs.declared.framing.Framing.TheVariants.{Line, Length, Whole}
use Rattle.msg_frame.specs.declared.framing.FrameRefusal.{FrameRefusal}
use Rattle.msg_frame.specs.declared.framing.FrameRefusal.TheVariants.{TooLong, Memory}
use Rattle.msg_frame.specs.declared.framing.TheConstants.{MAX_MESSAGE, NUMBER_BYTES}
use Rattle.msg_frame.specs.Messages.{Parts, announced, cut}

-- how a stream is cut, and the bytes of its message that isn't whole yet
pub record Unfinished : Type 0 where
  pub framing : Framing
  pub rest : List ℕ

-- the bytes of a message that isn't whole yet: none of a refused one
abbrev pub IsRest : Framing → List ℕ → Type 0
IsRest Line rest = length rest ≤ MAX_MESSAGE
IsRest Length rest = NUMBER_BYTES ≤ length rest → (announced rest ≤ MAX_MESSAGE) × (length rest < NUMBER_BYTES + announced rest)
IsRest Whole rest = rest ≡ []

-- how many messages a piece makes whole
abbrev pub count_of : Option Parts → Option ℕ
count_of parts = option_map (λ (parts : Parts). length parts.messages) parts

-- at Ok the messages and the new rest are those that the piece makes; a piece is too long exactly where a message of
-- it is refused; after an Err the rest is as it was
abbrev pub Feeds : Unfinished → List ℕ → Unfinished → Result (Vec (List ℕ) Global) FrameRefusal → Type 0
Feeds old piece new (Ok messages) = (cut old.framing old.rest piece ≡ Some (record { messages = messages.items; rest = new.rest })) × (new.framing ≡ old.framing)
Feeds old piece new (Err TooLong) = (cut old.framing old.rest piece ≡ None) × (new ≡ old)
Feeds old piece new (Err Memory) = (cut old.framing old.rest piece ≢ None) × (new ≡ old)
