-- What a walk over a piece takes of it.
use Rattle.std.specs.Prelude.{◌≡◌, List, ℕ, [], ◌∷◌, ◌++◌, Option, Some, None, Result, Ok, Err}
use Rattle.std.specs.Borrow.{Bor}
use Rattle.msg_frame.specs.declared.framing.FrameRefusal.{FrameRefusal}
use Rattle.msg_frame.specs.declared.framing.FrameRefusal.TheVariants.{TooLong, Memory}
use Rattle.msg_frame.specs.Messages.{Parts}

-- the rest behind messages of a piece: what is left, with the old rest where no message was made whole
abbrev pub left_of : List (List ℕ) → List ℕ → List ℕ → List ℕ
left_of [] rest left = rest ++ left
left_of (message ∷ messages) rest left = left

-- at Ok these are the messages, and this is left behind them; too long where one is refused
abbrev pub Takes : Option Parts → List (List ℕ) → List ℕ → Result (Bor (List ℕ)) FrameRefusal → Type 0
Takes parts messages rest (Ok left) = parts ≡ Some (record { messages = messages; rest = left_of messages rest left.now })
Takes parts messages rest (Err TooLong) = parts ≡ None
Takes parts messages rest (Err Memory) = Unit {0}
