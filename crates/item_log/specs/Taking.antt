-- The parts of logging an event.
use Rattle.std.specs.Prelude.{◌≡◌, ℕ, ◌+◌, Option, Some, None, Result, Ok, Err}
use Rattle.item_log.specs.Terms.{LinkEvent, ItemRefusal, Items, Memory, TooLong}
use Rattle.item_log.specs.Log.{Log, received, logged, IsPieceOf}

-- a log that isn't refused has received so many items
abbrev pub HasReceived : ℕ → Option Log → Type 0
HasReceived n None = ⊥
HasReceived n (Some log) = received log ≡ n

-- an event brings so many items, or is too long
abbrev pub Brings : Log → LinkEvent → Result ℕ ItemRefusal → Type 0
Brings log event (Ok count) = HasReceived (received log + count) (logged log event)
Brings log event (Err (TooLong conn)) = (logged log event ≡ None) × IsPieceOf event conn
Brings log event (Err Items) = ⊥
Brings log event (Err Memory) = ⊥

-- at Ok the log has one more event, after an Err it is as it was
abbrev pub Takes : {X E : Type 0} → Log → LinkEvent → Log → Result X E → Type 0
Takes old event new (Ok _) = logged old event ≡ Some new
Takes old event new (Err _) = new ≡ old
