-- An event of a link comes into the log of a replay.
use Rattle.std.specs.Prelude.{◌≡◌, ◌+◌, ◌<◌, ◌≤◌, ◌^◌, None, Some, Result, Ok, Err}
use Rattle.links.specs.declared.journal.LinkEvent.TheVariants as event
use Rattle.links.specs.declared.journal.LinkFault.TheVariants as fault
use Rattle.item_log.specs.declared.item_refusal.ItemRefusal.TheVariants as refusal
use Rattle.run_history.specs.declared.answer.Answer.TheVariants as answer
use Rattle.replay.specs.Terms.{LinkEvent, LinkFault, ItemRefusal, Fits, IsPieceOf, Passes, logged, Answer}
use Rattle.replay.specs.Playing.{Stage}

-- a fault of a link as an answer
abbrev pub answer_of : LinkFault → Answer
answer_of (fault.Refused kind offset) = answer.InputRefused kind offset
answer_of fault.ReadFault = answer.ReadFault
answer_of fault.WriteFault = answer.WriteFault
answer_of fault.Memory = answer.Memory

-- why a log refused an event, as an answer
abbrev pub refusal_answer : ItemRefusal → Answer
refusal_answer (refusal.TooLong conn) = answer.MessageTooLong conn
refusal_answer refusal.Items = answer.LimitItems
refusal_answer refusal.Memory = answer.Memory

-- an event is counted and logged, by the answer; where it is refused, or memory runs out, nothing changes
abbrev pub LogsEvent : LinkEvent → Stage → Stage → Result (Unit {0}) Answer → Type 0
LogsEvent event old new (Ok done) =
    (old.events < 2 ^ 32) × (logged old.log event ≡ Some new.log) × Fits old.log.max_items (logged old.log event) × (new ≡ record old { log = new.log; events = old.events + 1 })
LogsEvent event old new (Err answer.LimitEvents) = (2 ^ 32 ≤ old.events) × (new ≡ old)
LogsEvent event old new (Err (answer.MessageTooLong conn)) = (old.events < 2 ^ 32) × (logged old.log event ≡ None) × IsPieceOf event conn × (new ≡ old)
LogsEvent event old new (Err answer.LimitItems) = (old.events < 2 ^ 32) × Passes old.log.max_items (logged old.log event) × (new ≡ old)
LogsEvent event old new (Err answer.Memory) = (old.events < 2 ^ 32) × Fits old.log.max_items (logged old.log event) × (new ≡ old)
LogsEvent event old new (Err other) = ⊥

-- the end of a link is no event: a guest that waits for an item doesn't go on as recorded
abbrev pub HeedsEvent : LinkEvent → Stage → Stage → Result (Unit {0}) Answer → Type 0
HeedsEvent event.Ends old new result = (result ≡ Err (answer.Mismatch old.live.steps)) × (new ≡ old)
HeedsEvent event old new result = LogsEvent event old new result
