-- Which calls of its link have failed behind a turn, and where a replay has ended.
use Rattle.links.specs.declared.journal.LinkEvent.TheVariants as event
use Rattle.run_history.specs.declared.answer.Answer.TheVariants as answer
use Rattle.replay.proofs.Terms.{None, Option, Some, inl, inr, subst, sym, true, true≢false, ℕ, ◌∙◌, ◌≡◌, Err, IsSome, Ok, Result, LinkEvent, LinkFault, Memory, ReadFault, Refused, WriteFault, Coming, StaysTold, NextShows, Seen, Answer, LeavesLink, HasNoFault, LeavesBy, Stage, HeedsEvent, LogsEvent, answer_of}

-- no call failed
pub leaves_both : (before now : Seen) (result : Result (Unit {0}) Answer) → now.takes ≡ true → now.gives ≡ true → (IsSome before.coming → IsSome now.coming) → HasNoFault result → LeavesBy before now result
leaves_both before now (Ok done) take give known none = (take, give, known)
leaves_both before now (Err (answer.InputRefused kind offset)) take give known none = absurd none
leaves_both before now (Err answer.ReadFault) take give known none = absurd none
leaves_both before now (Err answer.WriteFault) take give known none = absurd none
leaves_both before now (Err answer.Memory) take give known none = inl take
leaves_both before now (Err _) take give known none = (take, give)

-- what comes is told still where an event was taken or refused
pub taken_known : (old new : Option Coming) (taken : LinkEvent) → StaysTold old new (Ok taken) → IsSome old → IsSome new
taken_known None new taken stays known = absurd (true≢false (sym known))
taken_known (Some coming) new taken stays known = stays

told_still : (old new : Option Coming) (kind offset : ℕ) → StaysTold old new (Err (Refused kind offset)) → IsSome old → IsSome new
told_still None new kind offset stays known = absurd (true≢false (sym known))
told_still (Some coming) new kind offset stays known = stays

-- no event was taken
pub leaves_untaken : {before now : Seen} (failed : LinkFault) → NextShows before now (Err failed) → before.gives ≡ true → LeavesLink before now (answer_of failed)
leaves_untaken {before = before} {now = now} (Refused kind offset) shows give = (shows.takes, shows.gives ∙ give, told_still before.coming now.coming kind offset shows.coming)
leaves_untaken ReadFault shows give = shows.gives ∙ give
leaves_untaken WriteFault shows give = absurd shows.grammar
leaves_untaken Memory shows give = inr (shows.gives ∙ give)

-- an event that comes in is no fault
pub logs_none : (taken : LinkEvent) (old new : Stage) (result : Result (Unit {0}) Answer) → LogsEvent taken old new result → HasNoFault result
logs_none taken old new (Ok done) logs = tt
logs_none taken old new (Err (answer.InputRefused kind offset)) logs = logs
logs_none taken old new (Err answer.ReadFault) logs = logs
logs_none taken old new (Err answer.WriteFault) logs = logs
logs_none taken old new (Err _) logs = tt

pub heeds_none : (taken : LinkEvent) (old new : Stage) (result : Result (Unit {0}) Answer) → HeedsEvent taken old new result → HasNoFault result
heeds_none event.Ends old new result heeds = subst HasNoFault (sym heeds.0) tt
heeds_none (event.Opens conn) old new result heeds = logs_none (event.Opens conn) old new result heeds
heeds_none (event.Piece conn bytes) old new result heeds = logs_none (event.Piece conn bytes) old new result heeds
heeds_none (event.Closes conn) old new result heeds = logs_none (event.Closes conn) old new result heeds
heeds_none event.Settles old new result heeds = logs_none event.Settles old new result heeds

-- what came next was told before a call too
pub leaves_then : (first before now : Seen) (end : Answer) → (IsSome first.coming → IsSome before.coming) → LeavesLink before now end → LeavesLink first now end
leaves_then first before now (answer.InputRefused kind offset) known leaves = (leaves.0, leaves.1, λ some. leaves.2 (known some))
leaves_then first before now answer.ReadFault known leaves = leaves
leaves_then first before now answer.WriteFault known leaves = leaves
leaves_then first before now answer.Memory known leaves = leaves
leaves_then first before now _ known leaves = leaves

pub leaves_after : (first before now : Seen) (result : Result (Unit {0}) Answer) → (IsSome first.coming → IsSome before.coming) → LeavesBy before now result → LeavesBy first now result
leaves_after first before now (Ok done) known leaves = (leaves.0, leaves.1, λ some. leaves.2 (known some))
leaves_after first before now (Err end) known leaves = leaves_then first before now end known leaves
