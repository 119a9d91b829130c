-- What a replay is at its end.
use Rattle.std.specs.Prelude.{ℕ, Option, None, Some, length, nat_lt, ◌==◌, if◌then◌else◌}
use Rattle.run_history.specs.declared.answer.Answer.TheVariants as answer
use Rattle.replay.specs.Terms.{Ask, Choice, same_ask, Answer, Standing, Recorded, Difference}
use Rattle.replay.specs.declared.difference.Difference.TheVariants as difference

-- what differs at the record's end: lines are left over, or not as many items were taken
abbrev pub left_over : Recorded → Standing → Option Difference
left_over recorded s =
    if s.guest.machine.allocations == length recorded.lines
    then if s.guest.machine.taken == recorded.taken
    then None else Some (difference.ItemsApart s.guest.machine.taken recorded.taken) else Some (difference.LinesLeft s.guest.machine.allocations (length recorded.lines))

-- what differs where the program has ended itself with a code
abbrev pub ended_apart : Recorded → ℕ → Standing → Option Difference
ended_apart recorded code s = if nat_lt s.steps recorded.steps then Some (difference.Ended code) else left_over recorded s

-- what differs where the answer to an ask can't be used
abbrev pub unusable_apart : ℕ → Ask → Choice → Difference
unusable_apart number asked choice =
    if same_ask choice.ask asked then difference.Unusable number asked choice.at choice.zeroed choice.carried else difference.OtherAsk number asked choice.ask

-- all was as recorded, or the run doesn't go on as recorded
abbrev pub judged : Option Difference → ℕ → Answer
judged None steps = answer.Finished
judged (Some found) steps = answer.Mismatch steps
