use Rattle.routes.proofs.Terms.{take, ◌++◌, ◌≡◌, choice_lines}
use Rattle.routes.proofs.record_lines.add_choices.Given as goal

abbrev pub invariant-choices : goal.invariant-choices
invariant-choices l = l.bytes.items ≡ l.fn.bytes.items ++ choice_lines (take l.choice-index l.list)
