use Rattle.drill.proofs.Terms.{◌++◌, ◌-◌, ◌≡◌, messages}
use Rattle.drill.proofs.generating.add_messages.Given as goal

abbrev pub invariant-loop : goal.invariant-loop
invariant-loop l = l.events.items ++ messages (l.count - l.counter) l.state ≡ l.fn.events.items ++ messages l.count l.seed
