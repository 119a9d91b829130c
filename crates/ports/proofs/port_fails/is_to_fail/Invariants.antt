use Rattle.ports.proofs.Terms.{drop, ◌≡◌, is_to_fail}
use Rattle.ports.proofs.port_fails.is_to_fail.Given as goal

abbrev pub invariant-fails : goal.invariant-fails
invariant-fails l = is_to_fail l.call l.number (drop l.fail-index l.fails) ≡ is_to_fail l.call l.number l.fails
