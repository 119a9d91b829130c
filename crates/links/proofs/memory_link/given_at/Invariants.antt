use Rattle.links.proofs.Terms.{drop, ◌≡◌, gone_at}
use Rattle.links.proofs.memory_link.given_at.Given as goal

abbrev pub invariant-gones : goal.invariant-gones
invariant-gones l = gone_at l.call (drop l.gone-index l.gones) ≡ gone_at l.call l.gones
