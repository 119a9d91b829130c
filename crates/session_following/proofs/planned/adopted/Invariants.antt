use Rattle.session_following.proofs.Terms.{length, ◌≡◌, adopted_try}
use Rattle.session_following.proofs.planned.adopted.Given as goal

abbrev pub invariant-tries : goal.invariant-tries
invariant-tries l = adopted_try l.rest ≡ adopted_try l.tries

abbrev pub decreases-tries : goal.decreases-tries
decreases-tries l = length l.rest
