use Rattle.guest_space.proofs.Terms.{AreHeld}
use Rattle.guest_space.proofs.span.each_has.Given as goal

abbrev pub invariant-loop-k : goal.invariant-loop-k
invariant-loop-k l = AreHeld l.flag l.spans l.at l.k
