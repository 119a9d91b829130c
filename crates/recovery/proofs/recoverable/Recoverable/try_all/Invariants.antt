use Rattle.recovery.proofs.WalkLemmas.{TriedUpTo}
use Rattle.recovery.proofs.recoverable.Recoverable.try_all.Given as goal

abbrev pub invariant-environments : goal.invariant-environments
invariant-environments g l = TriedUpTo g.R.AccessRule.rule l.limits.budget l.limits.point l.index l.fn.self l.self l.fn.steps l.steps l.fn.tries.items l.tries.items l.place
