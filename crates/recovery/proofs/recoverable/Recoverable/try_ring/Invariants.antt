use Rattle.recovery.proofs.WalkLemmas.{WalkedUpTo}
use Rattle.recovery.proofs.recoverable.Recoverable.try_ring.Given as goal

abbrev pub invariant-checkpoints : goal.invariant-checkpoints
invariant-checkpoints g l = WalkedUpTo g.R.AccessRule.rule l.limits.budget l.limits.point l.fn.self l.self l.fn.steps l.steps l.tries.items l.index
