use Rattle.diagnosis.proofs.ExaminedLemmas.{ExaminedRing}
use Rattle.diagnosis.proofs.examining.examine.Given as goal

abbrev pub invariant-checkpoints : goal.invariant-checkpoints
invariant-checkpoints g l = ExaminedRing g.R.AccessRule.rule l.limits.budget l.limits.point l.fn.held l.held l.fn.steps l.steps l.tries.items l.index
