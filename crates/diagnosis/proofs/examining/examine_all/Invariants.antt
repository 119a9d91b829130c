use Rattle.diagnosis.proofs.ExaminedLemmas.{ExaminedEnvs}
use Rattle.diagnosis.proofs.examining.examine_all.Given as goal

abbrev pub invariant-environments : goal.invariant-environments
invariant-environments g l = ExaminedEnvs g.R.AccessRule.rule l.limits.budget l.limits.point l.index l.fn.held l.held l.fn.steps l.steps l.fn.tries.items l.tries.items l.place
