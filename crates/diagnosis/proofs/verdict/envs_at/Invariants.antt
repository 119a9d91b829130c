use Rattle.diagnosis.proofs.Terms.{drop, ◌++◌, ◌≡◌, envs_at}
use Rattle.diagnosis.proofs.verdict.envs_at.Given as goal

-- what was found, and what is found among the trials that are left, are the whole
abbrev pub invariant-tries : goal.invariant-tries
invariant-tries l = l.envs.items ++ envs_at l.checkpoint (drop l.t-index l.tries) ≡ envs_at l.checkpoint l.tries
