use Rattle.session_following.proofs.Terms.{List, length, ◌≡◌, Override, env_at, plan_from, plan_of}
use Rattle.session_following.proofs.planned.env_planned.Given as goal

-- the plan of the episodes so far
abbrev pub invariant-episodes : goal.invariant-episodes
invariant-episodes l = record {
  plan : List Override;
  whole : plan_from l.keep plan l.rest ≡ plan_of l.keep l.episodes;
  env : l.env ≡ env_at l.base plan l.taken;
}

abbrev pub decreases-episodes : goal.decreases-episodes
decreases-episodes l = length l.rest
