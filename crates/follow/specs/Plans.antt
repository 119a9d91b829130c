-- The plan of environments that a report tells.
use Rattle.std.specs.Prelude.{ℕ, ◌+◌, ◌≤◌, List, [], ◌∷◌, All, Option, None, Some, IfSome, if◌then◌else◌, ◌==◌}
use Rattle.follow.specs.Terms.{option_map_or, Override, Episode, Try, survives, plan_of_trial}

-- the trial of an episode that survived, if one did
abbrev pub adopted_try : List Try → Option Try
adopted_try [] = None
adopted_try (attempt ∷ tries) = if survives attempt.tried then Some attempt else adopted_try tries

-- the plan behind one more episode, where an environment is kept for so many items: that of the trial that survived; where none did, it is as before
abbrev pub plan_behind : ℕ → List Override → Episode → List Override
plan_behind keep plan episode = option_map_or (λ (attempt : Try). plan_of_trial keep plan attempt.checkpoint attempt.env episode.point) (adopted_try episode.tries) plan

-- the plan behind some episodes, the oldest first
abbrev pub plan_from : ℕ → List Override → List Episode → List Override
plan_from keep plan [] = plan
plan_from keep plan (episode ∷ episodes) = plan_from keep (plan_behind keep plan episode) episodes

-- the plan behind all episodes of a report
abbrev pub plan_of : ℕ → List Episode → List Override
plan_of keep episodes = plan_from keep [] episodes

-- the count of items from which on the environment of a trial is in force, by how many were taken at its checkpoint: the next one, or the start
abbrev pub first_count : ℕ → ℕ
first_count checkpoint = if checkpoint == 0 then 0 else checkpoint + 1

-- the trial of an episode that survived, if one did, is in force no later than at the failure
abbrev pub IsWellPlaced : Episode → Type 0
IsWellPlaced episode = IfSome (adopted_try episode.tries) (λ attempt. first_count attempt.checkpoint ≤ episode.point)

abbrev pub AreWellPlaced : List Episode → Type 0
AreWellPlaced episodes = All IsWellPlaced episodes
