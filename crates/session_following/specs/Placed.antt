-- The environment that is in force behind the last failure of a report.
use Rattle.std.specs.Prelude.{◌≡◌, ℕ, ◌+◌, ◌≤◌, Option, None, Some, IsSome}
use Rattle.session_following.specs.Terms.{Episode, adopted_try}

-- a last episode, if there is one, has a trial that survived, and so many items were taken since or more
abbrev pub IsFollowedBy : ℕ → Option Episode → Type 0
IsFollowedBy taken None = Unit {0}
IsFollowedBy taken (Some episode) = IsSome (adopted_try episode.tries) × (episode.point ≤ taken)

-- where its environment ends, which is kept for so many items behind the last failure, if there is one
abbrev pub EndsAfter : ℕ → Option Episode → ℕ → Type 0
EndsAfter keep None until = until ≡ 0
EndsAfter keep (Some episode) until = until ≡ episode.point + keep
