-- The plan of a report as ranges of counts of items, of which each begins earlier than the one in front of it. So a run that goes up through the counts has
-- the next range in front of it, and none that is out of force.
use Rattle.std.specs.Prelude.{ℕ, ◌<◌, List, [], ◌∷◌, filter, nat_lt}
use Rattle.follow.specs.Terms.{option_map_or, Override, Episode, Try, plan_of_trial}
use Rattle.follow.specs.Plans.{adopted_try}

-- a plan without those that begin no earlier than its latest one, which are never asked
abbrev pub unmasked : List Override → List Override
unmasked [] = []
unmasked (latest ∷ plan) = latest ∷ filter (λ (earlier : Override). nat_lt earlier.low latest.low) plan

-- the ranges behind one more episode, and behind some, the oldest first
abbrev pub ranges_behind : ℕ → List Override → Episode → List Override
ranges_behind keep ranges episode = option_map_or (λ (attempt : Try). unmasked (plan_of_trial keep ranges attempt.checkpoint attempt.env episode.point)) (adopted_try episode.tries) ranges

abbrev pub ranges_from : ℕ → List Override → List Episode → List Override
ranges_from keep ranges [] = ranges
ranges_from keep ranges (episode ∷ episodes) = ranges_from keep (ranges_behind keep ranges episode) episodes

abbrev pub ranges_of : ℕ → List Episode → List Override
ranges_of keep episodes = ranges_from keep [] episodes

-- all begin before a count of items
abbrev pub BeginBefore : ℕ → List Override → Type 0
BeginBefore low [] = Unit {0}
BeginBefore low (range ∷ ranges) = (range.low < low) × BeginBefore low ranges

-- each begins before those in front of it
abbrev pub AreFalling : List Override → Type 0
AreFalling [] = Unit {0}
AreFalling (range ∷ ranges) = BeginBefore range.low ranges × AreFalling ranges
