-- What came before a session that follows, where its run stands.
use Rattle.std.specs.Prelude.{ℕ, ◌+◌, List, [], ◌∷◌, suc, zero, Some}
use Rattle.session_following.specs.Terms.{Send, LinkEvent, Env, Override, Path, env_at, Before, Rules}

-- the rules of a session before which this came
abbrev pub rules_after : Rules → Before → Rules
rules_after rules before = record rules { bounds = record rules.bounds { before = before } }

-- what came before one whose run stands there: these events, and these pieces that were passed, under this plan
abbrev pub came_before : List LinkEvent → List Send → List Override → Path → Before
came_before events had plan now = record { events = events; had = had; plan = plan; stood = Some now }

-- A plan of which only the counts of items up to one are asked: at each of them it says the same, and the base at all later ones.
unfoldable pub plan_up_to : Env → List Override → ℕ → List Override
plan_up_to base plan zero = record { low = 0; until = 1; env = env_at base plan 0 } ∷ []
plan_up_to base plan (suc count) = record { low = count + 1; until = count + 2; env = env_at base plan (count + 1) } ∷ plan_up_to base plan count
