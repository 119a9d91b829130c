-- A session that follows another host's run.
use Rattle.std.specs.Prelude.{◌≡◌, ℕ, ◌+◌, ◌≤◌, List}
use Rattle.session_following.specs.Terms.{LinkEvent, Phases, events_in, Image, Limits, Path, env_at, Before, items_in, Rules, heard_alone, Handed, held, plan_of, SessionState, Since}
use Rattle.session_following.specs.Following.{came_before, plan_up_to, rules_after}
use Rattle.session_following.specs.Reaching.{HasAskedBefore, HasNotReached}
use Rattle.session_following.specs.Standing.{HasJustBegun}

-- What came before a session that follows, where its run stands: the events that it heard, what clients have of what the run sent, the plan of the report, by
-- these limits, up to the items taken, and the run.
abbrev pub followed_before : Limits → Handed → List LinkEvent → Path → Before
followed_before limits handed events now = came_before (events_in (heard_alone events)) (held handed.counts now.state.sends) (plan_up_to limits.base (plan_of limits.keep handed.episodes) now.state.machine.taken) now

-- its rules there
abbrev pub rules_following : Rules → Handed → List LinkEvent → Path → Rules
rules_following rules handed events now = rules_after rules (followed_before rules.limits handed events now)

-- A session follows: it heard these events, and stands as one that has just begun where its run stands, in the environment of the report up to the next item.
-- An environment is kept for one item at least. Its run stood nowhere before where it had reached what was handed over, and each event came where it asked for
-- more.
pub record IsFollowing {R : Type 0} (rules : Rules) (image : Image) (handed : Handed) (events : List LinkEvent) (now : Path) (began : Since) (phases : Phases) (session : SessionState R) : Type 0 where
  pub stands : HasJustBegun (rules_following rules handed events now) image began phases session
  pub env : session.env ≡ env_at rules.limits.base (plan_of rules.limits.keep handed.episodes) now.state.machine.taken
  pub until : session.until ≡ now.state.machine.taken + 1
  pub some_keep : 1 ≤ rules.limits.keep
  pub before : HasNotReached rules.limits (items_in rules.bounds (heard_alone events)) image handed now
  pub asked : HasAskedBefore rules image handed events
