-- The part of a second host's session in which it follows: up to the first place that has reached what was handed over.
use Rattle.std.specs.Prelude.{◌≡◌, ◌<◌, List, ◌∷◌, ◌++◌, map, Some}
use Rattle.links.specs.declared.journal.Entry.TheVariants as entry
use Rattle.follow.specs.Terms.{Entry, LinkEvent, events_in, Image, AsksFor, Path, Served, origin, items_in, received, Rules}
use Rattle.follow.specs.Plans.{plan_of}
use Rattle.follow.specs.Held.{held}
use Rattle.follow.specs.Handed.{Handed, HasReached, Stand}

-- the journal of a host that gave nothing: events alone
abbrev pub heard_alone : List LinkEvent → List Entry
heard_alone events = map (λ (event : LinkEvent). entry.Took event) events

-- with some events a run that follows asked for the item that is received next, and hadn't reached what was handed over
pub record AsksForMore (rules : Rules) (image : Image) (handed : Handed) (events : List LinkEvent) : Type 0 where
  pub path : Path
  pub ran : Served rules.limits (items_in rules.bounds (heard_alone events)) (plan_of rules.limits.keep handed.episodes) (origin image) path
  pub asks : AsksFor rules.limits (plan_of rules.limits.keep handed.episodes) path (received rules.bounds (heard_alone events))
  pub not_yet : (stand : Stand rules.limits (plan_of rules.limits.keep handed.episodes) path) → ¬ HasReached rules.limits handed path stand

-- A second host followed, and was released there: its run stands where it has reached what was handed over, and nowhere before it had. Each event was
-- taken where the run asked for more.
pub record HasFollowed (rules : Rules) (image : Image) (handed : Handed) (events : List LinkEvent) (released : Path) : Type 0 where
  pub ran : Served rules.limits (items_in rules.bounds (heard_alone events)) (plan_of rules.limits.keep handed.episodes) (origin image) released
  pub stand : Stand rules.limits (plan_of rules.limits.keep handed.episodes) released
  pub reached : HasReached rules.limits handed released stand
  pub first : (path : Path) (there : Stand rules.limits (plan_of rules.limits.keep handed.episodes) path) → Served rules.limits (items_in rules.bounds (heard_alone events)) (plan_of rules.limits.keep handed.episodes) (origin image) path → path.steps < released.steps →
      ¬ HasReached rules.limits handed path there
  pub asked : (front back : List LinkEvent) (event : LinkEvent) → events ≡ front ++ event ∷ back → AsksForMore rules image handed front

-- the rules of the session behind it: before that came the events that were followed, what clients hold of what was sent there, the plan of the report,
-- and a run up to there
abbrev pub rules_behind : Rules → Handed → List LinkEvent → Path → Rules
rules_behind rules handed events released =
    record rules { bounds = record rules.bounds { before = record { events = events_in (heard_alone events); had = held handed.counts released.state.sends; plan = plan_of rules.limits.keep handed.episodes; stood = Some released } } }
