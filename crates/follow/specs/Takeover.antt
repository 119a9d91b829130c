-- A second host takes over from one that was killed.
use Rattle.std.specs.Prelude.{◌≡◌, List, [], None, IfSome}
use Rattle.follow.specs.Terms.{last_or, Item, Prefix, Send, Image, Limits, Override, Path, Served, origin, IsAccount, Session, journal_of, items_in, Rules, passed_in, first_survivor, starting_path, Episode, AreRecovered, Recovery}
use Rattle.follow.specs.Plans.{AreWellPlaced, plan_of}
use Rattle.follow.specs.Runs.{AreWider}
use Rattle.follow.specs.Handed.{Handed, IsHandedBy, StandsPast}

-- Both hosts as data: the image; the first host's rules, the episodes that it was handed itself, if it followed another one, its session up to where it
-- stopped, the recoveries in it, and what it handed over; the second host's limits; and all items that either of them heard.
pub record Takeover : Type 0 where
  pub image : Image
  pub rules : Rules
  pub before : List Episode
  pub session : Session
  pub recoveries : List Recovery
  pub handed : Handed
  pub limits : Limits
  pub items : List Item

-- where the first host's run stopped
abbrev pub stopped : Takeover → Path
stopped over = over.session.survivor.now

-- the items that the first host heard, and what it passed
abbrev pub heard_first : Takeover → List Item
heard_first over = items_in over.rules.bounds (journal_of over.session)

abbrev pub passed_first : Takeover → List Send
passed_first over = passed_in over.rules.bounds (journal_of over.session)

-- the plan of the report
abbrev pub plan_in : Takeover → List Override
plan_in over = plan_of over.limits.keep over.handed.episodes

-- There is an account of the first host's session, behind these recoveries, and it handed that over; the second host's limits are as wide,
-- and the first host heard the first items. The episodes that it was handed itself tell the plan with which it began, past the last of them, and of each
-- the trial that survived is in force at its failure.
pub record IsTakeover (over : Takeover) : Type 0 where
  pub account : IsAccount over.rules over.image over.session
  pub recovered : AreRecovered over.rules over.image [] (first_survivor over.rules over.image) over.session.earlier over.recoveries over.session.survivor
  pub told : over.rules.bounds.before.plan ≡ plan_of over.rules.limits.keep over.before
  pub placed : AreWellPlaced over.before
  pub past : IfSome (last_or None over.before) (StandsPast over.rules.limits over.rules.bounds.before.plan (starting_path over.rules over.image))
  pub handed_by : IsHandedBy over.rules over.session over.before over.recoveries over.handed
  pub wide : AreWider over.rules.limits over.limits
  pub first : Prefix (heard_first over) over.items

-- A run that follows: the second host's, under the plan of the report, on the first items too.
pub record IsFollowed (over : Takeover) (path : Path) : Type 0 where
  pub heard : List Item
  pub first : Prefix heard over.items
  pub ran : Served over.limits heard (plan_in over) (origin over.image) path
