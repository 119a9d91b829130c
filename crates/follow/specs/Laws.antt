-- What a report tells of the run that survives.
use Rattle.std.specs.Prelude.{◌≡◌, ℕ, List, [], ◌∷◌, ◌++◌, map, None, ◌⊎◌}
use Rattle.follow.specs.Terms.{Item, Prefix, Entry, Env, Image, AsksFor, Limits, Override, Path, Served, env_at, origin, Chapter, Rules, Survivor, first_survivor, Episode, AreRecovered, Recovery, episode_of, survivor_in}
use Rattle.follow.specs.Plans.{plan_from, plan_of}
use Rattle.follow.specs.Ranges.{AreFalling, ranges_of}
use Rattle.follow.specs.Runs.{AreWider, IsLonger}

-- Behind recoveries the plan of the survivor is told by their episodes, from the plan that it had before them.
abbrev pub PlanIsTold : Type 0
PlanIsTold =
    (rules : Rules) (image : Image) (before : List Entry) (first : Survivor) (chapters : List Chapter) (recoveries : List Recovery) (now : Survivor) →
    AreRecovered rules image before first chapters recoveries now → now.plan ≡ plan_from rules.limits.keep first.plan (map episode_of recoveries)

-- So the plan of a session's survivor is that of its report: of the episodes before it, which tell the plan with which it began, and of its own.
abbrev pub PlanOfReport : Type 0
PlanOfReport =
    (rules : Rules) (image : Image) (before : List Episode) (chapters : List Chapter) (recoveries : List Recovery) (now : Survivor) → rules.bounds.before.plan ≡ plan_of rules.limits.keep before →
    AreRecovered rules image [] (first_survivor rules image) chapters recoveries now → now.plan ≡ plan_of rules.limits.keep (before ++ map episode_of recoveries)

-- An episode that no trial survived adds nothing to the plan.
abbrev pub GivenUpAddsNothing : Type 0
GivenUpAddsNothing =
    (keep : ℕ) (episodes : List Episode) (recovery : Recovery) → survivor_in recovery.trials ≡ None →
    plan_of keep (episodes ++ episode_of recovery ∷ []) ≡ plan_of keep episodes

-- As ranges the plan of a report says the same at each count of items, and each range begins before those in front of it.
abbrev pub RangesAreExact : Type 0
RangesAreExact = (base : Env) (keep : ℕ) (episodes : List Episode) (count : ℕ) → env_at base (ranges_of keep episodes) count ≡ env_at base (plan_of keep episodes) count

abbrev pub RangesFall : Type 0
RangesFall = (keep : ℕ) (episodes : List Episode) → AreFalling (ranges_of keep episodes)

-- A run is there under wider limits too, and asks for the same items.
abbrev pub ServedWider : Type 0
ServedWider =
    (limits wider : Limits) (items : List Item) (plan : List Override) (first second : Path) → AreWider limits wider → Served limits items plan first second →
    Served wider items plan first second

abbrev pub AsksWider : Type 0
AsksWider = (limits wider : Limits) (plan : List Override) (path : Path) (item : ℕ) → AreWider limits wider → AsksFor limits plan path item → AsksFor wider plan path item

-- Two hosts run one image under one plan, the second one under limits that are as wide, on items that both begin one list: one's run is the
-- other's with more instructions, under the wider limits and on all items.
abbrev pub OneRun : Type 0
OneRun =
    (limits wider : Limits) (items others all : List Item) (plan : List Override) (image : Image) (first second : Path) → AreWider limits wider → Prefix items all → Prefix others all →
    Served limits items plan (origin image) first → Served wider others plan (origin image) second →
    IsLonger wider all plan first second ⊎ IsLonger wider all plan second first
