-- Where a second host is released.
use Rattle.std.specs.Prelude.{◌≡◌, List, [], ◌++◌, None, IfSome}
use Rattle.follow.specs.Terms.{last_or, Item, LinkEvent, Image, Limits, Path, Served, AreHeeded, nothing_before, Rules, IsSoundBefore, starting_path}
use Rattle.follow.specs.Plans.{plan_of}
use Rattle.follow.specs.Handed.{Handed, HasReached, Stand, StandsPast}
use Rattle.follow.specs.Following.{HasFollowed, heard_alone, rules_behind}

-- A run that has reached what was handed over has reached it wherever it stands later.
abbrev pub StaysReached : Type 0
StaysReached =
    (limits : Limits) (items : List Item) (handed : Handed) (path later : Path) (stand : Stand limits (plan_of limits.keep handed.episodes) path) (next : Stand limits (plan_of limits.keep handed.episodes) later) →
    HasReached limits handed path stand → Served limits items (plan_of limits.keep handed.episodes) path later → HasReached limits handed later next

-- Of the events of one trunk a second host takes so many before it is released, and there is one place where it is.
abbrev pub OneRelease : Type 0
OneRelease =
    (rules : Rules) (image : Image) (handed : Handed) (events more : List LinkEvent) (released other : Path) → HasFollowed rules image handed events released → HasFollowed rules image handed (events ++ more) other →
    (more ≡ []) × (released ≡ other)

-- What it followed is sound, as a part before the session behind it, where it heeded each event of that.
abbrev pub FollowedIsSound : Type 0
FollowedIsSound =
    (rules : Rules) (image : Image) (handed : Handed) (events : List LinkEvent) (released : Path) → rules.bounds.before ≡ nothing_before → AreHeeded rules.bounds (heard_alone events) →
    HasFollowed rules image handed events released → IsSoundBefore (rules_behind rules handed events released) image

-- And that session begins past the last episode that was handed over, so a third host can take over from it.
abbrev pub FollowedIsPast : Type 0
FollowedIsPast =
    (rules : Rules) (image : Image) (handed : Handed) (events : List LinkEvent) (released : Path) → HasFollowed rules image handed events released →
    IfSome (last_or None handed.episodes) (StandsPast rules.limits (rules_behind rules handed events released).bounds.before.plan (starting_path (rules_behind rules handed events released) image))
