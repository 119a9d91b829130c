-- When a run that follows has reached what the first host handed over.
use Rattle.std.specs.Prelude.{◌≡◌, ℕ, ◌<◌, take, IfSome, ◌⊎◌}
use Rattle.follow.specs.Terms.{Prefix, sent_to, State, AsksFor, Path, Served, IsFeasible}
use Rattle.follow.specs.Plans.{AreWellPlaced}
use Rattle.follow.specs.Runs.{IsLonger}
use Rattle.follow.specs.Held.{count_of, held}
use Rattle.follow.specs.Handed.{AtRequest, HasReached, IsStuck, Stand}
use Rattle.follow.specs.Takeover.{IsFollowed, IsTakeover, Takeover, heard_first, passed_first, plan_in, stopped}

-- From where the first host stopped, wherever its run can be judged, it has reached what was handed over.
abbrev pub ReachesInTime : Type 0
ReachesInTime =
    (over : Takeover) (path : Path) (stand : Stand over.limits (plan_in over) path) → IsTakeover over → Served over.limits over.items (plan_in over) (stopped over) path →
    HasReached over.limits over.handed path stand

-- A run that follows has reached it, or stands before the first host stopped, with fewer instructions done.
abbrev pub FollowsBefore : Type 0
FollowsBefore =
    (over : Takeover) (path : Path) (stand : Stand over.limits (plan_in over) path) → IsTakeover over → IsFollowed over path →
    HasReached over.limits over.handed path stand ⊎ (IsLonger over.limits over.items (plan_in over) path (stopped over) × (path.steps < (stopped over).steps))

-- So until then it asks for no item but those that the first host's run had taken.
abbrev pub NoWaiting : Type 0
NoWaiting =
    (over : Takeover) (path : Path) (asks : AsksFor over.limits (plan_in over) path path.state.machine.taken) → IsTakeover over → IsFollowed over path →
    HasReached over.limits over.handed path (AtRequest asks) ⊎ (path.state.machine.taken < (stopped over).state.machine.taken)

-- One that heard all that the first host heard, and can't go on, has reached it.
abbrev pub StuckHasReached : Type 0
StuckHasReached =
    (over : Takeover) (path : Path) (stand : Stand over.limits (plan_in over) path) → IsTakeover over → (followed : IsFollowed over path) → Prefix (heard_first over) followed.heard → IsStuck followed.heard stand →
    HasReached over.limits over.handed path stand

-- It has the answers of the record, and no other ones, as far as either goes.
abbrev pub AnswersAgree : Type 0
AnswersAgree = (over : Takeover) (path : Path) → IsTakeover over → IsFollowed over path → Prefix over.handed.choices path.choices ⊎ Prefix path.choices over.handed.choices

-- Where it did as many instructions as the record's last line says, it took as many items.
abbrev pub FinishAgrees : Type 0
FinishAgrees = (over : Takeover) (path : Path) → IsTakeover over → IsFollowed over path → IfSome over.handed.finish (λ finish. path.steps ≡ finish.steps → path.state.machine.taken ≡ finish.taken)

-- Where it has reached, what is held of its sends is what the first host passed first; and a run that is feasible with that is so by the first host's stamps.
abbrev pub HeldAtRelease : Type 0
HeldAtRelease =
    (over : Takeover) (path : Path) (stand : Stand over.limits (plan_in over) path) → IsTakeover over → IsFollowed over path → HasReached over.limits over.handed path stand →
    ((conn : ℕ) → sent_to conn (held over.handed.counts path.state.sends) ≡ take (count_of over.handed.counts conn) (sent_to conn (passed_first over)))
    × ((state : State) → IsFeasible (held over.handed.counts path.state.sends) state → IsFeasible (held over.handed.counts (passed_first over)) state)

-- Of each episode that was handed over the trial that survived is in force no later than at its failure.
abbrev pub EpisodesArePlaced : Type 0
EpisodesArePlaced = (over : Takeover) → IsTakeover over → AreWellPlaced over.handed.episodes
