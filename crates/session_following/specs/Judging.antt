-- What is said of a run that follows, where it stands.
use Rattle.std.specs.Prelude.{◌≡◌, ◌≢◌, ◌⊎◌, ℕ, ◌<◌, ◌≤◌, Bool, true, false, List, length, Option, None, Some, IfSome}
use Rattle.session_following.specs.Terms.{last_or, Item, Prefix, Choice, Limits, Override, Path, Episode, AtExit, AtFailure, AtRequest, Handed, HasReached, IsStuck, Stand, plan_of, HandedOver, Place}
use Rattle.session_following.specs.declared.judging.Judged.{Judged}
use Rattle.session_following.specs.declared.judging.Judged.TheVariants.{GoesOn, Reached, Short, Unlike}
use Rattle.session_following.specs.declared.judging.StandKind.{StandKind}
use Rattle.session_following.specs.declared.judging.StandKind.TheVariants.{Exit, Failure, Request}
use Rattle.session_following.specs.Answers.{IsInPlace, IsShort, IsUnlike}
use Rattle.session_following.specs.Missing.{IsMissing}

-- the answers of a run and those of the record are the same, as far as both go
abbrev pub Agree : List Choice → List Choice → Type 0
Agree record_has choices = Prefix record_has choices ⊎ Prefix choices record_has

-- they differ at a place that both have
abbrev pub IsOther : List Choice → List Choice → Type 0
IsOther record_has choices = (¬ Prefix record_has choices) × (¬ Prefix choices record_has)

-- how a run stands
abbrev pub kind_of : {limits : Limits} {plan : List Override} {path : Path} → Stand limits plan path → StandKind
kind_of (AtRequest asks) = Request
kind_of (AtExit ended) = Exit
kind_of (AtFailure cause fails) = Failure

-- What is known where a run is judged: how it stands there, how many items it took, how many instructions and answers of the allocator it has; what clients lack
-- of what it sent; that its answers are the record's so far; and, where it is said to be stuck, as it is at an exit and at a failure, that it can't go on.
pub record IsJudgedAt (limits : Limits) (items : List Item) (handed : Handed) (path : Path) (stand : Stand limits (plan_of limits.keep handed.episodes) path) (missing : List ℕ) (kind : StandKind) (taken steps chosen : ℕ) (stuck : Bool) : Type 0 where
  pub kind_is : kind_of stand ≡ kind
  pub taken_are : path.state.machine.taken ≡ taken
  pub steps_are : path.steps ≡ steps
  pub chosen_are : length path.choices ≡ chosen
  pub missing_are : IsMissing handed.counts path.state.sends missing
  pub agree : Agree handed.choices path.choices
  pub is_stuck : stuck ≡ true → IsStuck items stand
  pub at_end : kind ≢ Request → stuck ≡ true

-- It may yet reach it: it hasn't, however it stands there; it can go on; and where it is at or behind the record's last line, it is where that says.
pub record MayReach (limits : Limits) (handed : Handed) (path : Path) (stuck : Bool) : Type 0 where
  pub not_yet : (stand : Stand limits (plan_of limits.keep handed.episodes) path) → ¬ HasReached limits handed path stand
  pub goes_on : stuck ≡ false
  pub place : IsInPlace handed path

-- What each answer says. A client is said to have more only where the run isn't elsewhere than the record's last line says.
abbrev pub IsJudged : (limits : Limits) (items : List Item) (handed : Handed) (path : Path) → Stand limits (plan_of limits.keep handed.episodes) path → Bool → Judged → Type 0
IsJudged limits items handed path stand stuck GoesOn = MayReach limits handed path stuck
IsJudged limits items handed path stand stuck Reached = HasReached limits handed path stand
IsJudged limits items handed path stand stuck Unlike = IsUnlike limits items handed path
IsJudged limits items handed path stand stuck (Short conn) = IsShort limits items handed path conn × IsInPlace handed path

-- Below: what the parts of the code answer. Nothing of it is promised to callers of the crate.

-- a run that stands so, with so many items taken, is past the failure of an episode
abbrev pub IsPastAs : StandKind → ℕ → Episode → Type 0
IsPastAs Request taken episode = episode.point ≤ taken
IsPastAs Exit taken episode = Unit {0}
IsPastAs Failure taken episode = episode.point < taken

-- it stands at the record's last line or behind it, if there is one
abbrev pub IsBehind : Option Place → ℕ → Type 0
IsBehind None steps = Unit {0}
IsBehind (Some place) steps = place.steps ≤ steps

-- it stands where that says
abbrev pub IsThere : Option Place → ℕ → ℕ → Type 0
IsThere None taken steps = ⊥
IsThere (Some place) taken steps = (steps ≡ place.steps) × (taken ≡ place.taken)

-- it stands there or behind, and not where that says
abbrev pub IsElsewhere : Option Place → ℕ → ℕ → Type 0
IsElsewhere None taken steps = ⊥
IsElsewhere (Some place) taken steps = (place.steps ≤ steps) × ¬ ((steps ≡ place.steps) × (taken ≡ place.taken))

-- it has reached what record and report tell, where its answers are the record's so far
pub record HasFiles (handed : HandedOver) (kind : StandKind) (taken steps chosen : ℕ) : Type 0 where
  pub past : IfSome (last_or None handed.episodes.now) (IsPastAs kind taken)
  pub chose : length handed.choices.now ≤ chosen
  pub finished : IsBehind handed.finish steps
