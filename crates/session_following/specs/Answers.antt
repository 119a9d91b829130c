-- Why a session that follows isn't released: its run isn't that of the record and the report, or hasn't sent what clients have.
use Rattle.std.specs.Prelude.{◌≡◌, ◌⊎◌, ℕ, ◌<◌, ◌≤◌, List, None, Some, IfSome, length}
use Rattle.run_history.specs.Run.{output}
use Rattle.session_following.specs.Terms.{last_or, Item, Prefix, Limits, Path, Finish, Handed, HasReached, IsPastFailure, IsStuck, Stand, count_of, AreWellPlaced, plan_of, IsFollowed, IsTakeover, Takeover, heard_first}

-- A run that stands there has reached all that record and report tell: it is past the last episode, had each answer of the record, and stands at or behind its
-- last line.
pub record HasReachedFiles (limits : Limits) (handed : Handed) (path : Path) (stand : Stand limits (plan_of limits.keep handed.episodes) path) : Type 0 where
  pub past : IfSome (last_or None handed.episodes) (IsPastFailure stand)
  pub chose : Prefix handed.choices path.choices
  pub finished : IfSome handed.finish (λ finish. finish.steps ≤ path.steps)

-- it has as many instructions, and took as many items, as the record's last line says
abbrev pub IsAtFinish : Handed → Path → Finish → Type 0
IsAtFinish handed path finish = (handed.finish ≡ Some finish) × (path.steps ≡ finish.steps) × (path.state.machine.taken ≡ finish.taken)

-- where it is at or behind the record's last line, it is where that says
abbrev pub IsInPlace : Handed → Path → Type 0
IsInPlace handed path = (finish : Finish) → handed.finish ≡ Some finish → finish.steps ≤ path.steps → IsAtFinish handed path finish

-- Record and report aren't of this program and these items: the run had an answer of the allocator that isn't the record's; or it stands at or behind the record's
-- last line, and not where that says, and hasn't reached what was handed over; or it can't go on, and hasn't reached what they tell. Or the report is of no
-- session: a trial that it adopts wasn't in force at its failure.
pub data IsUnlike (limits : Limits) (items : List Item) (handed : Handed) (path : Path) : Type 0 where
  OtherAnswer : ¬ Prefix handed.choices path.choices → ¬ Prefix path.choices handed.choices → IsUnlike limits items handed path
  OtherPlace :
      (finish : Finish) (stand : Stand limits (plan_of limits.keep handed.episodes) path) → handed.finish ≡ Some finish → finish.steps ≤ path.steps → ¬ IsAtFinish handed path finish → ¬ HasReached limits handed path stand
      → IsUnlike limits items handed path
  NoPlan : ¬ AreWellPlaced handed.episodes → IsUnlike limits items handed path
  EndsEarly : (stand : Stand limits (plan_of limits.keep handed.episodes) path) → IsStuck items stand → ¬ HasReachedFiles limits handed path stand → IsUnlike limits items handed path

-- A client has more than was sent to it: the run can't go on, or stands where the record's last line says, and has reached what record and report tell. The
-- connection is the first that has more.
pub record IsShort (limits : Limits) (items : List Item) (handed : Handed) (path : Path) (conn : ℕ) : Type 0 where
  pub stand : Stand limits (plan_of limits.keep handed.episodes) path
  pub last : IsStuck items stand ⊎ ((finish : Finish) × IsAtFinish handed path finish)
  pub files : HasReachedFiles limits handed path stand
  pub more : length (output path.state conn) < count_of handed.counts conn
  pub first : (other : ℕ) → other < conn → count_of handed.counts other ≤ length (output path.state other)

-- A second host that takes over says neither, on all that the first host heard at least.
abbrev pub NeitherIsSaid : Type 0
NeitherIsSaid =
    (over : Takeover) (path : Path) → IsTakeover over → (followed : IsFollowed over path) → Prefix (heard_first over) followed.heard →
    (¬ IsUnlike over.limits followed.heard over.handed path) × ((conn : ℕ) → ¬ IsShort over.limits followed.heard over.handed path conn)

-- And where it stands and says neither, having reached what the files tell, it has reached all that was handed over, once no client has more.
abbrev pub FilesAndClients : Type 0
FilesAndClients =
    (limits : Limits) (handed : Handed) (path : Path) (stand : Stand limits (plan_of limits.keep handed.episodes) path) → HasReachedFiles limits handed path stand → ((conn : ℕ) → count_of handed.counts conn ≤ length (output path.state conn)) →
    HasReached limits handed path stand
