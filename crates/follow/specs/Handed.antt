-- What a second host is handed, and when a run that follows has reached all that it tells.
use Rattle.std.specs.Prelude.{◌≡◌, ℕ, ◌<◌, ◌≤◌, List, ◌++◌, length, map, Option, None, IfSome, IsSome}
use Rattle.follow.specs.Terms.{last_or, Item, Prefix, sent_to, Choice, Cause, output, AsksFor, FailsBy, Limits, Override, Path, Session, journal_of, Rules, passed_in, Episode, Recovery, episode_of}
use Rattle.follow.specs.Plans.{plan_of}
use Rattle.follow.specs.Held.{count_of}

-- where a record's last line says that its run stood: how many instructions were done, and how many items taken
pub record Finish : Type 0 where
  pub steps : ℕ
  pub taken : ℕ

-- What a second host is handed: how many bytes each client has; the episodes of the report, the oldest first; the answers of the allocator that stand in
-- the record; and its last line, if it is there.
pub record Handed : Type 0 where
  pub counts : List (ℕ × ℕ)
  pub episodes : List Episode
  pub choices : List Choice
  pub finish : Option Finish

-- It is handed by a session whose survivor stands where it stopped: the episodes before it and those of its recoveries, the first of the survivor's
-- answers, and where it stands, if there is a last line; and no client has more than was passed to it.
pub record IsHandedBy (rules : Rules) (session : Session) (before : List Episode) (recoveries : List Recovery) (handed : Handed) : Type 0 where
  pub episodes : handed.episodes ≡ before ++ map episode_of recoveries
  pub choices : Prefix handed.choices session.survivor.now.choices
  pub finish : IfSome handed.finish (λ finish. (finish.steps ≡ session.survivor.now.steps) × (finish.taken ≡ session.survivor.now.state.machine.taken))
  pub counts : (conn : ℕ) → count_of handed.counts conn ≤ length (sent_to conn (passed_in rules.bounds (journal_of session)))

-- a run stands where it can be judged: at its request for an item, at its exit, or at a failure
pub data Stand (limits : Limits) (plan : List Override) (path : Path) : Type 0 where
  AtRequest : AsksFor limits plan path path.state.machine.taken → Stand limits plan path
  AtExit : IsSome path.state.ended → Stand limits plan path
  AtFailure : (cause : Cause) → FailsBy limits plan path cause → Stand limits plan path

-- There it is past the failure of an episode: it has taken as many items as the run that failed, or ended; and where it fails itself it has
-- taken more, since the survivor of that failure asked for the next item.
abbrev pub IsPastFailure : {limits : Limits} {plan : List Override} {path : Path} → Stand limits plan path → Episode → Type 0
IsPastFailure {path = path} (AtRequest asks) episode = episode.point ≤ path.state.machine.taken
IsPastFailure (AtExit ended) episode = Unit {0}
IsPastFailure {path = path} (AtFailure cause fails) episode = episode.point < path.state.machine.taken

-- a run stands past the failure of an episode
abbrev pub StandsPast : Limits → List Override → Path → Episode → Type 0
StandsPast limits plan path episode = (stand : Stand limits plan path) × IsPastFailure stand episode

-- it can't go on there, with these items: it has ended, or fails, or took them all
abbrev pub IsStuck : {limits : Limits} {plan : List Override} {path : Path} → List Item → Stand limits plan path → Type 0
IsStuck {path = path} items (AtRequest asks) = length items ≤ path.state.machine.taken
IsStuck items (AtExit ended) = Unit {0}
IsStuck items (AtFailure cause fails) = Unit {0}

-- A run that stands there has reached all that was told: it is past the last episode, had each answer of the record, stands at or behind its last line, and
-- sent what clients have.
pub record HasReached (limits : Limits) (handed : Handed) (path : Path) (stand : Stand limits (plan_of limits.keep handed.episodes) path) : Type 0 where
  pub past : IfSome (last_or None handed.episodes) (IsPastFailure stand)
  pub chose : Prefix handed.choices path.choices
  pub finished : IfSome handed.finish (λ finish. finish.steps ≤ path.steps)
  pub covers : (conn : ℕ) → count_of handed.counts conn ≤ length (output path.state conn)
