-- What a session leaves that served a trunk, or the clients of a port.
use Rattle.std.specs.Prelude.{◌≡◌, ◌≢◌, ◌⊎◌, ℕ, ◌-◌, ◌≤◌, List, length, Option, Some, slice_get}
use Rattle.run_history.specs.declared.answer.Answer.TheVariants as answer
use Rattle.session_history.specs.declared.ends.SessionBreak.TheVariants as session_break
use Rattle.trials.specs.Chains.{AreChained, AreCheckpoints}
use Rattle.recovery.specs.Watching.{TellsMore}
use Rattle.recovery.specs.Handling.{Stand}
use Rattle.routes.specs.Terms.{Stream, ComesUntold, Coming, PortEntry, PortLimits, Image, Answer, Path, SessionBreak, Stop, Session, AtBreak, answer_of, before_end, items_in, Rules, Try, Noted, Shown, Unnoted, HasRing, Keeping, HandledAt, HandlesRequests, keeping_for, AreAllTables, FailsUpTo, IsOutcome, Outcome, Telling, story_of, NotesAnswer, outcome_of, IsBegun, SessionState}
use Rattle.routes.specs.OverTrunk.{GoesOverTrunk}
use Rattle.routes.specs.OverPort.{GoesOverPort}

-- A trunk, by what its source and its sink told before and after; or the clients of a port, within these limits, by the calls that the port told.
pub data Route : Type 0 where
  Trunk : Option Stream → Option Stream → Option (List ℕ) → Option (List ℕ) → Route
  Port : PortLimits → Option (List PortEntry) → Option (List PortEntry) → Route

-- what came and went there in an account of a session
abbrev pub GoesOver : Route → Rules → Option Coming → Session → Stop → Type 0
GoesOver (Trunk source source_later sink sink_later) rules coming session why = GoesOverTrunk rules source source_later sink sink_later coming session why
GoesOver (Port limits calls calls_later) rules coming session why = (coming ≡ Some ComesUntold) × GoesOverPort limits rules calls calls_later session

-- How much is recorded of a session whose source or sink failed. These checkpoints of its survivor's run stand, those that its requests left; and of the
-- run's answers of malloc as many are recorded as the oldest of them had used, which no trial could have taken back.
pub record IsRecordedUpTo (rules : Rules) (image : Image) (keeping : Keeping) (telling : Telling) (outcome : Outcome) : Type 0 where
  pub ring : List Path
  pub chained : AreChained rules.limits (items_in rules.bounds (before_end telling.account)) telling.account.survivor.plan image telling.account.survivor.now ring
  pub checkpoints : AreCheckpoints rules.limits image ring
  pub stands : List Stand
  pub ringed : HasRing stands ring
  pub handled : HandledAt outcome.stop rules image keeping telling.account.earlier (before_end telling.account) telling.recoveries telling.account.survivor stands
  pub oldest : Path
  pub oldest_is : slice_get ring (length ring - 1) ≡ Some oldest
  pub recorded : outcome.recorded ≡ length oldest.choices

-- How much is recorded of a session whose notes failed, or whose memory ran out. Such checkpoints stand; and of the run's answers of malloc no more are
-- recorded than the oldest of them had used. All that it had used are; or a call of the notes failed that was handed just those that aren't recorded. What
-- the first failed call of the notes was handed was the first of these when the session began, and is the second now.
pub record IsRecordedLow (rules : Rules) (image : Image) (keeping : Keeping) (telling : Telling) (outcome : Outcome) (before now : Option Unnoted) : Type 0 where
  pub ring : List Path
  pub chained : AreChained rules.limits (items_in rules.bounds (before_end telling.account)) telling.account.survivor.plan image telling.account.survivor.now ring
  pub checkpoints : AreCheckpoints rules.limits image ring
  pub stands : List Stand
  pub ringed : HasRing stands ring
  pub handled : HandlesRequests rules image keeping telling.account.earlier (before_end telling.account) telling.recoveries telling.account.survivor stands
  pub oldest : Path
  pub oldest_is : slice_get ring (length ring - 1) ≡ Some oldest
  pub recorded : outcome.recorded ≤ length oldest.choices
  pub up_to : (outcome.recorded ≡ length oldest.choices) ⊎ FailsUpTo before now (length oldest.choices) outcome.recorded outcome.tail

-- so it is at each fault, and where memory ran out
abbrev pub RecordsAt : Rules → Image → Keeping → Telling → Outcome → Noted → Noted → SessionBreak → Type 0
RecordsAt rules image keeping telling outcome before now session_break.ReadFault = IsRecordedUpTo rules image keeping telling outcome
RecordsAt rules image keeping telling outcome before now session_break.WriteFault = IsRecordedUpTo rules image keeping telling outcome
RecordsAt rules image keeping telling outcome before now session_break.FileFault = IsRecordedLow rules image keeping telling outcome before.unnoted now.unnoted
RecordsAt rules image keeping telling outcome before now session_break.Memory = IsRecordedLow rules image keeping telling outcome before.unnoted now.unnoted

-- What a session leaves that served a route: its outcome, by one telling of it; how much is recorded, where it was broken off; and beside it what
-- came and went.
pub record Serves (route : Route) (rules : Rules) (keeping : Keeping) (image : Image) (outcome : Outcome) (noted_before noted_now : Noted) (counted : ℕ) : Type 0 where
  pub coming : Option Coming
  pub telling : Telling
  pub is : IsOutcome rules image keeping coming telling outcome noted_before noted_now counted
  pub recorded : AtBreak outcome.stop (RecordsAt rules image keeping telling outcome noted_before noted_now)
  pub goes : GoesOver route rules coming telling.account outcome.stop

-- A session that was watched has served so, and its watch, where it tells its tables, has told those of its recoveries more.
pub record Watches (route : Route) (rules : Rules) (keeping : Keeping) (image : Image) (outcome : Outcome) (noted_before noted_now : Noted) (counted : ℕ) (tables_before tables : Option (List (List Try))) : Type 0 where
  pub serves : Serves route rules keeping image outcome noted_before noted_now counted
  pub watched : TellsMore tables_before tables (AreAllTables rules (story_of serves.telling) serves.telling.walk outcome.stop)

-- A session that was begun has served a route, and answers so: why it stopped; what it leaves, and its watch tells; and what its notes show.
pub record HasServedOver {R : Type 0} (route : Route) (rules : Rules) (shown now : Shown) (counted : ℕ) (tables_before tables : Option (List (List Try))) (old new : SessionState R) (answered : Answer) : Type 0 where
  pub why : Stop
  pub is : answered ≡ answer_of why
  pub served : (image : Image) → IsBegun image old.options old.cpu.rule old → Watches route rules (keeping_for old.options) image (outcome_of why new) shown.told now.told counted tables_before tables
  pub notes : NotesAnswer shown now why

-- over a port the input is never refused, and no give that fails is answered
pub record NeverRefuses (answered : Answer) : Type 0 where
  pub never_refused : (kind offset : ℕ) → answered ≢ answer.InputRefused kind offset
  pub never_write_fault : answered ≢ answer.WriteFault
