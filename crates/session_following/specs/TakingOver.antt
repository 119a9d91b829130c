-- What a second host does that takes over from one that was killed: it follows the first host's run, giving nothing, is released and serves on; or it stops
-- before that.
use Rattle.std.specs.Prelude.{◌≡◌, ◌≢◌, ◌⊎◌, ℕ, ◌+◌, ◌<◌, ◌≤◌, List, [], ◌∷◌, ◌++◌, length, take, drop, All, AllPairs, Option, None, Some, IfSome, IsSome, Result, Ok, Err, true, false}
use Rattle.links.specs.declared.journal.LinkEvent.TheVariants.{Ends as EndOfLink}
use Rattle.counts_file.specs.Counts.{AreCounts}
use Rattle.session_history.specs.declared.ends.SessionBreak.TheVariants as session_break
use Rattle.session_history.specs.declared.ends.SessionEnd.TheVariants as session_end
use Rattle.session_history.specs.declared.ends.Stop.TheVariants as stop
use Rattle.session_history.specs.Heeding as unheeded
use Rattle.session_following.specs.Terms.{Item, LinkEvent, Coming, Grew, IsNext, Refuses, Tells, Told, Seen, Choice, IsPieceOf, Image, Answer, Path, Served, origin, Stop, StaysKnown, answer_of, Unheeded, events_of, items_in, refusal, Rules, Episode, Try, Noted, Shown, Unnoted, AsksForMore, HasFollowed, heard_alone, rules_behind, AtExit, AtFailure, AtRequest, Finish, Handed, Stand, adopted_try, plan_of, Keeping, LeavesBy, keeping_of, keeping_for, FailsAtChoices, HasWatched, LinkAnswers, NotesAnswer, outcome_of, IsBegun, SessionState, Unfollowed}
use Rattle.session_following.specs.declared.unfollowed.Unfollowed.TheVariants as unfollowed
use Rattle.session_following.specs.Answers.{EndsEarly, IsAtFinish, IsInPlace, IsShort, IsUnlike, NoPlan, OtherAnswer, OtherPlace}
use Rattle.session_following.specs.Reaching.{HasAskedBefore, HasNotReached}

-- What may be handed over: counts of clients that are in range and rise; and episodes whose points rise, of each of which a trial survived.
pub record MayBeHanded (handed : Handed) : Type 0 where
  pub counts : AreCounts handed.counts
  pub rise : AllPairs (λ (first second : Episode). first.point < second.point) handed.episodes
  pub adopted : All (λ (episode : Episode). IsSome (adopted_try episode.tries)) handed.episodes

-- A session took over and stopped so, behind its release, where its link showed this: the events that it followed, and where its run stood then. It had heard
-- those events alone then, and given nothing. From there on it served as an ordinary session before which that came, and one telling of it is told so; it leaves what
-- one leaves.
pub record TookOver {R : Type 0} (rules : Rules) (image : Image) (handed : Handed) (keeping : Keeping) (before : Told) (there seen : Seen) (shown now : Noted) (counted : ℕ) (tables_before tables : Option (List (List Try))) (new : SessionState R) (why : Stop) : Type 0 where
  pub events : List LinkEvent
  pub released : Path
  pub followed : HasFollowed rules image handed events released
  pub heard : Tells before there.told (heard_alone events)
  pub watched : HasWatched (rules_behind rules handed events released) image keeping there seen (outcome_of why new) shown now counted tables_before tables
  pub leaves : LeavesBy (rules_behind rules handed events released) image shown.unnoted now.unnoted watched.recovered.telling new why

-- the link has ended, behind these events: another one was asked for
pub record HasEndedBehind (rules : Rules) (image : Image) (handed : Handed) (coming : Option Coming) (events last : List LinkEvent) : Type 0 where
  pub ended : last ≡ EndOfLink ∷ []
  pub asked : AsksForMore rules image handed events
  pub comes : IfSome coming (λ next. IsNext next EndOfLink)

-- Where a run can't go on: at its request the link has ended. At an exit and a failure no event was asked for.
abbrev pub HasEndedThere : (rules : Rules) (image : Image) (handed : Handed) (coming : Option Coming) (events last : List LinkEvent) {path : Path} → Stand rules.limits (plan_of rules.limits.keep handed.episodes) path → Type 0
HasEndedThere rules image handed coming events last (AtRequest asks) = HasEndedBehind rules image handed coming events last
HasEndedThere rules image handed coming events last (AtExit ended) = last ≡ []
HasEndedThere rules image handed coming events last (AtFailure cause fails) = last ≡ []

-- Behind so many instructions the run isn't that of record and report: the report is of no session, which is told at the start; or an answer of the allocator came
-- behind them; or it stands there.
abbrev pub MismatchesAt : (rules : Rules) (image : Image) (handed : Handed) (coming : Option Coming) (events last : List LinkEvent) (now : Path) {items : List Item} → ℕ → IsUnlike rules.limits items handed now → Type 0
MismatchesAt rules image handed coming events last now step (NoPlan placed) = (events ≡ []) × (last ≡ []) × (step ≡ 0) × (now.steps ≡ step)
MismatchesAt rules image handed coming events last now step (OtherAnswer one other) = (last ≡ []) × (now.steps ≡ step + 1)
MismatchesAt rules image handed coming events last now step (OtherPlace finish stand is late apart never) = ((last ≡ []) ⊎ HasEndedBehind rules image handed coming events last) × (now.steps ≡ step)
MismatchesAt rules image handed coming events last now step (EndsEarly stand stuck less) = HasEndedThere rules image handed coming events last stand × (now.steps ≡ step)

-- A client has more than was sent to it: the run can't go on, or stands where the record's last line says. It isn't elsewhere than that says.
abbrev pub IsShortBy : (rules : Rules) (image : Image) (handed : Handed) (coming : Option Coming) (events last : List LinkEvent) {items : List Item} {now : Path} {conn : ℕ} → IsShort rules.limits items handed now conn → Type 0
IsShortBy rules image handed coming events last {now = now} short =
    ((last ≡ []) ⊎ HasEndedBehind rules image handed coming events last) × (HasEndedThere rules image handed coming events last short.stand ⊎ ((finish : Finish) × IsAtFinish handed now finish)) × IsInPlace handed now

-- an event was asked for behind those, and this one was refused for this cause
pub record IsRefusedBehind (rules : Rules) (image : Image) (handed : Handed) (events last : List LinkEvent) (cause : Unheeded) : Type 0 where
  pub asked : AsksForMore rules image handed events
  pub event : LinkEvent
  pub only : last ≡ event ∷ []
  pub no_end : event ≢ EndOfLink
  pub refused : refusal rules.bounds (events_of rules.bounds (heard_alone events)) event ≡ Some cause

-- an event was asked for behind those, and this one came, which isn't refused
pub record IsTakenBehind (rules : Rules) (image : Image) (handed : Handed) (events last : List LinkEvent) : Type 0 where
  pub asked : AsksForMore rules image handed events
  pub event : LinkEvent
  pub only : last ≡ event ∷ []
  pub allowed : refusal rules.bounds (events_of rules.bounds (heard_alone events)) event ≡ None

-- Why a session that followed these events wasn't released where its run stands, and what came behind them: nothing; or the end of the link; or an event that is
-- refused, or for which memory ran out. It comes to no other end, and no write fails.
abbrev pub IsUnfollowedBy : Rules → Image → Handed → Option Coming → List LinkEvent → List LinkEvent → Path → Unfollowed → Type 0
IsUnfollowedBy rules image handed coming events last now (unfollowed.Mismatch step) =
    (unlike : IsUnlike rules.limits (items_in rules.bounds (heard_alone events)) handed now) × MismatchesAt rules image handed coming events last now step unlike
IsUnfollowedBy rules image handed coming events last now (unfollowed.Short conn) =
    (short : IsShort rules.limits (items_in rules.bounds (heard_alone events)) handed now conn) × IsShortBy rules image handed coming events last short
IsUnfollowedBy rules image handed coming events last now (unfollowed.Stops (stop.Ends (session_end.InputRefused kind offset))) =
    (last ≡ []) × AsksForMore rules image handed events × IfSome coming (λ next. next ≡ Refuses kind offset)
IsUnfollowedBy rules image handed coming events last now (unfollowed.Stops (stop.Ends session_end.LimitEvents)) = IsRefusedBehind rules image handed events last unheeded.LimitEvents
IsUnfollowedBy rules image handed coming events last now (unfollowed.Stops (stop.Ends session_end.LimitItems)) = IsRefusedBehind rules image handed events last unheeded.LimitItems
IsUnfollowedBy rules image handed coming events last now (unfollowed.Stops (stop.Ends (session_end.MessageTooLong conn))) =
    (refused : IsRefusedBehind rules image handed events last unheeded.TooLong) × IsPieceOf refused.event conn
IsUnfollowedBy rules image handed coming events last now (unfollowed.Stops (stop.Ends other)) = ⊥
IsUnfollowedBy rules image handed coming events last now (unfollowed.Stops (stop.Breaks session_break.ReadFault)) = (last ≡ []) × AsksForMore rules image handed events
IsUnfollowedBy rules image handed coming events last now (unfollowed.Stops (stop.Breaks session_break.FileFault)) = last ≡ []
IsUnfollowedBy rules image handed coming events last now (unfollowed.Stops (stop.Breaks session_break.WriteFault)) = ⊥
IsUnfollowedBy rules image handed coming events last now (unfollowed.Stops (stop.Breaks session_break.Memory)) = (last ≡ []) ⊎ IsTakenBehind rules image handed events last

-- What link and notes show where a session wasn't released is what they show where one stopped; where its run was found to be another one, or short, it is as
-- at the end of the link.
abbrev pub stop_as : Unfollowed → Stop
stop_as (unfollowed.Mismatch step) = stop.Ends session_end.Finished
stop_as (unfollowed.Short conn) = stop.Ends session_end.Finished
stop_as (unfollowed.Stops why) = why

-- What calls of notes have failed where a session that follows comes to this: none; where noting failed, one that was handed some of these answers of the
-- allocator, the first ones; and where memory ran out, perhaps such a one.
abbrev pub UnnotedBy : Option Unnoted → Option Unnoted → List Choice → Result (Unit {0}) Stop → Type 0
UnnotedBy old new choices (Err (stop.Breaks session_break.FileFault)) = FailsAtChoices old new choices
UnnotedBy old new choices (Err (stop.Breaks session_break.Memory)) = (new ≡ old) ⊎ FailsAtChoices old new choices
UnnotedBy old new choices _ = new ≡ old

-- A session that followed wasn't released, as data: the events that it followed, and where its run stands, under the plan of the report. It stood nowhere before
-- where it had reached what was handed over, and each event came where it asked for more. It heard those events alone, and perhaps one more, and gave nothing; that
-- is why. Its notes have the first of the run's answers of the allocator, and no episode, and the session has the others. So many instructions were counted as the
-- run has, unless memory ran out.
pub record IsUnfollowed {R : Type 0} (rules : Rules) (image : Image) (handed : Handed) (before : Told) (seen : Seen) (shown now_shown : Noted) (counted : ℕ) (new : SessionState R) (why : Unfollowed) : Type 0 where
  pub events : List LinkEvent
  pub last : List LinkEvent
  pub now : Path
  pub ran : Served rules.limits (items_in rules.bounds (heard_alone events)) (plan_of rules.limits.keep handed.episodes) (origin image) now
  pub not_before : HasNotReached rules.limits (items_in rules.bounds (heard_alone events)) image handed now
  pub asked : HasAskedBefore rules image handed events
  pub heard : Tells before seen.told (heard_alone (events ++ last))
  pub cause : IsUnfollowedBy rules image handed seen.coming events last now why
  pub low : new.recorded ≤ length now.choices
  pub noted : Grew shown.choices now_shown.choices (take new.recorded now.choices)
  pub episodes : Grew shown.episodes now_shown.episodes []
  pub choices : new.choices ≡ drop new.recorded now.choices
  pub taken : new.taken ≡ now.state.machine.taken
  pub steps : new.steps ≡ now.steps
  pub counted_all : why ≢ unfollowed.Stops (stop.Breaks session_break.Memory) → counted ≡ now.steps

module _ {R : Type 0} where
  -- A session that was begun took over, and served on behind its release: why it stopped; what its link showed where it was released, where what comes was told
  -- still; what it followed and leaves; and what its link and its notes show.
  pub record HasTakenOver (rules : Rules) (handed : Handed) (before seen : Seen) (shown now : Shown) (counted : ℕ) (tables_before tables : Option (List (List Try))) (old new : SessionState R) (answered : Answer) : Type 0 where
    pub why : Stop
    pub is : answered ≡ answer_of why
    pub there : Seen
    pub known : StaysKnown before.coming there.coming
    pub served : (image : Image) → IsBegun image old.options old.cpu.rule old → TookOver rules image handed (keeping_for old.options) before.told there seen shown.told now.told counted tables_before tables new why
    pub keeping : keeping_of new ≡ keeping_for old.options
    pub link : LinkAnswers before seen why
    pub notes : NotesAnswer shown now why

  -- Or it wasn't released: why; and what its link and its notes show. The link gives still, since no piece was given; no event may be taken any more only where
  -- one was asked for, and not where noting failed.
  pub record HasNotTakenOver (rules : Rules) (handed : Handed) (before seen : Seen) (shown now : Shown) (counted : ℕ) (tables_before tables : Option (List (List Try))) (old new : SessionState R) (why : Unfollowed) : Type 0 where
    pub takes : why ≡ unfollowed.Stops (stop.Breaks session_break.FileFault) → seen.takes ≡ true
    pub unfollowed : (image : Image) → IsBegun image old.options old.cpu.rule old → IsUnfollowed rules image handed before.told seen shown.told now.told counted new why
    pub failed : (image : Image) (begun : IsBegun image old.options old.cpu.rule old) → seen.takes ≡ false → AsksForMore rules image handed (unfollowed image begun).events
    pub gives : seen.gives ≡ true
    pub unnoted : UnnotedBy shown.told.unnoted now.told.unnoted new.choices (Err (stop_as why))
    pub tables_same : tables ≡ tables_before
    pub link : LinkAnswers before seen (stop_as why)
    pub notes : NotesAnswer shown now (stop_as why)

  -- what a session that takes over comes to
  abbrev pub TakesOver : Rules → Handed → Seen → Seen → Shown → Shown → ℕ → Option (List (List Try)) → Option (List (List Try)) → SessionState R → SessionState R → Result Answer Unfollowed → Type 0
  TakesOver rules handed before seen shown now counted tables_before tables old new (Ok answered) = HasTakenOver rules handed before seen shown now counted tables_before tables old new answered
  TakesOver rules handed before seen shown now counted tables_before tables old new (Err why) = HasNotTakenOver rules handed before seen shown now counted tables_before tables old new why
