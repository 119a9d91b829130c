-- Where a session stands that follows, between two events of its guest.
use Rattle.std.specs.Prelude.{◌≡◌, ◌≢◌, ◌<◌, ◌^◌, ℕ, List, [], All, Bool, true, false, Option, None, Some, IsSome, Result, Ok, Err, IfOk}
use Rattle.session_history.specs.declared.ends.SessionEnd.TheVariants as session_end
use Rattle.session_history.specs.declared.ends.Stop.TheVariants as stop
use Rattle.session_following.specs.Terms.{LinkEvent, Grew, Tells, Told, Seen, Image, Answer, Cause, AsksFor, FailsBy, Path, Event, live_of, with_live, RunsWriting, Stop, answer_of, items_in, nothing_before, Rules, Episode, Try, Noted, Shown, HasFollowed, heard_alone, rules_behind, Handed, HasReached, Stand, AreWellPlaced, adopted_try, plan_of, IsTrimmed, keeping_of, IsCounted, LinkAnswers, LinkServes, MayServe, NotesAnswer, NotesServe, SessionState, EndsWithin, IsEnding, Since, told_since, Unfollowed}
use Rattle.session_following.specs.declared.turned.Turned.{Turned}
use Rattle.session_following.specs.declared.turned.Turned.TheVariants as turned
use Rattle.session_following.specs.Followed.{IsFollowing, rules_following}
use Rattle.session_following.specs.Following.{plan_up_to}
use Rattle.session_following.specs.declared.judging.StandKind.TheVariants as kind
use Rattle.session_following.specs.Judging.{Agree, kind_of}
use Rattle.session_following.specs.Missing.{IsMissing}
use Rattle.session_following.specs.Reaching.{IsNotReached}
use Rattle.session_following.specs.Standing.{HasJustBegun}
use Rattle.session_following.specs.TakingOver.{IsUnfollowed, TookOver, UnnotedBy, stop_as}

-- what a release asks for: of each episode of a report a trial survived, in force no later than at its failure
pub record CanRelease (handed : Handed) : Type 0 where
  pub adopted : All (λ (episode : Episode). IsSome (adopted_try episode.tries)) handed.episodes
  pub placed : AreWellPlaced handed.episodes

-- Something told since, of which all is told, and nothing was: what a method of an ordinary session makes of one that follows is told so.
abbrev pub nothing_told : Told
nothing_told = record { events = None; pieces = None; journal = Some [] }

abbrev pub marked : Noted → Noted → Since
marked before now = told_since nothing_told before now (Some []) (Some []) 0

-- the rules of a session by which so many items more have to be taken before a reply is passed
abbrev pub holding : Rules → ℕ → Rules
holding rules hold = record rules { hold = hold }

-- as many that a session that follows passes none: it may receive fewer items
abbrev pub held_back : Rules → Rules
held_back rules = holding rules 4294967295

-- A session follows, as data, by what it allows now: the events that it heard since it began, before which nothing came, and nothing was given; where its run
-- stands, whose answers of the allocator are the record's so far; what clients lack of what it sent; and its notes have no episode more.
pub record Follows {R : Type 0} (rules here : Rules) (image : Image) (handed : Handed) (before : Told) (seen : Seen) (noted_before noted : Noted) (missing : List ℕ) (session : SessionState R) : Type 0 where
  pub alone : rules.bounds.before ≡ nothing_before
  pub hold_is : rules.hold ≡ session.options.hold
  pub events : List LinkEvent
  pub now : Path
  pub follows : IsFollowing (held_back rules) image handed events now (marked noted_before noted) seen.phases session
  pub here_is : here ≡ rules_following (held_back rules) handed events now
  pub heard : Tells before seen.told (heard_alone events)
  pub episodes : Grew noted_before.episodes noted.episodes []
  pub agree : Agree handed.choices now.choices
  pub missing_are : IsMissing handed.counts now.state.sends missing

-- Its guest ran from where the session stood between two events to this event, and its flags of pages say which ones it wrote on the way.
pub record HasRunOn {R : Type 0} (rules here : Rules) (image : Image) (handed : Handed) (before : Told) (seen : Seen) (noted_before noted : Noted) (missing : List ℕ) (happened : Event) (session : SessionState R) : Type 0 where
  pub was : SessionState R
  pub stood : Follows rules here image handed before seen noted_before noted missing was
  pub same : session ≡ record was { cpu = session.cpu }
  pub cpu : session.cpu ≡ with_live (live_of session.cpu) was.cpu
  pub runs : RunsWriting rules.limits (items_in (rules_following (held_back rules) handed stood.events stood.now).bounds []) (plan_up_to rules.limits.base (plan_of rules.limits.keep handed.episodes) stood.now.state.machine.taken) was.cpu.base stood.now was.cpu.written (Ok happened) (live_of session.cpu)

-- It stands at its request for the next item.
pub record AsksOn {R : Type 0} (rules here : Rules) (image : Image) (handed : Handed) (before : Told) (seen : Seen) (noted_before noted : Noted) (missing : List ℕ) (session : SessionState R) : Type 0 where
  pub stands : Follows rules here image handed before seen noted_before noted missing session
  pub asks : AsksFor rules.limits (plan_up_to rules.limits.base (plan_of rules.limits.keep handed.episodes) stands.now.state.machine.taken) stands.now stands.now.state.machine.taken

-- And it hasn't reached what was handed over: so it waits for the item.
pub record WaitsOn {R : Type 0} (rules here : Rules) (image : Image) (handed : Handed) (before : Told) (seen : Seen) (noted_before noted : Noted) (missing : List ℕ) (session : SessionState R) : Type 0 where
  pub asking : AsksOn rules here image handed before seen noted_before noted missing session
  pub not_yet : IsNotReached rules.limits handed asking.stands.now

-- It fails at its next instruction.
pub record FailsOn {R : Type 0} (rules here : Rules) (image : Image) (handed : Handed) (before : Told) (seen : Seen) (noted_before noted : Noted) (missing : List ℕ) (session : SessionState R) : Type 0 where
  pub stands : Follows rules here image handed before seen noted_before noted missing session
  pub cause : Cause
  pub fails : FailsBy rules.limits (plan_up_to rules.limits.base (plan_of rules.limits.keep handed.episodes) stands.now.state.machine.taken) stands.now cause

-- A session is released: what it followed is a part before an ordinary session that has just begun there, past the failure behind which its environment was
-- adopted, or there.
pub record IsReleased {R : Type 0} (rules here : Rules) (image : Image) (handed : Handed) (before : Told) (seen : Seen) (noted_before noted : Noted) (session : SessionState R) : Type 0 where
  pub events : List LinkEvent
  pub released : Path
  pub followed : HasFollowed rules image handed events released
  pub heard : Tells before seen.told (heard_alone events)
  pub episodes : Grew noted_before.episodes noted.episodes []
  pub here_is : here ≡ rules_behind rules handed events released
  pub begun : HasJustBegun (rules_behind rules handed events released) image (marked noted_before noted) seen.phases session
  pub past : EndsWithin rules.limits session.until released

-- It is released where its guest ended itself, whatever tables its watch told.
pub record IsReleasedAtExit {R : Type 0} (rules here : Rules) (image : Image) (handed : Handed) (before : Told) (seen : Seen) (noted_before noted : Noted) (code : ℕ) (session : SessionState R) : Type 0 where
  pub events : List LinkEvent
  pub released : Path
  pub followed : HasFollowed rules image handed events released
  pub heard : Tells before seen.told (heard_alone events)
  pub here_is : here ≡ rules_behind rules handed events released
  pub ends : (tables : Option (List (List Try))) → IsEnding (rules_behind rules handed events released) image (told_since seen.told noted_before noted tables tables 0) seen session (session_end.Exited code)

-- what a turn comes to: the session follows still; or it is released; or it wasn't
abbrev pub TurnsTo : {R : Type 0} → Rules → Rules → Image → Handed → Told → Seen → Noted → Noted → List ℕ → SessionState R → Result Turned Unfollowed → Type 0
TurnsTo rules here image handed before seen noted_before noted missing session (Ok turned.GoesOn) = Follows rules here image handed before seen noted_before noted missing session
TurnsTo rules here image handed before seen noted_before noted missing session (Ok turned.Released) = IsReleased rules here image handed before seen noted_before noted session
TurnsTo rules here image handed before seen noted_before noted missing session (Ok (turned.Exits code)) = IsReleasedAtExit rules here image handed before seen noted_before noted code session
TurnsTo rules here image handed before seen noted_before noted missing session (Err why) = IsUnfollowed rules image handed before seen noted_before noted session.cpu.slots.live.steps session why

-- a part of a session that follows, as one of an ordinary session
abbrev pub turn_as : Result Turned Unfollowed → Result (Unit {0}) Stop
turn_as (Ok turned) = Ok tt
turn_as (Err why) = Err (stop_as why)

-- the end of the link stops an ordinary session
abbrev pub heard_as : Result Bool Stop → Result (Unit {0}) Stop
heard_as (Ok true) = Ok tt
heard_as (Ok false) = Err (stop.Ends session_end.Finished)
heard_as (Err why) = Err why

-- what holds where it follows still
abbrev pub IfFollows : Result Turned Unfollowed → Type 0 → Type 0
IfFollows (Ok turned.GoesOn) P = P
IfFollows _ P = Unit {0}

module _ {R : Type 0} where
  -- It follows so, for some rules, some image and some time since, and its link may be heard; of each episode of the report a trial survived, in force no later
  -- than at its failure.
  pub record StandsFollowing (here : Rules) (handed : Handed) (seen : Seen) (missing : List ℕ) (session : SessionState R) : Type 0 where
    pub rules : Rules
    pub image : Image
    pub before : Told
    pub noted_before : Noted
    pub noted : Noted
    pub is : Follows rules here image handed before seen noted_before noted missing session
    pub may : MayServe seen session.replies
    pub can : CanRelease handed

  -- its guest ran so
  pub record StandsRun (here : Rules) (handed : Handed) (missing : List ℕ) (happened : Event) (session : SessionState R) : Type 0 where
    pub rules : Rules
    pub image : Image
    pub before : Told
    pub seen : Seen
    pub noted_before : Noted
    pub noted : Noted
    pub is : HasRunOn rules here image handed before seen noted_before noted missing happened session

  -- What a turn leaves of a session that follows: it allows the same, and keeps as many checkpoints; all is given up and recorded that no trial needs; its counts
  -- are those of its guest; and where it follows still, more instructions were done.
  pub record KeepsTurning (before seen : Seen) (shown now : Shown) (old new : SessionState R) (result : Result Turned Unfollowed) : Type 0 where
    pub link : LinkServes before seen new.replies (turn_as result)
    pub notes : NotesServe shown now (turn_as result)
    pub unnoted : UnnotedBy shown.told.unnoted now.told.unnoted new.choices (turn_as result)
    pub options : new.options ≡ old.options
    pub rule : new.cpu.rule ≡ old.cpu.rule
    pub keeping : keeping_of new ≡ keeping_of old
    pub trimmed : IsTrimmed old → IfOk result (λ _. IsTrimmed new)
    pub marked : IfOk result (λ _. IsCounted new)
    pub later : IfFollows result (old.cpu.slots.live.steps < new.cpu.slots.live.steps)

-- Its run stands where it has reached what was handed over, at its request or at a failure.
pub record HasReachedOn {R : Type 0} (rules here : Rules) (image : Image) (handed : Handed) (before : Told) (seen : Seen) (noted_before noted : Noted) (missing : List ℕ) (session : SessionState R) : Type 0 where
  pub stands : Follows rules here image handed before seen noted_before noted missing session
  pub stand : Stand rules.limits (plan_of rules.limits.keep handed.episodes) stands.now
  pub lives : kind_of stand ≢ kind.Exit
  pub reached : HasReached rules.limits handed stands.now stand

module _ {R : Type 0} where
  pub record StandsReached (here : Rules) (handed : Handed) (session : SessionState R) : Type 0 where
    pub rules : Rules
    pub image : Image
    pub before : Told
    pub seen : Seen
    pub noted_before : Noted
    pub noted : Noted
    pub missing : List ℕ
    pub is : HasReachedOn rules here image handed before seen noted_before noted missing session
    pub can : CanRelease handed
    pub few : session.taken < 2 ^ 63

  pub record StandsFailingOn (here : Rules) (handed : Handed) (missing : List ℕ) (session : SessionState R) : Type 0 where
    pub rules : Rules
    pub image : Image
    pub before : Told
    pub seen : Seen
    pub noted_before : Noted
    pub noted : Noted
    pub is : FailsOn rules here image handed before seen noted_before noted missing session
    pub can : CanRelease handed

module _ {R : Type 0} where
  -- A session is released so, for some rules and some image, since some time, and its link may be served on.
  pub record StandsReleased (here : Rules) (seen : Seen) (noted : Noted) (session : SessionState R) : Type 0 where
    pub rules : Rules
    pub image : Image
    pub handed : Handed
    pub before : Told
    pub noted_before : Noted
    pub is : IsReleased rules here image handed before seen noted_before noted session
    pub may : MayServe seen session.replies
    pub trimmed : IsTrimmed session

  -- A session that was released so has served on, and answers so: so many instructions were counted with those before.
  pub record HasServedReleased (here : Rules) (before seen : Seen) (shown now : Shown) (counted : ℕ) (tables_before tables : Option (List (List Try))) (old new : SessionState R) (answered : Answer) : Type 0 where
    pub why : Stop
    pub is : answered ≡ answer_of why
    pub served : (rules : Rules) (image : Image) (handed : Handed) (told : Told) (noted_before : Noted) → IsReleased rules here image handed told before noted_before shown.told old
        → TookOver rules image handed (keeping_of old) told before seen noted_before now.told counted tables_before tables new why
    pub keeping : keeping_of new ≡ keeping_of old
    pub link : LinkAnswers before seen why
    pub notes : NotesAnswer shown now why
