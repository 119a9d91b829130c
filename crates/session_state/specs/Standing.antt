-- Where a session stands between two events of its guest.
use Rattle.std.specs.Prelude.{◌≡◌, ◌≢◌, ◌⊎◌, ℕ, ◌+◌, ◌<◌, ◌≤◌, List, [], ◌++◌, length, map, take, drop, true, Option, None, Some, IfSome}
use Rattle.session_history.specs.declared.ends.SessionBreak.TheVariants as session_break
use Rattle.session_history.specs.declared.ends.Stop.TheVariants as stop
use Rattle.item_log.specs.Log as logs
use Rattle.session_state.specs.Terms.{Send, Entry, Grew, Phases, Tells, Told, Seen, Choice, Ledger, Image, Cause, may_send, AsksFor, FailsBy, Limits, Path, Served, IsBounded, standing_of, SessionBreak, SessionEnd, journal_of, HandedLast, IsWaiting, StandsAt, before_end, AreHeeded, events_of, heeded, items_in, received, KeepsItems, KeepsPhases, KeepsReplies, Rules, is_closing, is_open, opens, IsDueBy, IsPassed, Latest, Moment, OwesNothing, Stands, journal, latest, place_at, received_before, Serving, first_survivor, moment_of, starting_path, Episode, Try, Noted, OneEpisode, failed_with, AreRecovered, episode_of, HasHandled, Keeping, stands_of, AreBehind, IsInForce, KeepsRing, steps_of, TellsMore}
pub use Rattle.session_state.specs.Recovered.{Story, entries}
use Rattle.session_state.specs.Recovered.{Unanswered, IsUnanswered, steps_unanswered, Walk, Telling, story_of, trials_of, last_of, episodes_of, spent, HasGivenUp, GivesUpBy, IsTelling, HasNoted, HasNothingBehind, AreTables, AreAllTables}
use Rattle.session_state.specs.Leaving.{HoldsCheckpoints, UnlessGaveUp, IsAtRequest, IsReadFault, HandlesRequests, keeping_of}
use Rattle.session_state.specs.Sessions.{SessionState}

abbrev pub moment : Story → Moment
moment story = moment_of story.earlier story.since story.survivor.now.state.machine.taken

abbrev pub sends : Story → List Send
sends story = story.survivor.now.state.sends

-- the story with more entries
abbrev pub then_story : Story → List Entry → Story
then_story story more = record story { since = story.since ++ more }

-- Since when a session is told: what its link, its notes and its watch had told when it began, what the notes and the watch tell now, and how
-- many instructions were counted that aren't of the survivor's run, which is counted from its start.
pub record Since : Type 0 where
  pub told : Told
  pub noted_before : Noted
  pub noted : Noted
  pub tables_before : Option (List (List Try))
  pub tables : Option (List (List Try))
  pub lost : ℕ

abbrev pub told_since : Told → Noted → Noted → Option (List (List Try)) → Option (List (List Try)) → ℕ → Since
told_since told noted_before noted tables_before tables lost = record { told = told; noted_before = noted_before; noted = noted; tables_before = tables_before; tables = tables; lost = lost }

-- where nobody watches no table is told
abbrev pub unwatched : Since → Since
unwatched began = record began { tables_before = None; tables = None }

-- notes tell these answers of the allocator and these episodes more, and no call of them failed
pub record HasNotedMore (before now : Noted) (choices : List Choice) (episodes : List Episode) : Type 0 where
  pub choices_more : Grew before.choices now.choices choices
  pub episodes_more : Grew before.episodes now.episodes episodes
  pub unnoted_same : now.unnoted ≡ before.unnoted

-- notes tell the same answers of the allocator and the same episodes, and that a call failed that was handed this episode
pub record HasMissed (before now : Noted) (episode : Episode) : Type 0 where
  pub choices_same : now.choices ≡ before.choices
  pub episodes_same : now.episodes ≡ before.episodes
  pub handed : now.unnoted ≡ failed_with before.unnoted (OneEpisode episode)

-- it is told by one account, by what the link told since the session began, by its notes, which have an episode of each recovery, and by its
-- watch, which has a table of each
pub record IsTold (rules : Rules) (image : Image) (began : Since) (now : Told) (story : Story) : Type 0 where
  pub serving : Serving rules image story.earlier story.survivor story.since
  pub way : Served rules.limits (items_in rules.bounds (entries story)) story.survivor.plan story.survivor.begun story.survivor.now
  pub tells : Tells began.told now (entries story)
  pub counted : (starting_path rules image).steps + spent story.recoveries ≡ began.lost + story.survivor.begun.steps
  pub recovered : AreRecovered rules image [] (first_survivor rules image) story.earlier story.recoveries story.survivor
  pub episodes : Grew began.noted_before.episodes began.noted.episodes (map episode_of story.recoveries)
  pub tables : TellsMore began.tables_before began.tables (AreTables rules [] story.earlier story.recoveries)

-- What memory broke off of a session, as a part of so many instructions that aren't of the survivor's run.
pub record HasUnanswered (rules : Rules) (image : Image) (keeping : Keeping) (telling : Telling) (lost : ℕ) : Type 0 where
  pub rest : Unanswered
  pub is : IsUnanswered rules image keeping (story_of telling) rest
  pub counted : (starting_path rules image).steps + spent telling.recoveries + steps_of (trials_of telling.walk) + steps_unanswered telling.account.survivor rest ≡ lost + telling.account.survivor.begun.steps

module _ {R : Type 0} where
  -- a session answers for the survivor's run: of its answers of the allocator the first ones are noted, and it has the others; no call of its notes failed
  pub record AnswersFor (began : Since) (story : Story) (session : SessionState R) : Type 0 where
    pub low : session.recorded ≤ length story.survivor.now.choices
    pub recorded : Grew began.noted_before.choices began.noted.choices (take session.recorded story.survivor.now.choices)
    pub choices : session.choices ≡ drop session.recorded story.survivor.now.choices
    pub unnoted : began.noted.unnoted ≡ began.noted_before.unnoted
    pub taken : session.taken ≡ story.survivor.now.state.machine.taken
    pub steps : session.steps ≡ story.survivor.now.steps

  -- its guest is the survivor, its log has the items of the journal, and it knows the link's phases
  pub record GoesWith (rules : Rules) (story : Story) (session : SessionState R) (phases : Phases) : Type 0 where
    pub lives : story.survivor.now.state.ended ≡ None
    pub guest : session.cpu.slots.live ≡ standing_of story.survivor.now
    pub bounded : IsBounded rules.limits.budget story.survivor.now
    pub few : story.survivor.now.state.machine.taken ≤ rules.bounds.max_items
    pub within : (conn : ℕ) → may_send story.survivor.now.state.machine conn ≡ true → opens conn (heeded rules.bounds (events_of rules.bounds (entries story))) ≡ true
    pub items : KeepsItems rules.bounds (entries story) session.log
    pub events : session.events ≡ length (events_of rules.bounds (entries story))
    pub phases_are : KeepsPhases rules.bounds (entries story) phases

  -- it has the survivor's checkpoints, those that its requests left, before which all answers of the allocator were used that are noted, and the environment in which the survivor runs
  pub record KeepsCheckpoints (rules : Rules) (image : Image) (story : Story) (session : SessionState R) : Type 0 where
    pub paths : List Path
    pub ring : KeepsRing rules image (entries story) story.survivor.plan story.survivor.now paths session.cpu session.log session.replies
    pub early : AreBehind session.recorded paths
    pub requests : HandlesRequests rules image (keeping_of session) story.earlier (entries story) story.recoveries story.survivor (stands_of session.cpu.slots.saved)
    pub in_force : IsInForce rules.limits.base story.survivor.plan story.survivor.now.state.machine.taken session.env session.until

-- A run is past the failure behind which an environment was adopted that ends at this number of items; or stands there, at its request.
abbrev pub EndsWithin : Limits → ℕ → Path → Type 0
EndsWithin limits until now = (until < now.state.machine.taken + limits.keep) ⊎ ((until ≡ now.state.machine.taken + limits.keep) × AsksFor limits [] now now.state.machine.taken)

-- what the latest event makes owed was passed
abbrev pub IsLatestDone : Rules → Moment → List Send → Type 0
IsLatestDone rules moment sends =
    (send : Send) (stands : Stands sends send) → IsDueBy rules.bounds (place_at moment) send.conn send.taken (latest moment.since) → IsPassed rules.bounds (journal moment) sends send stands

-- fewer items than this number were received before the latest event
abbrev pub IsLatestBefore : Rules → Moment → ℕ → Type 0
IsLatestBefore rules moment number = (last : Latest) → latest moment.since ≡ Some last → received_before rules.bounds (place_at moment) last < number

-- what is due with the items that the survivor has taken was passed
abbrev pub HasPassedDue : Rules → Story → Type 0
HasPassedDue rules story =
    (send : Send) (stands : Stands (sends story) send) → is_open rules.bounds (entries story) send.conn ≡ true → send.taken + rules.hold ≤ story.survivor.now.state.machine.taken → IsPassed rules.bounds (entries story) (sends story) send stands

-- what the close of a connection, the latest event, makes owed was passed
abbrev pub IsCloseDone : Rules → Moment → List Send → Type 0
IsCloseDone rules moment sends =
    (send : Send) (stands : Stands sends send) → is_closing rules.bounds moment send.conn ≡ true → IsDueBy rules.bounds (place_at moment) send.conn send.taken (latest moment.since) → IsPassed rules.bounds (journal moment) sends send stands

-- the ledger of a session beside its story: it has the survivor's sends, and what was due is passed
pub record HasPassed (rules : Rules) (story : Story) (ledger : Ledger) : Type 0 where
  pub replies : KeepsReplies rules.bounds (entries story) None (sends story) ledger
  pub no_trial : ledger.trial ≡ None
  pub done : IsLatestDone rules (moment story) (sends story)

-- its guest waits for the item that is received next, it owes nothing, and no event was refused: so an event is asked for
abbrev pub IsAsking : Rules → Story → Type 0
IsAsking rules story = IsWaiting rules (entries story) story.survivor × OwesNothing rules.bounds rules.hold (moment story) (sends story) × AreHeeded rules.bounds (entries story)

module _ {R : Type 0} where
  -- a session that goes on, of which what is due may still have to be passed
  pub record IsGoing (rules : Rules) (image : Image) (began : Since) (seen : Seen) (session : SessionState R) : Type 0 where
    pub story : Story
    pub told : IsTold rules image began seen.told story
    pub answers : AnswersFor began story session
    pub goes : GoesWith rules story session seen.phases
    pub saved : KeepsCheckpoints rules image story session
    pub past : EndsWithin rules.limits session.until story.survivor.now
    pub passed : HasPassed rules story session.replies
    pub latest : IsLatestBefore rules (moment story) story.survivor.now.state.machine.taken

  -- between two events of the guest: what is due was passed
  pub record IsBetween (rules : Rules) (image : Image) (began : Since) (seen : Seen) (session : SessionState R) : Type 0 where
    pub going : IsGoing rules image began seen session
    pub due : HasPassedDue rules going.story

  -- where the guest waits for an item, of which what is due may still have to be passed
  pub record IsHearing (rules : Rules) (image : Image) (began : Since) (seen : Seen) (session : SessionState R) : Type 0 where
    pub story : Story
    pub told : IsTold rules image began seen.told story
    pub answers : AnswersFor began story session
    pub goes : GoesWith rules story session seen.phases
    pub saved : KeepsCheckpoints rules image story session
    pub past : EndsWithin rules.limits session.until story.survivor.now
    pub passed : HasPassed rules story session.replies
    pub asks : AsksFor rules.limits story.survivor.plan story.survivor.now story.survivor.now.state.machine.taken
    pub latest : IsLatestBefore rules (moment story) (story.survivor.now.state.machine.taken + 1)

  -- where it waits for an item, and what is due was passed
  pub record IsWaitingFor (rules : Rules) (image : Image) (began : Since) (seen : Seen) (session : SessionState R) : Type 0 where
    pub hearing : IsHearing rules image began seen session
    pub due : HasPassedDue rules hearing.story

  -- where its guest fails at its next instruction, and what is due was passed
  pub record IsFailing (rules : Rules) (image : Image) (began : Since) (seen : Seen) (cause : Cause) (session : SessionState R) : Type 0 where
    pub going : IsGoing rules image began seen session
    pub due : HasPassedDue rules going.story
    pub fails : FailsBy rules.limits going.story.survivor.plan going.story.survivor.now cause

  -- at one of its ends, before what is left is passed
  pub record IsEnding (rules : Rules) (image : Image) (began : Since) (seen : Seen) (session : SessionState R) (end : SessionEnd) : Type 0 where
    pub story : Story
    pub walk : Option Walk
    pub lost : ℕ
    pub lost_is : began.lost ≡ lost + steps_of (trials_of walk)
    pub noted : Noted
    pub last_noted : HasNotedMore noted began.noted [] (last_of story.survivor walk)
    pub told : IsTold rules image (unwatched (record began { lost = lost; noted = noted })) seen.told story
    pub tables : TellsMore began.tables_before began.tables (AreAllTables rules story walk (stop.Ends end))
    pub answers : AnswersFor (record began { lost = lost; noted = noted }) story session
    pub received_are : logs.received session.log ≡ received rules.bounds (entries story)
    pub replies : KeepsReplies rules.bounds (entries story) None (sends story) session.replies
    pub no_trial : session.replies.trial ≡ None
    pub closed : IsCloseDone rules (moment story) (sends story)
    pub holds : HoldsCheckpoints rules image story.earlier (entries story) story.recoveries story.survivor session
    pub handled : IsAtRequest end → HasHandled rules image (keeping_of session) story.earlier (entries story) story.recoveries story.survivor (story.survivor.now.state.machine.taken + 1) (stands_of session.cpu.slots.saved)
    pub live : UnlessGaveUp end (session.cpu.slots.live ≡ standing_of story.survivor.now)
    pub stands : StandsAt rules (entries story) seen.coming story.survivor end
    pub walked : IfSome walk (HasGivenUp rules image (keeping_of session) story)
    pub gave_up : GivesUpBy walk end

  -- a session that was broken off, by no end of its own: its checkpoints stand, whatever broke it off
  pub record IsBrokenOff (rules : Rules) (image : Image) (began : Since) (seen : Seen) (session : SessionState R) (why : SessionBreak) : Type 0 where
    pub telling : Telling
    pub is : IsTelling rules image (keeping_of session) seen.coming telling (stop.Breaks why)
    pub none_came : telling.account.came ≡ None
    pub tells : Tells began.told seen.told (journal_of telling.account)
    pub handed : HandedLast rules telling.account seen why
    pub holds : HoldsCheckpoints rules image telling.account.earlier (before_end telling.account) telling.recoveries telling.account.survivor session
    pub handled : IsReadFault why → HasHandled rules image (keeping_of session) telling.account.earlier (before_end telling.account) telling.recoveries telling.account.survivor (telling.account.survivor.now.state.machine.taken + 1) (stands_of session.cpu.slots.saved)
    pub notes : HasNoted began.noted_before began.noted (stop.Breaks why) telling.account.survivor.now.choices (episodes_of (story_of telling) telling.walk) session.recorded session.choices
    pub unnoted : 0 < length notes.missing → HasNothingBehind telling
    pub tables : TellsMore began.tables_before began.tables (AreAllTables rules (story_of telling) telling.walk (stop.Breaks why))
    pub taken : session.taken ≡ telling.account.survivor.now.state.machine.taken
    pub steps : session.steps ≡ telling.account.survivor.now.steps
    pub counted : why ≢ session_break.Memory → (starting_path rules image).steps + spent telling.recoveries + steps_of (trials_of telling.walk) ≡ began.lost + telling.account.survivor.begun.steps
    pub unanswered : why ≡ session_break.Memory → HasUnanswered rules image (keeping_of session) telling began.lost
    pub later : telling.account.survivor.begun.steps ≤ telling.account.survivor.now.steps
