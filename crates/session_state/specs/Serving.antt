-- What the parts of a session's code make of it.
use Rattle.std.specs.Prelude.{◌≡◌, ◌≢◌, ◌⊎◌, ℕ, ◌+◌, ◌<◌, ◌≤◌, List, length, Bool, true, false, Option, None, Some, option_map, [], ◌∷◌, Result, Ok, Err, IfOk, IsErrOf}
use Rattle.rx_base.specs.declared.fault.IoFault.TheVariants as note
use Rattle.item_log.specs.Log as logs
use Rattle.reply_ledger.specs.Ledger.{is_open}
use Rattle.session_history.specs.declared.ends.SessionBreak.TheVariants as session_break
use Rattle.session_history.specs.declared.ends.SessionEnd.TheVariants as session_end
use Rattle.session_history.specs.declared.ends.Stop.TheVariants as stop
use Rattle.guest_cpu.specs.declared.event.Event.TheVariants as step
pub use Rattle.session_history.specs.Ends.{TakesAtEnd, StaysKnown}
use Rattle.link_gate.specs.declared.pass_fault.PassFault.TheVariants as fault
use Rattle.link_gate.specs.declared.heard.HearFault.TheVariants as hear
use Rattle.session_state.specs.Terms.{AllocError, IoFault, Rose, Send, Entry, Coming, Counts, Grew, Seen, but_given, Heap, IsOpened, Ledger, next_part, Image, Answer, Cause, Event, live_of, with_live, RunsWriting, SessionBreak, SessionEnd, Stop, HasAnswerCause, AtBreak, AtEnd, WasAsked, answer_of, AreGiven, IsClosing, Bounds, items_in, received, KeepsReplies, Rules, AreInOrder, passed_in, HearFault, PassFault, CanGive, Try, Noted, Shown, Unnoted, Recovered, Adopted}
use Rattle.session_state.specs.Sessions.{SessionState, IsBegun}
use Rattle.session_state.specs.Recovered.{Outcome, IsNoteFault, HasWatched, FailsAtChoices}
use Rattle.session_state.specs.Leaving.{keeping_of, IsHandled, IsRecorded, IsTrimmed, IsCutShort, KeepsOldest, HoldsCheckpoints, LeavesBy}
use Rattle.session_state.specs.Options.{AreInRange, rules_in, keeping_for}
use Rattle.session_state.specs.Standing.{Since, Story, entries, moment, sends, then_story, IsTold, AnswersFor, HasPassed, HasPassedDue, IsGoing, IsBetween, IsAsking, IsWaitingFor, IsFailing, IsEnding, IsBrokenOff, HasNotedMore, HasMissed}

-- a fault of passing breaks a session off so
abbrev pub IsAnswerTo : PassFault → SessionBreak → Type 0
IsAnswerTo fault.WriteFault why = why ≡ session_break.WriteFault
IsAnswerTo fault.Memory why = why ≡ session_break.Memory

-- an answer of the allocator was noted, or memory ran out
abbrev pub IsOkOrMemory : Result (Unit {0}) Stop → Type 0
IsOkOrMemory (Ok done) = Unit {0}
IsOkOrMemory (Err why) = why ≡ stop.Breaks session_break.Memory

-- so does a fault of notes
abbrev pub IsNoteAnswer : IoFault → SessionBreak → Type 0
IsNoteAnswer note.Failed why = why ≡ session_break.FileFault
IsNoteAnswer note.Memory why = why ≡ session_break.Memory

-- the count of failed calls of the notes doesn't fall, and FileFault is answered only where it rose
pub record HasNoteCause (before now : ℕ) (why : Stop) : Type 0 where
  pub later : before ≤ now
  pub file_fault : why ≡ stop.Breaks session_break.FileFault → Rose before now

pub record HasNoteStop {X : Type 0} (before now : ℕ) (result : Result X Stop) : Type 0 where
  pub later : before ≤ now
  pub file_fault : IsErrOf result (stop.Breaks session_break.FileFault) → Rose before now

-- the end that a recovery comes to, if it does: none survived, or the trial that did had ended itself
abbrev pub end_of : ℕ → Cause → Option Adopted → Option SessionEnd
end_of point cause None = Some (session_end.GaveUp point cause)
end_of point cause (Some adopted) = option_map session_end.Exited adopted.code

-- so it is where the rest of the answers of the allocator was noted, or wasn't; no episode is noted
pub record HasNoteRest (before now : Shown) (result : Result (Unit {0}) SessionBreak) : Type 0 where
  pub episodes : now.told.episodes ≡ before.told.episodes
  pub unnoted : IfOk result (λ _. now.told.unnoted ≡ before.told.unnoted)
  pub later : before.faults ≤ now.faults
  pub file_fault : IsErrOf result session_break.FileFault → Rose before.faults now.faults

-- what an event that wasn't heard means for a session
abbrev pub IsStopAt : HearFault → Stop → Type 0
IsStopAt (hear.Refused kind offset) why = why ≡ stop.Ends (session_end.InputRefused kind offset)
IsStopAt hear.LimitEvents why = why ≡ stop.Ends session_end.LimitEvents
IsStopAt (hear.TooLong conn) why = why ≡ stop.Ends (session_end.MessageTooLong conn)
IsStopAt hear.LimitItems why = why ≡ stop.Ends session_end.LimitItems
IsStopAt hear.ReadFault why = why ≡ stop.Breaks session_break.ReadFault
IsStopAt hear.Memory why = why ≡ stop.Breaks session_break.Memory

-- no count of failed calls falls, and a fault is answered only where its own rose
pub record HasStopCause {X : Type 0} (before now : Counts) (result : Result X Stop) : Type 0 where
  pub takes : before.takes ≤ now.takes
  pub gives : before.gives ≤ now.gives
  pub read_fault : IsErrOf result (stop.Breaks session_break.ReadFault) → Rose before.takes now.takes
  pub write_fault : IsErrOf result (stop.Breaks session_break.WriteFault) → Rose before.gives now.gives

-- what holds unless a session was broken off
abbrev pub UnlessBroken : {X : Type 0} → Result X Stop → Type 0 → Type 0
UnlessBroken (Ok done) P = P
UnlessBroken (Err (stop.Ends end)) P = P
UnlessBroken (Err (stop.Breaks why)) P = Unit {0}

-- what holds unless memory ran out
abbrev pub UnlessMemory : {X : Type 0} → Result X Stop → Type 0 → Type 0
UnlessMemory result P = result ≢ Err (stop.Breaks session_break.Memory) → P

-- the same where it goes on; where it was broken off nothing is said
abbrev pub TakesBy : {X : Type 0} → Bool → Result X Stop → Type 0
TakesBy takes (Ok done) = takes ≡ true
TakesBy takes (Err (stop.Ends end)) = TakesAtEnd takes end
TakesBy takes (Err (stop.Breaks why)) = Unit {0}

-- it went on, or was broken off where it passed a piece
abbrev pub IsPassAnswer : SessionBreak → Type 0
IsPassAnswer session_break.ReadFault = ⊥
IsPassAnswer session_break.WriteFault = Unit {0}
IsPassAnswer session_break.FileFault = ⊥
IsPassAnswer session_break.Memory = Unit {0}

abbrev pub BreaksPassing : Result (Unit {0}) Stop → Type 0
BreaksPassing (Ok done) = Unit {0}
BreaksPassing (Err (stop.Ends end)) = ⊥
BreaksPassing (Err (stop.Breaks why)) = IsPassAnswer why

-- noting breaks a session off by a fault of the notes, or want of memory
abbrev pub BreaksNoting : Result (Unit {0}) Stop → Type 0
BreaksNoting (Ok done) = Unit {0}
BreaksNoting (Err (stop.Ends end)) = ⊥
BreaksNoting (Err (stop.Breaks why)) = IsNoteFault why

-- no fault of the notes stopped it
abbrev pub IsUnnoted : Result (Unit {0}) Stop → Type 0
IsUnnoted (Err (stop.Breaks session_break.FileFault)) = ⊥
IsUnnoted _ = Unit {0}

-- What is known of a link where a session was broken off: at a fault of writing what comes is told still, at a fault of reading the link
-- gives still, at one of the notes both hold, and at want of memory one of both. So no call failed but one.
abbrev pub BreaksAt : Option Coming → Option Coming → Bool → SessionBreak → Type 0
BreaksAt old new gives session_break.WriteFault = StaysKnown old new
BreaksAt old new gives session_break.ReadFault = gives ≡ true
BreaksAt old new gives session_break.FileFault = StaysKnown old new × (gives ≡ true)
BreaksAt old new gives session_break.Memory = StaysKnown old new ⊎ (gives ≡ true)

abbrev pub BreaksOnce : {X : Type 0} → Option Coming → Option Coming → Bool → Result X Stop → Type 0
BreaksOnce old new gives (Ok done) = Unit {0}
BreaksOnce old new gives (Err (stop.Ends end)) = Unit {0}
BreaksOnce old new gives (Err (stop.Breaks why)) = BreaksAt old new gives why

-- a session that goes on: events may be taken from its link, and pieces given to it
pub record MayServe (seen : Seen) (ledger : Ledger) : Type 0 where
  pub takes : seen.takes ≡ true
  pub gives : CanGive seen ledger

-- What a link shows behind a part of serving: it may be served on, unless the session was broken off; what it has next is told still; no call
-- failed but one, and no count of failed calls fell.
pub record LinkServes {X : Type 0} (old new : Seen) (ledger : Ledger) (result : Result X Stop) : Type 0 where
  pub takes : TakesBy new.takes result
  pub gives : UnlessBroken result (CanGive new ledger)
  pub known : UnlessBroken result (StaysKnown old.coming new.coming)
  pub once : BreaksOnce old.coming new.coming new.gives result
  pub cause : HasStopCause old.counts new.counts result

-- what it shows where pieces alone were passed
pub record LinkPasses (old new : Seen) (ledger : Ledger) (result : Result (Unit {0}) Stop) : Type 0 where
  pub gives : IfOk result (λ _. CanGive new ledger)
  pub rest : new ≡ but_given old new
  pub broken : BreaksPassing result
  pub cause : HasStopCause old.counts new.counts result

-- what a link shows where a session stopped
pub record LinkAnswers (old new : Seen) (why : Stop) : Type 0 where
  pub takes : AtEnd why (TakesAtEnd new.takes)
  pub gives : AtEnd why (λ end. new.gives ≡ true)
  pub known : AtEnd why (λ end. StaysKnown old.coming new.coming)
  pub once : AtBreak why (BreaksAt old.coming new.coming new.gives)
  pub cause : HasAnswerCause old.counts new.counts (answer_of why)

-- what it shows where an end was finished: pieces alone were passed
pub record LinkFinishes (old new : Seen) (end : SessionEnd) (why : Stop) : Type 0 where
  pub takes : TakesAtEnd old.takes end → AtEnd why (TakesAtEnd new.takes)
  pub gives : AtEnd why (λ end. new.gives ≡ true)
  pub rest : new ≡ but_given old new
  pub once : AtBreak why (BreaksAt old.coming new.coming new.gives)
  pub cause : HasAnswerCause old.counts new.counts (answer_of why)

-- What is known of a link at this end of a session, before which it showed something: an event was asked for where no more may be taken; what may
-- be taken is as the end leaves it; and what comes next is told still.
pub record IsFinishing (rules : Rules) (began before : Seen) (story : Story) (end : SessionEnd) : Type 0 where
  pub asked : before.takes ≡ false → IsAsking rules story
  pub takes : TakesAtEnd before.takes end
  pub known : StaysKnown began.coming before.coming

-- What notes show behind a part of serving: FileFault has its cause.
pub record NotesServe (old new : Shown) (result : Result (Unit {0}) Stop) : Type 0 where
  pub cause : HasNoteStop old.faults new.faults result

-- what they show where a session stopped
pub record NotesAnswer (old new : Shown) (why : Stop) : Type 0 where
  pub cause : HasNoteCause old.faults new.faults why

-- what both show where an end was finished
pub record Finishes (old new : Seen) (shown now : Shown) (end : SessionEnd) (why : Stop) : Type 0 where
  pub link : LinkFinishes old new end why
  pub notes : NotesAnswer shown now why

-- the same connections are open
abbrev pub HasSameOpen : Ledger → Ledger → Type 0
HasSameOpen old new = (conn : ℕ) → is_open new.connections conn ≡ is_open old.connections conn

module _ {R : Type 0} where
  -- a ledger has the replies of a journal, of which the log has as many items
  pub record CanPass (session : SessionState R) : Type 0 where
    pub bounds : Bounds
    pub entries : List Entry
    pub closing : Option ℕ
    pub sends : List Send
    pub replies : KeepsReplies bounds entries closing sends session.replies
    pub no_trial : session.replies.trial ≡ None
    pub ordered : AreInOrder (received bounds entries) (passed_in bounds entries)
    pub received_are : logs.received session.log ≡ received bounds entries

  -- a session is told so, and its log has as many items as were received
  pub record IsToldBy (rules : Rules) (image : Image) (began : Since) (seen : Seen) (story : Story) (session : SessionState R) : Type 0 where
    pub told : IsTold rules image began seen.told story
    pub answers : AnswersFor began story session
    pub holds : HoldsCheckpoints rules image story.earlier (entries story) story.recoveries story.survivor session
    pub received_are : logs.received session.log ≡ received rules.bounds (entries story)

  -- All is given up and recorded that no trial needs, whether a session stopped or not; or noting failed before that.
  abbrev pub TrimsAt : Option Unnoted → Option Unnoted → SessionState R → Stop → Type 0
  TrimsAt before now session (stop.Breaks session_break.FileFault) = IsTrimmed session ⊎ IsCutShort before now session
  TrimsAt before now session (stop.Breaks session_break.Memory) = IsTrimmed session ⊎ IsCutShort before now session
  TrimsAt before now session why = IsTrimmed session

  abbrev pub TrimsBy : Shown → Shown → SessionState R → Result (Unit {0}) Stop → Type 0
  TrimsBy shown now session (Ok done) = IsTrimmed session
  TrimsBy shown now session (Err why) = TrimsAt shown.told.unnoted now.told.unnoted session why

  -- answers of the allocator are recorded up to the oldest checkpoint, or noting them failed
  abbrev pub RecordsBy : Shown → Shown → SessionState R → Result (Unit {0}) Stop → Type 0
  RecordsBy shown now session (Ok done) = IsRecorded session
  RecordsBy shown now session (Err why) = IsCutShort shown.told.unnoted now.told.unnoted session

  -- the outcome of a session that stopped so
  abbrev pub outcome_of : Stop → SessionState R → Outcome
  outcome_of why session = record { stop = why; recorded = session.recorded; tail = session.choices; taken = session.taken; steps = session.steps }

  -- what a session allows its guest and its link, by how its access rule is read
  abbrev pub rules_by : (R → Heap → ℕ → ℕ → Bool) → SessionState R → Rules
  rules_by permits session = rules_in session.options session.before session.hold (permits session.cpu.rule)

  -- A session came to one of its ends, or was broken off. Where events may not be taken any more, one was asked for.
  abbrev pub StopsBy : Rules → Image → Since → Seen → SessionState R → Stop → Type 0
  StopsBy rules image began seen session (stop.Ends end) = (ending : IsEnding rules image began seen session end) × (seen.takes ≡ false → IsAsking rules ending.story)
  StopsBy rules image began seen session (stop.Breaks why) = (off : IsBrokenOff rules image began seen session why) × (seen.takes ≡ false → WasAsked rules off.telling.account)

  -- it was broken off
  abbrev pub BreaksBy : Rules → Image → Since → Seen → SessionState R → Stop → Type 0
  BreaksBy rules image began seen session (stop.Ends end) = ⊥
  BreaksBy rules image began seen session (stop.Breaks why) = IsBrokenOff rules image began seen session why

  -- pieces were passed, up to where nothing is left of what was sent with so many items taken; or the session was broken off
  abbrev pub PassesStory : Rules → Image → Since → Seen → Story → ℕ → SessionState R → Result (Unit {0}) Stop → Type 0
  PassesStory rules image began seen story until session (Ok done) =
      (more : List Entry) × AreGiven more × IsTold rules image began seen.told (then_story story more)
      × KeepsReplies rules.bounds (entries (then_story story more)) None (sends story) session.replies × (next_part session.replies until ≡ None)
  PassesStory rules image began seen story until session (Err why) = BreaksBy rules image began seen session why

  -- all that is due was passed, or the session was broken off
  abbrev pub PassesDue : Rules → Image → Since → Seen → Story → SessionState R → Result (Unit {0}) Stop → Type 0
  PassesDue rules image began seen story session (Ok done) =
      (more : List Entry) × AreGiven more × IsTold rules image began seen.told (then_story story more) × HasPassed rules (then_story story more) session.replies × HasPassedDue rules (then_story story more)
  PassesDue rules image began seen story session (Err why) = BreaksBy rules image began seen session why

  -- the guest still waits for an item
  abbrev pub WaitsBy : Rules → Image → Since → Seen → SessionState R → Result (Unit {0}) Stop → Type 0
  WaitsBy rules image began seen session (Ok done) = IsWaitingFor rules image began seen session
  WaitsBy rules image began seen session (Err why) = StopsBy rules image began seen session why

  -- the session stands between two events of its guest
  abbrev pub ComesBetween : Rules → Image → Since → Seen → SessionState R → Result (Unit {0}) Stop → Type 0
  ComesBetween rules image began seen session (Ok done) = IsBetween rules image began seen session
  ComesBetween rules image began seen session (Err why) = StopsBy rules image began seen session why

  -- its guest is where it was, and so are the answers of the allocator, and what it answers for; and nothing more was given up
  pub record HasSameGuest (old new : SessionState R) : Type 0 where
    pub options : new.options ≡ old.options
    pub before : new.before ≡ old.before
    pub hold : new.hold ≡ old.hold
    pub cpu : new.cpu ≡ old.cpu
    pub recorded : new.recorded ≡ old.recorded
    pub choices : new.choices ≡ old.choices
    pub taken : new.taken ≡ old.taken
    pub steps : new.steps ≡ old.steps
    pub until : new.until ≡ old.until
    pub first : new.log.first ≡ old.log.first
    pub sends : new.replies.first ≡ old.replies.first
    pub keeping : keeping_of new ≡ keeping_of old

  -- its guest ran from where the session stood between two events to this event, and its flags of pages say which ones it wrote on the way
  pub record HasRun (rules : Rules) (image : Image) (began : Since) (seen : Seen) (happened : Event) (session : SessionState R) : Type 0 where
    pub before : SessionState R
    pub between : IsBetween rules image began seen before
    pub same : session ≡ record before { cpu = session.cpu }
    pub cpu : session.cpu ≡ with_live (live_of session.cpu) before.cpu
    pub runs : RunsWriting rules.limits (items_in rules.bounds (entries between.going.story)) between.going.story.survivor.plan before.cpu.base between.going.story.survivor.now before.cpu.written (Ok happened) (live_of session.cpu)

  -- it stands so for some image, since some time, where its watch tells these tables
  pub record StandsBetween (rules : Rules) (seen : Seen) (tables : Option (List (List Try))) (session : SessionState R) : Type 0 where
    pub image : Image
    pub began : Since
    pub tables_are : began.tables ≡ tables
    pub is : IsBetween rules image began seen session
    pub may : MayServe seen session.replies

  pub record StandsWaiting (rules : Rules) (seen : Seen) (session : SessionState R) : Type 0 where
    pub image : Image
    pub began : Since
    pub is : IsWaitingFor rules image began seen session

  pub record StandsEmitting (rules : Rules) (seen : Seen) (conn : ℕ) (bytes : List ℕ) (session : SessionState R) : Type 0 where
    pub image : Image
    pub began : Since
    pub is : HasRun rules image began seen (step.Emits conn bytes) session
    pub gives : CanGive seen session.replies

  pub record StandsEnding (rules : Rules) (seen : Seen) (end : SessionEnd) (session : SessionState R) : Type 0 where
    pub image : Image
    pub began : Since
    pub is : IsEnding rules image began seen session end
    pub gives : CanGive seen session.replies

  -- its counts are those of its guest
  pub record IsCounted (session : SessionState R) : Type 0 where
    pub taken : session.taken ≡ session.cpu.slots.live.guest.machine.taken
    pub steps : session.steps ≡ session.cpu.slots.live.steps

  pub record StandsFailing (rules : Rules) (seen : Seen) (tables : Option (List (List Try))) (cause : Cause) (session : SessionState R) : Type 0 where
    pub image : Image
    pub began : Since
    pub tables_are : began.tables ≡ tables
    pub is : IsFailing rules image began seen cause session
    pub may : MayServe seen session.replies
    pub marked : IsCounted session

  -- it has heard the close of this connection, for some rules and some image, since some time
  pub record StandsClosing (seen : Seen) (conn : ℕ) (session : SessionState R) : Type 0 where
    pub rules : Rules
    pub image : Image
    pub began : Since
    pub story : Story
    pub told : IsTold rules image began seen.told story
    pub received_are : logs.received session.log ≡ received rules.bounds (entries story)
    pub closing : IsClosing rules (sends story) (moment story) conn session.replies
    pub no_trial : session.replies.trial ≡ None
    pub opened : IsOpened session.replies conn
    pub gives : CanGive seen session.replies

  -- it may pass, and its link gives
  pub record StandsPassing (seen : Seen) (session : SessionState R) : Type 0 where
    pub can : CanPass session
    pub gives : CanGive seen session.replies

  -- passing changes its replies alone: it gives up none, and no trial is under way
  pub record OnlyReplies (old new : SessionState R) : Type 0 where
    pub same : new ≡ record old { replies = new.replies }
    pub no_trial : new.replies.trial ≡ None
    pub first : new.replies.first ≡ old.replies.first

  -- so it is where pieces alone were passed
  pub record KeepsGiving (before seen : Seen) (old new : SessionState R) (result : Result (Unit {0}) Stop) : Type 0 where
    pub link : LinkPasses before seen new.replies result
    pub only : OnlyReplies old new

  -- its options and its access rule stay, what came before it, and how many items more have to be taken before a reply is passed
  pub record HasSameFrame (old new : SessionState R) : Type 0 where
    pub options : new.options ≡ old.options
    pub rule : new.cpu.rule ≡ old.cpu.rule
    pub before : new.before ≡ old.before
    pub hold : new.hold ≡ old.hold

  -- the rest of the answers of the allocator was noted, if there were any; or noting failed, which was handed some of them, and nothing changed
  abbrev pub NotesRest : Shown → Shown → SessionState R → SessionState R → Result (Unit {0}) SessionBreak → Type 0
  NotesRest before now old new (Ok done) = Grew before.told.choices now.told.choices old.choices × (new ≡ record old { recorded = old.recorded + length old.choices; choices = [] })
  NotesRest before now old new (Err end) = (now.told.choices ≡ before.told.choices) × (new ≡ old) × IsNoteFault end × FailsAtChoices before.told.unnoted now.told.unnoted old.choices

  -- it was begun for some image
  pub record IsReadyToServe (session : SessionState R) : Type 0 where
    pub image : Image
    pub begun : IsBegun image session.options session.cpu.rule session

  -- a trial was adopted behind a failure with more items taken than at the last one
  pub record IsAdoptedLater (old new : SessionState R) : Type 0 where
    pub past : old.until < new.until
    pub most : new.until ≤ old.options.max_items + old.options.keep

  -- more instructions were done, or a trial was adopted
  abbrev pub GoesFurther : SessionState R → SessionState R → Type 0
  GoesFurther old new = ((new.until ≡ old.until) × (old.cpu.slots.live.steps < new.cpu.slots.live.steps)) ⊎ IsAdoptedLater old new

  -- what a recovery makes of a session: it goes on as a trial, of which what is due has to be passed; or it came to this end
  abbrev pub AdoptsTo : Rules → Image → Since → Seen → SessionState R → Option SessionEnd → Type 0
  AdoptsTo rules image began seen session None = IsGoing rules image began seen session
  AdoptsTo rules image began seen session (Some end) = IsEnding rules image began seen session end

  -- so it is once the episode is noted. And where noting it fails, the session is broken off
  pub record Adopting (rules : Rules) (image : Image) (began : Since) (seen : Seen) (point : ℕ) (cause : Cause) (session : SessionState R) (recovered : Recovered) : Type 0 where
    pub goes : (noted : Noted) → HasNotedMore began.noted noted [] (recovered.episode ∷ []) → AdoptsTo rules image (record began { noted = noted }) seen session (end_of point cause recovered.adopted)
    pub breaks : (why : SessionBreak) → IsNoteFault why → (noted : Noted) → HasMissed began.noted noted recovered.episode → IsBrokenOff rules image (record began { noted = noted }) seen session why

  -- or memory ran out
  abbrev pub AdoptsBy : Rules → Image → Since → Seen → ℕ → Cause → SessionState R → Result Recovered AllocError → Type 0
  AdoptsBy rules image began seen point cause session (Ok recovered) = Adopting rules image began seen point cause session recovered
  AdoptsBy rules image began seen point cause session (Err fault) = IsBrokenOff rules image began seen session session_break.Memory

module _ {R : Type 0} where
  -- what one more event of the link makes of a session beside its story
  pub record KeepsHearing (before seen : Seen) (old new : SessionState R) (result : Result (Unit {0}) Stop) : Type 0 where
    pub link : LinkServes before seen new.replies result
    pub same : HasSameGuest old new
    pub unnoted : IsUnnoted result

  -- an event was counted, unless it stopped, and no more are than it allows
  pub record CountsEvent (old new : SessionState R) (result : Result (Unit {0}) Stop) : Type 0 where
    pub later : IfOk result (λ _. old.events < new.events)
    pub most : new.events ≤ old.options.max_events

  -- what an item makes of it that the guest waited for: it came and was taken, and one instruction more was done at least
  pub record KeepsReceiving (before seen : Seen) (old new : SessionState R) (result : Result (Unit {0}) Stop) : Type 0 where
    pub link : LinkServes before seen new.replies result
    pub until : new.until ≡ old.until
    pub frame : HasSameFrame old new
    pub oldest : KeepsOldest old new
    pub marked : IsCounted new
    pub later : IfOk result (λ _. old.cpu.slots.live.steps < new.cpu.slots.live.steps)
    pub unnoted : IsUnnoted result

  -- so a request, with what is noted and given up at it
  pub record KeepsAsking (before seen : Seen) (shown now : Shown) (old new : SessionState R) (result : Result (Unit {0}) Stop) : Type 0 where
    pub link : LinkServes before seen new.replies result
    pub notes : NotesServe shown now result
    pub until : new.until ≡ old.until
    pub frame : HasSameFrame old new
    pub keeping : keeping_of new ≡ keeping_of old
    pub trimmed : TrimsBy shown now new result
    pub marked : IsCounted new
    pub later : IfOk result (λ _. old.cpu.slots.live.steps < new.cpu.slots.live.steps)

  -- the item that is there
  pub record KeepsItem (old new : SessionState R) : Type 0 where
    pub until : new.until ≡ old.until
    pub frame : HasSameFrame old new
    pub oldest : KeepsOldest old new
    pub replies : new.replies ≡ old.replies
    pub marked : IsCounted new
    pub one : new.cpu.slots.live.steps ≡ old.cpu.slots.live.steps + 1

  -- what a send makes of it
  pub record KeepsSending (first seen : Seen) (old new : SessionState R) (result : Result (Unit {0}) Stop) : Type 0 where
    pub link : LinkPasses first seen new.replies result
    pub until : new.until ≡ old.until
    pub options : new.options ≡ old.options
    pub before : new.before ≡ old.before
    pub hold : new.hold ≡ old.hold
    pub cpu : new.cpu ≡ old.cpu
    pub oldest : KeepsOldest old new
    pub keeping : keeping_of new ≡ keeping_of old
    pub marked : UnlessMemory result (IsCounted new)
    pub low : old.steps ≤ old.cpu.slots.live.steps → new.steps ≤ new.cpu.slots.live.steps

  -- what an answer of the allocator makes of it
  pub record KeepsChoosing (old new : SessionState R) (result : Result (Unit {0}) Stop) : Type 0 where
    pub until : new.until ≡ old.until
    pub options : new.options ≡ old.options
    pub before : new.before ≡ old.before
    pub hold : new.hold ≡ old.hold
    pub cpu : new.cpu ≡ old.cpu
    pub oldest : KeepsOldest old new
    pub replies : new.replies ≡ old.replies
    pub marked : UnlessMemory result (IsCounted new)
    pub low : old.steps ≤ old.cpu.slots.live.steps → new.steps ≤ new.cpu.slots.live.steps
    pub broken : IsOkOrMemory result

  -- what an adoption makes of it, before its episode is noted; or memory ran out
  pub record KeepsAdopting (cause : Cause) (old new : SessionState R) (result : Result Recovered AllocError) : Type 0 where
    pub frame : HasSameFrame old new
    pub oldest : KeepsOldest old new
    pub keeping : keeping_of new ≡ keeping_of old
    pub opened : IfOk result (λ _. HasSameOpen old.replies new.replies)
    pub marked : IfOk result (λ recovered. end_of old.taken cause recovered.adopted ≡ None → IsCounted new)
    pub later : IfOk result (λ recovered. end_of old.taken cause recovered.adopted ≡ None → IsAdoptedLater old new)

  -- what a recovery makes of it
  pub record KeepsRecovering (before seen : Seen) (shown now : Shown) (old new : SessionState R) (result : Result (Unit {0}) Stop) : Type 0 where
    pub link : LinkServes before seen new.replies result
    pub notes : NotesServe shown now result
    pub frame : HasSameFrame old new
    pub oldest : KeepsOldest old new
    pub keeping : keeping_of new ≡ keeping_of old
    pub marked : IfOk result (λ _. IsCounted new)
    pub later : IfOk result (λ _. IsAdoptedLater old new)

  -- what a turn makes of it
  pub record KeepsTurning (before seen : Seen) (shown now : Shown) (old new : SessionState R) (result : Result (Unit {0}) Stop) : Type 0 where
    pub link : LinkServes before seen new.replies result
    pub notes : NotesServe shown now result
    pub frame : HasSameFrame old new
    pub keeping : keeping_of new ≡ keeping_of old
    pub trimmed : IsTrimmed old → TrimsBy shown now new result
    pub marked : IfOk result (λ _. IsCounted new)
    pub later : IfOk result (λ _. GoesFurther old new)

module _ {R : Type 0} where
  -- the guest waits for an item, its counts are right, and the session may be served on
  pub record StandsAsking (rules : Rules) (seen : Seen) (session : SessionState R) : Type 0 where
    pub waits : StandsWaiting rules seen session
    pub marked : IsCounted session
    pub may : MayServe seen session.replies

  -- so it is once its request was handled
  pub record StandsHearing (rules : Rules) (seen : Seen) (session : SessionState R) : Type 0 where
    pub waits : StandsWaiting rules seen session
    pub handled : IsHandled session
    pub marked : IsCounted session
    pub may : MayServe seen session.replies

  -- and no item is there that it hasn't taken
  pub record StandsListening (rules : Rules) (seen : Seen) (session : SessionState R) : Type 0 where
    pub stands : StandsHearing rules seen session
    pub none_left : logs.received session.log ≤ session.taken

  -- it waits so for some link
  pub record StandsSomewhere (rules : Rules) (session : SessionState R) : Type 0 where
    pub seen : Seen
    pub waits : StandsWaiting rules seen session

  -- its request was handled, and the item is there
  pub record StandsTaking (rules : Rules) (session : SessionState R) : Type 0 where
    pub waits : StandsSomewhere rules session
    pub handled : IsHandled session
    pub there : session.taken < logs.received session.log

  -- a checkpoint is saved where one is due; guest and rule stay
  pub record KeepsSaving (old new : SessionState R) : Type 0 where
    pub same : new ≡ record old { cpu = new.cpu }
    pub live : new.cpu.slots.live ≡ old.cpu.slots.live
    pub rule : new.cpu.rule ≡ old.cpu.rule
    pub keeping : keeping_of new ≡ keeping_of old

  -- answers of the allocator are noted up to the oldest checkpoint, or noting failed
  pub record KeepsNoting (shown now : Shown) (old new : SessionState R) (result : Result (Unit {0}) Stop) : Type 0 where
    pub notes : NotesServe shown now result
    pub same : new ≡ record old { recorded = new.recorded; choices = new.choices }
    pub recorded : RecordsBy shown now new result
    pub broken : BreaksNoting result

  -- items and replies are given up that no trial needs
  pub record KeepsForgetting (old new : SessionState R) : Type 0 where
    pub same : new ≡ record old { log = new.log; replies = new.replies }
    pub trimmed : IsRecorded old → IsTrimmed new
    pub opened : HasSameOpen old.replies new.replies

module _ {R : Type 0} where
  -- A session stands between two events of its guest, for some image, since some time, where its notes and its watch tell this; and it may be served on from
  -- there: all is given up and recorded that no trial needs, and its options are in their ranges.
  pub record StandsServing (rules : Rules) (seen : Seen) (noted : Noted) (tables : Option (List (List Try))) (session : SessionState R) : Type 0 where
    pub image : Image
    pub began : Since
    pub is : IsBetween rules image (record began { noted = noted; tables = tables }) seen session
    pub may : MayServe seen session.replies
    pub trimmed : IsTrimmed session
    pub in_range : AreInRange session.options

  -- A session that stood so has served a link on, and answers so: why it stopped; what it leaves, by one telling of it, since each time since which it stood so; and
  -- what its link and its notes show. So many instructions were counted beside those that were lost before: those of the run where it stood, and those that it did
  -- then. What its link showed at that time is told still where it goes on.
  pub record HasServedOn (rules : Rules) (before seen : Seen) (shown now : Shown) (counted : ℕ) (tables_before tables : Option (List (List Try))) (old new : SessionState R) (answered : Answer) : Type 0 where
    pub why : Stop
    pub is : answered ≡ answer_of why
    pub served : (image : Image) (began : Since) (first : Seen) → StaysKnown first.coming before.coming → IsBetween rules image (record began { told = first.told; noted = shown.told; tables = tables_before }) before old
        → (watched : HasWatched rules image (keeping_of old) first seen (outcome_of why new) began.noted_before now.told (began.lost + counted) began.tables_before tables)
        × LeavesBy rules image began.noted_before.unnoted now.told.unnoted watched.recovered.telling new why
    pub keeping : keeping_of new ≡ keeping_of old
    pub link : LinkAnswers before seen why
    pub notes : NotesAnswer shown now why

  -- A session that was begun has served a link, and answers so: why it stopped; what it leaves, by one telling of it; and what its link and its notes show.
  pub record HasServedLink (rules : Rules) (before seen : Seen) (shown now : Shown) (counted : ℕ) (tables_before tables : Option (List (List Try))) (old new : SessionState R) (answered : Answer) : Type 0 where
    pub why : Stop
    pub is : answered ≡ answer_of why
    pub served : (image : Image) → IsBegun image old.options old.cpu.rule old
        → (watched : HasWatched rules image (keeping_for old.options) before seen (outcome_of why new) shown.told now.told counted tables_before tables) × LeavesBy rules image shown.told.unnoted now.told.unnoted watched.recovered.telling new why
    pub keeping : keeping_of new ≡ keeping_for old.options
    pub link : LinkAnswers before seen why
    pub notes : NotesAnswer shown now why
