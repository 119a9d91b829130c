-- What a session that follows hears where it waits for an item.
use Rattle.std.specs.Prelude.{◌≡◌, ◌<◌, ◌≤◌, ℕ, List, [], ◌∷◌, ◌++◌, Bool, true, false, Result, Ok, Err, IfOk, OnErr}
use Rattle.item_log.specs.Log as logs
use Rattle.links.specs.declared.journal.LinkEvent.TheVariants.{Ends as EndOfLink}
use Rattle.session_following.specs.Terms.{LinkEvent, Tells, Told, Seen, Image, Stop, Rules, Noted, Shown, heard_alone, Handed, IsHandled, IsTrimmed, keeping_of, AreInRange, BreaksNoting, HasSameOpen, MayServe, NotesServe, StandsWaiting, SessionState}
use Rattle.session_following.specs.declared.unfollowed.Unfollowed.TheVariants as unfollowed
use Rattle.session_following.specs.TakingOver.{HasEndedBehind, IsUnfollowedBy, UnnotedBy}
use Rattle.session_following.specs.Turning.{WaitsOn}

module _ {R : Type 0} where
  -- a session answers for the same run, of which as many answers of the allocator are recorded
  pub record AnswersSame (old new : SessionState R) : Type 0 where
    pub recorded : new.recorded ≡ old.recorded
    pub choices : new.choices ≡ old.choices
    pub taken : new.taken ≡ old.taken
    pub steps : new.steps ≡ old.steps

  -- It waited so before its last event, and answers for the same run.
  pub record WaitedOn (rules : Rules) (image : Image) (handed : Handed) (before : Told) (noted_before noted : Noted) (missing : List ℕ) (session : SessionState R) : Type 0 where
    pub here : Rules
    pub seen : Seen
    pub was : SessionState R
    pub waits : WaitsOn rules here image handed before seen noted_before noted missing was
    pub same : AnswersSame was session

  -- the link has ended behind what it heard, where no item was left that its guest hadn't taken
  pub record EndedOn (rules : Rules) (image : Image) (handed : Handed) (before : Told) (seen : Seen) (noted_before noted : Noted) (missing : List ℕ) (session : SessionState R) : Type 0 where
    pub waited : WaitedOn rules image handed before noted_before noted missing session
    pub none_left : logs.received waited.was.log ≤ waited.was.taken
    pub ended : HasEndedBehind rules image handed seen.coming waited.waits.asking.stands.events (EndOfLink ∷ [])
    pub heard : Tells before seen.told (heard_alone (waited.waits.asking.stands.events ++ EndOfLink ∷ []))

  -- or it was stopped by what it heard behind that, if anything
  pub record StoppedOn (rules : Rules) (image : Image) (handed : Handed) (before : Told) (seen : Seen) (noted_before noted : Noted) (missing : List ℕ) (session : SessionState R) (stopped : Stop) : Type 0 where
    pub waited : WaitedOn rules image handed before noted_before noted missing session
    pub last : List LinkEvent
    pub heard : Tells before seen.told (heard_alone (waited.waits.asking.stands.events ++ last))
    pub cause : IsUnfollowedBy rules image handed seen.coming waited.waits.asking.stands.events last waited.waits.asking.stands.now (unfollowed.Stops stopped)

  -- what it comes to: it waits still; or the link has ended; or it was stopped
  abbrev pub AwaitsBy : Rules → Rules → Image → Handed → Told → Seen → Noted → Noted → List ℕ → SessionState R → Result Bool Stop → Type 0
  AwaitsBy rules here image handed before seen noted_before noted missing session (Ok true) = WaitsOn rules here image handed before seen noted_before noted missing session
  AwaitsBy rules here image handed before seen noted_before noted missing session (Ok false) = EndedOn rules image handed before seen noted_before noted missing session
  AwaitsBy rules here image handed before seen noted_before noted missing session (Err why) = StoppedOn rules image handed before seen noted_before noted missing session why

  -- Hearing changes its log, its replies and its count of events alone, beside what came before; and gives up no item and no send.
  pub record KeepsHeard (old new : SessionState R) : Type 0 where
    pub same : new ≡ record old { log = new.log; replies = new.replies; events = new.events; before = new.before }
    pub first : new.log.first ≡ old.log.first
    pub sends : new.replies.first ≡ old.replies.first

  -- it waits so, for some rules and some image, since some time, and its link may be heard
  pub record StandsWaitingOn (here : Rules) (seen : Seen) (session : SessionState R) : Type 0 where
    pub rules : Rules
    pub image : Image
    pub handed : Handed
    pub before : Told
    pub noted_before : Noted
    pub noted : Noted
    pub missing : List ℕ
    pub is : WaitsOn rules here image handed before seen noted_before noted missing session
    pub may : MayServe seen session.replies

  -- its request was handled, and the item is there
  pub record StandsTakingOn (here : Rules) (handed : Handed) (session : SessionState R) : Type 0 where
    pub rules : Rules
    pub image : Image
    pub before : Told
    pub seen : Seen
    pub noted_before : Noted
    pub noted : Noted
    pub missing : List ℕ
    pub is : WaitsOn rules here image handed before seen noted_before noted missing session
    pub handled : IsHandled session
    pub there : session.taken < logs.received session.log
    pub in_range : AreInRange session.options

module _ {R : Type 0} where
  -- a session waits so for some link of which events may be taken
  pub record StandsHandling (rules : Rules) (session : SessionState R) : Type 0 where
    pub seen : Seen
    pub waits : StandsWaiting rules seen session
    pub takes : seen.takes ≡ true

  -- Its request is handled: a checkpoint is saved where one is due, what no trial needs is noted and given up; and the guest stands as before. Where noting failed, no
  -- answer of the allocator was noted. No episode is.
  pub record KeepsHandling (shown now : Shown) (old new : SessionState R) (result : Result (Unit {0}) Stop) : Type 0 where
    pub same : new ≡ record old { cpu = new.cpu; recorded = new.recorded; choices = new.choices; log = new.log; replies = new.replies }
    pub live : new.cpu.slots.live ≡ old.cpu.slots.live
    pub rule : new.cpu.rule ≡ old.cpu.rule
    pub keeping : keeping_of new ≡ keeping_of old
    pub opened : HasSameOpen old.replies new.replies
    pub notes : NotesServe shown now result
    pub unnoted : UnnotedBy shown.told.unnoted now.told.unnoted new.choices result
    pub handled : IfOk result (λ _. IsHandled new)
    pub trimmed : IfOk result (λ _. IsTrimmed new)
    pub broken : BreaksNoting result
    pub episodes : now.told.episodes ≡ shown.told.episodes
    pub none : OnErr result ((now.told.choices ≡ shown.told.choices) × (new.recorded ≡ old.recorded) × (new.choices ≡ old.choices))
