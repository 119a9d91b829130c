-- What a session leaves: the checkpoints of the run that it answers for, and what a trial from them would need.
use Rattle.std.specs.Prelude.{◌≡◌, ◌⊎◌, false, [], ◌+◌, ◌-◌, ◌<◌, ◌≤◌, List, length, Option, None, Some, IfSome, slice_get}
use Rattle.session_history.specs.declared.ends.SessionBreak.TheVariants as session_break
use Rattle.session_history.specs.declared.ends.SessionEnd.TheVariants as session_end
use Rattle.session_history.specs.declared.ends.Stop.TheVariants as stop
use Rattle.session_state.specs.Terms.{Entry, oldest_of, Image, AsksFor, Path, standing_of, SessionBreak, SessionEnd, Stop, AtBreak, AtEnd, before_end, items_in, Chapter, Rules, Survivor, Unnoted, AreChained, AreCheckpoints, Recovery, HasHandled, Keeping, Stand, is_far, keeping_by, stands_of, HasSaved}
use Rattle.session_state.specs.Sessions.{SessionState}
use Rattle.session_state.specs.Recovered.{Telling, FailsUpTo}

-- an end but that at which no trial survived
abbrev pub UnlessGaveUp : SessionEnd → Type 0 → Type 0
UnlessGaveUp (session_end.GaveUp point cause) P = Unit {0}
UnlessGaveUp end P = P

-- an end at which the program waits for an item
abbrev pub IsAtRequest : SessionEnd → Type 0
IsAtRequest session_end.Finished = Unit {0}
IsAtRequest (session_end.Exited code) = ⊥
IsAtRequest (session_end.GaveUp point cause) = ⊥
IsAtRequest (session_end.InputRefused kind offset) = Unit {0}
IsAtRequest (session_end.MessageTooLong conn) = Unit {0}
IsAtRequest session_end.LimitItems = Unit {0}
IsAtRequest session_end.LimitEvents = Unit {0}

-- what broke a session off where the program waits for an item
abbrev pub IsReadFault : SessionBreak → Type 0
IsReadFault session_break.ReadFault = Unit {0}
IsReadFault session_break.WriteFault = ⊥
IsReadFault session_break.FileFault = ⊥
IsReadFault session_break.Memory = ⊥

-- Beside the last survivor its requests so far were handled. Or it stands at its request, and that was handled too, so that no checkpoint is due.
abbrev pub HandlesRequests : Rules → Image → Keeping → List Chapter → List Entry → List Recovery → Survivor → List Stand → Type 0
HandlesRequests rules image keeping chapters entries recoveries survivor stands =
    HasHandled rules image keeping chapters entries recoveries survivor survivor.now.state.machine.taken stands
    ⊎ (AsksFor rules.limits [] survivor.now survivor.now.state.machine.taken × HasHandled rules image keeping chapters entries recoveries survivor (survivor.now.state.machine.taken + 1) stands × (is_far keeping.every survivor.now.state.machine.taken (slice_get stands 0) ≡ false))

-- Which requests were handled beside the last survivor: where the program waits, those so far and that at which it stands; where it
-- ended or failed, those so far, since it makes none there; and at a fault of writing either is so, the second only where it stands at a request.
abbrev pub HandledAt : Stop → Rules → Image → Keeping → List Chapter → List Entry → List Recovery → Survivor → List Stand → Type 0
HandledAt (stop.Ends (session_end.Exited code)) rules image keeping chapters entries recoveries survivor stands = HasHandled rules image keeping chapters entries recoveries survivor survivor.now.state.machine.taken stands
HandledAt (stop.Ends (session_end.GaveUp point cause)) rules image keeping chapters entries recoveries survivor stands = HasHandled rules image keeping chapters entries recoveries survivor survivor.now.state.machine.taken stands
HandledAt (stop.Breaks session_break.WriteFault) rules image keeping chapters entries recoveries survivor stands = HandlesRequests rules image keeping chapters entries recoveries survivor stands
HandledAt why rules image keeping chapters entries recoveries survivor stands = HasHandled rules image keeping chapters entries recoveries survivor (survivor.now.state.machine.taken + 1) stands

module _ {R : Type 0} where
  -- how a session keeps its checkpoints
  abbrev pub keeping_of : SessionState R → Keeping
  keeping_of session = keeping_by session.options.every session.cpu.slots

  -- no checkpoint is due with the items taken so far
  abbrev pub IsHandled : SessionState R → Type 0
  IsHandled session = is_far session.options.every session.taken (slice_get (stands_of session.cpu.slots.saved) 0) ≡ false

  -- A session's checkpoints are those of the survivor's run, at least one. As runs, the newest first, each goes on as the one behind it, and the
  -- survivor goes on as the newest. Each was saved where its run stands.
  pub record HoldsCheckpoints (rules : Rules) (image : Image) (chapters : List Chapter) (entries : List Entry) (recoveries : List Recovery) (survivor : Survivor) (session : SessionState R) : Type 0 where
    pub paths : List Path
    pub some : 0 < length paths
    pub chained : AreChained rules.limits (items_in rules.bounds entries) survivor.plan image survivor.now paths
    pub are : AreCheckpoints rules.limits image paths
    pub saved : HasSaved session.cpu paths
    pub requests : HandlesRequests rules image (keeping_of session) chapters entries recoveries survivor (stands_of session.cpu.slots.saved)

  -- as many answers of the allocator are recorded as the oldest checkpoint had used
  abbrev pub IsRecorded : SessionState R → Type 0
  IsRecorded session = IfSome (oldest_of session.cpu.slots.saved) (λ oldest. session.recorded ≡ oldest.state.guest.machine.allocations)

  -- All is given up and recorded that no trial needs: the items from before the oldest checkpoint, and no others; and of the answers of the allocator
  -- those that it had used. No send is given up that came later.
  pub record IsTrimmed (session : SessionState R) : Type 0 where
    pub items : IfSome (oldest_of session.cpu.slots.saved) (λ oldest. session.log.first ≡ oldest.state.guest.machine.taken)
    pub recorded : IsRecorded session
    pub sends : IfSome (oldest_of session.cpu.slots.saved) (λ oldest. session.replies.first ≤ oldest.state.sends)

  -- Noting failed before all that was given up and recorded: a call of notes failed that was handed those answers of the allocator that the oldest checkpoint
  -- had used and that aren't recorded. No item is given up that it hadn't taken, and no send that came later.
  pub record IsCutShort (before now : Option Unnoted) (session : SessionState R) : Type 0 where
    pub items : IfSome (oldest_of session.cpu.slots.saved) (λ oldest. session.log.first ≤ oldest.state.guest.machine.taken)
    pub recorded : IfSome (oldest_of session.cpu.slots.saved) (λ oldest. FailsUpTo before now oldest.state.guest.machine.allocations session.recorded session.choices)
    pub sends : IfSome (oldest_of session.cpu.slots.saved) (λ oldest. session.replies.first ≤ oldest.state.sends)

  -- what is asked for before sends are given up: there is an oldest checkpoint, no trial is under way, and what it had sent was sent
  pub record CanForgetSends (session : SessionState R) : Type 0 where
    pub some : 0 < length session.cpu.slots.saved
    pub trial : session.replies.trial ≡ None
    pub sends : IfSome (oldest_of session.cpu.slots.saved) (λ oldest. oldest.state.sends ≤ session.replies.first + length session.replies.kept)

  -- the oldest checkpoint stands, and nothing more was given up or recorded
  pub record KeepsOldest (old new : SessionState R) : Type 0 where
    pub oldest : oldest_of new.cpu.slots.saved ≡ oldest_of old.cpu.slots.saved
    pub first : new.log.first ≡ old.log.first
    pub recorded : new.recorded ≡ old.recorded
    pub sends : new.replies.first ≡ old.replies.first
    pub keeping : keeping_of new ≡ keeping_of old

  -- What a session leaves at an end or at a fault of its link, by its telling: the checkpoints of the survivor's run. The items from before the
  -- oldest one were given up, and no others. At an end so were the sends; and the guest stands where the survivor does, unless none survived.
  -- At a fault as many answers of the allocator are recorded as the oldest one had used. Those checkpoints stand that the requests so far left.
  pub record HasLeft (rules : Rules) (image : Image) (telling : Telling) (session : SessionState R) (why : Stop) : Type 0 where
    pub holds : HoldsCheckpoints rules image telling.account.earlier (before_end telling.account) telling.recoveries telling.account.survivor session
    pub oldest : Path
    pub oldest_is : slice_get holds.paths (length holds.paths - 1) ≡ Some oldest
    pub items : session.log.first ≡ oldest.state.machine.taken
    pub sends : AtEnd why (λ end. session.replies.first ≡ length oldest.state.sends)
    pub stands : AtEnd why (λ end. UnlessGaveUp end (session.cpu.slots.live ≡ standing_of telling.account.survivor.now))
    pub recorded : AtBreak why (λ fault. session.recorded ≡ length oldest.choices)
    pub requests : HandledAt why rules image (keeping_of session) telling.account.earlier (before_end telling.account) telling.recoveries telling.account.survivor (stands_of session.cpu.slots.saved)

  -- What a session leaves at a fault of its notes and where memory ran out, by its telling: the checkpoints of the survivor's run, those that its requests left.
  -- No item is given up that the oldest one hadn't taken, no send that came later, and no more answers of the allocator are recorded than it had used. And the
  -- items from before it are given up, and all those answers recorded; or a call of its notes failed that was handed just the answers that aren't.
  pub record HasKept (rules : Rules) (image : Image) (before now : Option Unnoted) (telling : Telling) (session : SessionState R) : Type 0 where
    pub holds : HoldsCheckpoints rules image telling.account.earlier (before_end telling.account) telling.recoveries telling.account.survivor session
    pub oldest : Path
    pub oldest_is : slice_get holds.paths (length holds.paths - 1) ≡ Some oldest
    pub items : session.log.first ≤ oldest.state.machine.taken
    pub sends : session.replies.first ≤ length oldest.state.sends
    pub recorded : session.recorded ≤ length oldest.choices
    pub up_to : ((session.log.first ≡ oldest.state.machine.taken) × (session.recorded ≡ length oldest.choices)) ⊎ FailsUpTo before now (length oldest.choices) session.recorded session.choices

  -- What a session leaves, by why it stopped. What the first failed call of its notes was handed was the first of these when it began, and is the second now.
  abbrev pub LeavesBy : Rules → Image → Option Unnoted → Option Unnoted → Telling → SessionState R → Stop → Type 0
  LeavesBy rules image before now telling session (stop.Breaks session_break.FileFault) = HasKept rules image before now telling session
  LeavesBy rules image before now telling session (stop.Breaks session_break.Memory) = HasKept rules image before now telling session
  LeavesBy rules image before now telling session why = HasLeft rules image telling session why
