-- The checkpoints that a session holds for the run that it answers for, and what it gave up.
use Rattle.session_history.specs.declared.ends.SessionBreak.TheVariants as session_break
use Rattle.session_history.specs.declared.ends.SessionEnd.TheVariants as session_end
use Rattle.circular_buffer.proofs.Places.{slice_get-drop}
use Rattle.session_state.proofs.Terms.{List, None, Option, Some, [], ap, append-nil, arith, drop, false, inl, inr, length, length-drop, map, refl, subst, sym, ℕ, ◌++◌, ◌+◌, ◌-◌, ◌∙◌, ◌≡◌, ◌≤◌, IfSome, slice_get, Item, Entry, LinkEvent, Seen, count_true, Checkpoint, oldest_of, items_of, Log, Ledger, Image, AsksFor, Path, Served, CpuState, Standing, SessionBreak, SessionEnd, served_same, AreGiven, heeded, items_in, Chapter, Rules, Survivor, gone_on, asks_under_all, past_request, AreChained, Recovery, Adopted, chained_with, handled_near, handled_on, handled_save, near_handles, HasHandled, HaveRings, Keeping, Stand, handle, is_far, stands_of, KeepsSlots, KeepsRing, SessionState, IsNoteFault, HandlesRequests, HoldsCheckpoints, IsHandled, IsReadFault, IsTrimmed, KeepsOldest, UnlessGaveUp, keeping_of, IsWaitingFor, KeepsCheckpoints, Since, Story, entries, then_story, HasSameGuest}
use Rattle.session_state.proofs.passing.GivenLemmas.{events_of-story}

-- what holds anyhow, holds unless a session gave up
pub unless_gave_up : (end : SessionEnd) (P : Type 0) → P → UnlessGaveUp end P
unless_gave_up (session_end.GaveUp point cause) P holds = tt
unless_gave_up session_end.Finished P holds = holds
unless_gave_up _ P holds = holds

-- a fault of notes comes at no request
pub note_at_none : (why : SessionBreak) → IsNoteFault why → IsReadFault why → ⊥
note_at_none session_break.FileFault note is = is
note_at_none session_break.Memory note is = is
note_at_none _ note is = absurd note

-- the journal brings more items
pub handled_more : {rules : Rules} {image : Image} {keeping : Keeping} {chapters : List Chapter} {before after : List Entry} (more : List Item) {recoveries : List Recovery} {survivor : Survivor} {requests : ℕ} {stands : List Stand}
    → items_in rules.bounds after ≡ items_in rules.bounds before ++ more → HasHandled rules image keeping chapters before recoveries survivor requests stands → HasHandled rules image keeping chapters after recoveries survivor requests stands
handled_more {rules = rules} {after = after} more {survivor = survivor} grown h = handled_on h after more survivor refl refl (served_same rules.limits (items_in rules.bounds after) survivor.plan survivor.now) grown

pub requests_more : {rules : Rules} {image : Image} {keeping : Keeping} {chapters : List Chapter} {before after : List Entry} (more : List Item) {recoveries : List Recovery} {survivor : Survivor} {stands : List Stand}
    → items_in rules.bounds after ≡ items_in rules.bounds before ++ more → HandlesRequests rules image keeping chapters before recoveries survivor stands → HandlesRequests rules image keeping chapters after recoveries survivor stands
requests_more more grown (inl h) = inl (handled_more more grown h)
requests_more more grown (inr h) = inr (h.0, handled_more more grown h.1, h.2)

-- the survivor goes on beside the same journal
handled_to : {rules : Rules} {image : Image} {keeping : Keeping} {chapters : List Chapter} {entries : List Entry} {recoveries : List Recovery} {survivor : Survivor} {to : Path} {requests : ℕ} {stands : List Stand}
    → Served rules.limits (items_in rules.bounds entries) survivor.plan survivor.now to → HasHandled rules image keeping chapters entries recoveries survivor requests stands
    → HasHandled rules image keeping chapters entries recoveries (gone_on survivor to) requests stands
handled_to {rules = rules} {entries = entries} {survivor = survivor} {to = to} served h = handled_on h entries [] (gone_on survivor to) refl refl served (sym (append-nil (items_in rules.bounds entries)))

-- and takes no item: its requests so far are those that were
pub requests_on : {rules : Rules} {image : Image} {keeping : Keeping} {chapters : List Chapter} {entries : List Entry} {recoveries : List Recovery} {survivor : Survivor} {to : Path} {stands : List Stand}
    → Served rules.limits (items_in rules.bounds entries) survivor.plan survivor.now to → to.state.machine.taken ≡ survivor.now.state.machine.taken → HandlesRequests rules image keeping chapters entries recoveries survivor stands
    → HandlesRequests rules image keeping chapters entries recoveries (gone_on survivor to) stands
requests_on {rules = rules} {image = image} {keeping = keeping} {chapters = chapters} {entries = entries} {recoveries = recoveries} {survivor = survivor} {to = to} {stands = stands} served same (inl h) =
    inl
    (subst (λ n. HasHandled rules image keeping chapters entries recoveries (gone_on survivor to) n stands) (sym same)
    (handled_to served h))
requests_on {rules = rules} {image = image} {keeping = keeping} {chapters = chapters} {entries = entries} {recoveries = recoveries} {survivor = survivor} {to = to} {stands = stands} served same (inr h) =
    elim (past_request rules.limits (items_in rules.bounds entries) survivor.plan survivor.now to h.0 served) [
      | inl stays ↦ subst (λ (p : Path). HandlesRequests rules image keeping chapters entries recoveries (gone_on survivor p) stands) stays (inr h)
      | inr later ↦ absurd (omega (arith, later, same))
    ]

-- it takes the item of a request that was handled
pub requests_taken : {rules : Rules} {image : Image} {keeping : Keeping} {chapters : List Chapter} {entries : List Entry} {recoveries : List Recovery} {survivor : Survivor} {to : Path} {stands : List Stand}
    → Served rules.limits (items_in rules.bounds entries) survivor.plan survivor.now to → to.state.machine.taken ≡ survivor.now.state.machine.taken + 1
    → HasHandled rules image keeping chapters entries recoveries survivor (survivor.now.state.machine.taken + 1) stands → HandlesRequests rules image keeping chapters entries recoveries (gone_on survivor to) stands
requests_taken {rules = rules} {image = image} {keeping = keeping} {chapters = chapters} {entries = entries} {recoveries = recoveries} {survivor = survivor} {to = to} {stands = stands} served more h =
    inl
    (subst (λ n. HasHandled rules image keeping chapters entries recoveries (gone_on survivor to) n stands) (sym more)
    (handled_to served h))

-- so each recovery had its ring
pub rings_of : {rules : Rules} {image : Image} {keeping : Keeping} {chapters : List Chapter} {entries : List Entry} {recoveries : List Recovery} {survivor : Survivor} {requests : ℕ} {stands : List Stand}
    → HasHandled rules image keeping chapters entries recoveries survivor requests stands → HaveRings rules image keeping chapters recoveries
rings_of h = record { followed = h.followed; before = h.before; written = h.earlier; last = h.begun; rings = h.rings }

rings_now : {rules : Rules} {image : Image} {keeping : Keeping} {chapters : List Chapter} {entries : List Entry} {recoveries : List Recovery} {survivor : Survivor} {stands : List Stand}
    → HandlesRequests rules image keeping chapters entries recoveries survivor stands → HaveRings rules image keeping chapters recoveries
rings_now (inl h) = rings_of h
rings_now (inr h) = rings_of h.1

module _ {R : Type 0} where
  -- at a request that was handled
  pub requests_handled : {rules : Rules} {image : Image} {keeping : Keeping} {chapters : List Chapter} {entries : List Entry} {recoveries : List Recovery} {survivor : Survivor} {ring : List Path} {cpu : CpuState R} {log : Log} {ledger : Ledger}
      → keeping.pages ≡ cpu.slots.pages → KeepsRing rules image entries survivor.plan survivor.now ring cpu log ledger → AsksFor rules.limits [] survivor.now survivor.now.state.machine.taken
      → is_far keeping.every survivor.now.state.machine.taken (slice_get (stands_of cpu.slots.saved) 0) ≡ false → HandlesRequests rules image keeping chapters entries recoveries survivor (stands_of cpu.slots.saved)
      → HasHandled rules image keeping chapters entries recoveries survivor (survivor.now.state.machine.taken + 1) (stands_of cpu.slots.saved)
  requests_handled pages keeps asks near (inl h) = handled_near pages keeps asks near h
  requests_handled pages keeps asks near (inr h) = h.1

  -- a request is handled
  pub requests_saved : {rules : Rules} {image : Image} {keeping : Keeping} {chapters : List Chapter} {entries : List Entry} {recoveries : List Recovery} {survivor : Survivor} {next : List Stand} {ring : List Path} {cpu : CpuState R} {log : Log} {ledger : Ledger}
      → keeping.pages ≡ cpu.slots.pages → count_true cpu.written ≡ cpu.slots.written → KeepsRing rules image entries survivor.plan survivor.now ring cpu log ledger → AsksFor rules.limits [] survivor.now survivor.now.state.machine.taken
      → next ≡ handle keeping survivor.now.state.machine.taken cpu.slots.written (stands_of cpu.slots.saved) → is_far keeping.every survivor.now.state.machine.taken (slice_get next 0) ≡ false
      → HandlesRequests rules image keeping chapters entries recoveries survivor (stands_of cpu.slots.saved) → HandlesRequests rules image keeping chapters entries recoveries survivor next
  requests_saved pages counted keeps asks is near (inl h) = inr (asks, handled_save pages counted keeps asks is h, near)
  requests_saved {rules = rules} {image = image} {keeping = keeping} {chapters = chapters} {entries = entries} {recoveries = recoveries} {survivor = survivor} {cpu = cpu} pages counted keeps asks is near (inr h) =
      inr (
        asks,
        subst (HasHandled rules image keeping chapters entries recoveries survivor (survivor.now.state.machine.taken + 1))
            (near_handles keeping survivor.now.state.machine.taken cpu.slots.written (stands_of cpu.slots.saved) h.2 ∙ sym is) h.1,
        near,
      )

  -- what holds of how a session keeps its checkpoints, and of those that stand, by a guest with the same ones
  abbrev pub stands_by : (P : Keeping → List Stand → Type 0) (old new : SessionState R) → new.cpu.slots.saved ≡ old.cpu.slots.saved → keeping_of new ≡ keeping_of old → P (keeping_of old) (stands_of old.cpu.slots.saved) → P (keeping_of new) (stands_of new.cpu.slots.saved)
  stands_by P old new same keeping holds = subst (λ (at : Keeping × List (Checkpoint Standing)). P at.0 (stands_of at.1)) (λ i. (sym keeping i, sym same i)) holds

  -- by a guest with the same checkpoints
  abbrev pub held_by : (rules : Rules) (image : Image) (chapters : List Chapter) (entries : List Entry) (recoveries : List Recovery) (survivor : Survivor) (old new : SessionState R) → new.cpu.slots.saved ≡ old.cpu.slots.saved → keeping_of new ≡ keeping_of old
      → HoldsCheckpoints rules image chapters entries recoveries survivor old → HoldsCheckpoints rules image chapters entries recoveries survivor new
  held_by rules image chapters entries recoveries survivor old new same keeping h = record {
    paths = h.paths;
    some = h.some;
    chained = h.chained;
    are = h.are;
    saved = ap (λ (saved : List (Checkpoint Standing)). map (λ (one : Checkpoint Standing). one.state) saved) same ∙ h.saved;
    requests = stands_by (λ k stands. HandlesRequests rules image k chapters entries recoveries survivor stands) old new same keeping h.requests;
  }

  -- behind entries that brought more items
  pub held_more : {rules : Rules} {image : Image} {chapters : List Chapter} {before after : List Entry} (more : List Item) {recoveries : List Recovery} {survivor : Survivor} {session : SessionState R} → items_in rules.bounds after ≡ items_in rules.bounds before ++ more
      → HoldsCheckpoints rules image chapters before recoveries survivor session → HoldsCheckpoints rules image chapters after recoveries survivor session
  held_more {rules = rules} {image = image} {before = before} more {survivor = survivor} grown h = record {
    paths = h.paths;
    some = h.some;
    chained = subst (λ (items : List Item). AreChained rules.limits items survivor.plan image survivor.now h.paths) (sym grown) (chained_with rules.limits (items_in rules.bounds before) more survivor.plan image survivor.now h.paths h.chained);
    are = h.are;
    saved = h.saved;
    requests = requests_more more grown h.requests;
  }

  -- or the same items
  pub held_as : {rules : Rules} {image : Image} {chapters : List Chapter} {before after : List Entry} {recoveries : List Recovery} {survivor : Survivor} {session : SessionState R} → items_in rules.bounds after ≡ items_in rules.bounds before
      → HoldsCheckpoints rules image chapters before recoveries survivor session → HoldsCheckpoints rules image chapters after recoveries survivor session
  held_as {rules = rules} {before = before} same h = held_more [] (same ∙ sym (append-nil (items_in rules.bounds before))) h

  -- where the guest waits, its request is handled
  pub waits_handled : {rules : Rules} {image : Image} {began : Since} {seen : Seen} {session : SessionState R} (w : IsWaitingFor rules image began seen session) → IsHandled session
      → HasHandled rules image (keeping_of session) w.hearing.story.earlier (entries w.hearing.story) w.hearing.story.recoveries w.hearing.story.survivor (w.hearing.story.survivor.now.state.machine.taken + 1) (stands_of session.cpu.slots.saved)
  waits_handled {rules = rules} {session = session} w handled =
      let h = w.hearing in
      let path : Path = h.story.survivor.now in
      requests_handled refl h.saved.ring
      (asks_under_all rules.limits h.story.survivor.plan [] path path.state.machine.taken h.asks) (subst (λ n. is_far session.options.every n (slice_get (stands_of session.cpu.slots.saved) 0) ≡ false) h.answers.taken handled)
      h.saved.requests

  -- a session that keeps its checkpoints holds them
  pub held_of : {rules : Rules} {image : Image} {story : Story} {session : SessionState R} → KeepsCheckpoints rules image story session → HoldsCheckpoints rules image story.earlier (entries story) story.recoveries story.survivor session
  held_of k =
      record { paths = k.paths; some = k.ring.some; chained = k.ring.chained; are = k.ring.are; saved = k.ring.saved; requests = k.requests }

  -- each recovery had its ring
  pub rings_held : {rules : Rules} {image : Image} {chapters : List Chapter} {entries : List Entry} {recoveries : List Recovery} {survivor : Survivor} {session : SessionState R} → HoldsCheckpoints rules image chapters entries recoveries survivor session
      → HaveRings rules image (keeping_of session) chapters recoveries
  rings_held h = rings_now h.requests

  -- behind pieces that were passed
  pub held_given : {rules : Rules} {image : Image} (story : Story) {session : SessionState R} (more : List Entry) → AreGiven more
      → HoldsCheckpoints rules image story.earlier (entries story) story.recoveries story.survivor session → HoldsCheckpoints rules image story.earlier (entries (then_story story more)) story.recoveries story.survivor session
  held_given {rules = rules} story more given h =
      held_as
      (ap (λ (es : List LinkEvent). items_of rules.bounds.framing (heeded rules.bounds es)) (events_of-story rules.bounds story more given)) h

  -- where the oldest checkpoint stands and nothing more was given up, all is given up still
  pub trimmed_still : {old new : SessionState R} → KeepsOldest old new → IsTrimmed old → IsTrimmed new
  trimmed_still keeps trimmed = record {
    items = subst (λ (at : Option (Checkpoint Standing) × ℕ). IfSome at.0 (λ oldest. at.1 ≡ oldest.state.guest.machine.taken)) (λ i. (sym keeps.oldest i, sym keeps.first i)) trimmed.items;
    recorded = subst (λ (at : Option (Checkpoint Standing) × ℕ). IfSome at.0 (λ oldest. at.1 ≡ oldest.state.guest.machine.allocations)) (λ i. (sym keeps.oldest i, sym keeps.recorded i)) trimmed.recorded;
    sends = subst (λ (at : Option (Checkpoint Standing) × ℕ). IfSome at.0 (λ oldest. at.1 ≤ oldest.state.sends)) (λ i. (sym keeps.oldest i, sym keeps.sends i)) trimmed.sends;
  }

  pub oldest_then : {old mid new : SessionState R} → KeepsOldest old mid → KeepsOldest mid new → KeepsOldest old new
  oldest_then first second = record {
    oldest = second.oldest ∙ first.oldest;
    first = second.first ∙ first.first;
    recorded = second.recorded ∙ first.recorded;
    sends = second.sends ∙ first.sends;
    keeping = second.keeping ∙ first.keeping;
  }

  -- the guest is as it was
  pub guest_oldest : {old new : SessionState R} → HasSameGuest old new → KeepsOldest old new
  guest_oldest same = record {
    oldest = ap (λ (cpu : CpuState R). oldest_of cpu.slots.saved) same.cpu;
    first = same.first;
    recorded = same.recorded;
    sends = same.sends;
    keeping = same.keeping;
  }

  -- pieces were passed
  pub passed_oldest : {old new : SessionState R} → new ≡ record old { replies = new.replies } → new.replies.first ≡ old.replies.first → KeepsOldest old new
  passed_oldest same first = record {
    oldest = ap (λ (s : SessionState R). oldest_of s.cpu.slots.saved) same;
    first = ap (λ (s : SessionState R). s.log.first) same;
    recorded = ap (λ (s : SessionState R). s.recorded) same;
    sends = first;
    keeping = ap (λ (s : SessionState R). keeping_of s) same;
  }

  -- a recovery leaves the oldest checkpoint
  pub slots_oldest : (adopted : Option Adopted) (old new : CpuState R) → KeepsSlots adopted old new → oldest_of new.slots.saved ≡ oldest_of old.slots.saved
  slots_oldest None old new same = ap (λ (saved : List (Checkpoint Standing)). oldest_of saved) same
  slots_oldest (Some adopted) old new slots = ap (λ (saved : List (Checkpoint Standing)). oldest_of saved) slots.1
      ∙ slice_get-drop adopted.index old.slots.saved (length (drop adopted.index old.slots.saved) - 1) (length old.slots.saved - 1) (omega (arith, length-drop adopted.index old.slots.saved, slots.0))
