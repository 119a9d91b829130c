-- A checkpoint is saved while the guest waits for an item.
use Rattle.session_state.proofs.Lemmas.{requests_saved, answers_as, goes_kept, waits_as}
use Rattle.session_state.proofs.Terms.{Bool, List, [], ap, arith, false, length, refl, subst, suc, sym, take, true, zero, ℕ, ◌∙◌, ◌∷◌, ◌≡◌, ◌≤◌, slice_get, Entry, Seen, count_true, Log, Ledger, Image, AsksFor, Override, Path, CpuState, items_in, Rules, asks_under_all, taken_later, survivor_goes, Keeping, handle, is_far, keeping_by, stands_of, AreBehind, KeepsRing, SavesIf, ring_if, CanGoOn, taken_in, SessionState, HandlesRequests, keeping_of, IsWaitingFor, Since, entries}

-- the newest checkpoints of some that used so many answers of the allocator
behind_take : (count number : ℕ) (ring : List Path) → AreBehind count ring → AreBehind count (take number ring)
behind_take count zero ring behind = tt
behind_take count (suc number) [] behind = tt
behind_take count (suc number) (newest ∷ older) behind = (behind.0, behind_take count number older behind.1)

-- a checkpoint that is made where no fewer were used
pub behind_saved : {count : ℕ} (number : ℕ) (due : Bool) (now : Path) (ring : List Path) → count ≤ length now.choices → AreBehind count ring → AreBehind count (ring_if due number now ring)
behind_saved {count = count} number true now ring low behind = behind_take count number (now ∷ ring) (low, behind)
behind_saved number false now ring low behind = behind

module _ {R : Type 0} where
  -- the log has each item that the survivor takes from here on
  pub kept_first : {rules : Rules} {image : Image} {entries : List Entry} {plan : List Override} {now : Path} (ring : List Path) {cpu : CpuState R} {log : Log} {ledger : Ledger}
      → KeepsRing rules image entries plan now ring cpu log ledger → log.first ≤ now.state.machine.taken
  kept_first [] keeps = let some = keeps.some in absurd (omega (arith, some))
  kept_first {rules = rules} {entries = entries} {plan = plan} {now = now} (newest ∷ older) keeps =
      omega (arith, taken_later rules.limits (items_in rules.bounds entries) plan newest now keeps.chained.0, keeps.kept.0.items)

  -- its survivor can go on
  pub waits_goes : {rules : Rules} {image : Image} {began : Since} {seen : Seen} {session : SessionState R} (w : IsWaitingFor rules image began seen session) → CanGoOn rules (entries w.hearing.story) w.hearing.story.survivor.now
  waits_goes {rules = rules} {image = image} {session = session} w =
      let h = w.hearing in
      survivor_goes rules image (entries h.story) h.story.survivor.plan h.story.survivor.now session.replies h.told.serving.carries h.passed.replies (λ lives. h.goes.bounded) h.goes.within

  -- it stands at its request for the item that the session takes next
  pub waits_asks : {rules : Rules} {image : Image} {began : Since} {seen : Seen} {session : SessionState R} (w : IsWaitingFor rules image began seen session)
      → AsksFor rules.limits w.hearing.story.survivor.plan w.hearing.story.survivor.now session.taken
  waits_asks {rules = rules} w =
      let h = w.hearing in
      subst (AsksFor rules.limits h.story.survivor.plan h.story.survivor.now) (sym h.answers.taken) h.asks

  -- the log has all items, and the ledger all that was sent later
  pub waits_whole : {rules : Rules} {image : Image} {began : Since} {seen : Seen} {session : SessionState R} → IsWaitingFor rules image began seen session → session.log.first ≤ session.taken
  waits_whole w =
      let h = w.hearing in
      omega (arith, h.answers.taken, kept_first h.saved.paths h.saved.ring)

  pub waits_counted : {rules : Rules} {image : Image} {began : Since} {seen : Seen} {session : SessionState R} (w : IsWaitingFor rules image began seen session) → session.replies.first ≤ length w.hearing.story.survivor.now.state.sends
  waits_counted w = w.hearing.passed.replies.shows.counted

  -- with other checkpoints it waits on
  pub waits_saved : {rules : Rules} {image : Image} {began : Since} {seen : Seen} {old : SessionState R} {cpu : CpuState R} {paths : List Path} (w : IsWaitingFor rules image began seen old) → cpu.slots.live ≡ old.cpu.slots.live
      → KeepsRing rules image (entries w.hearing.story) w.hearing.story.survivor.plan w.hearing.story.survivor.now paths cpu old.log old.replies → AreBehind old.recorded paths
      → keeping_by old.options.every cpu.slots ≡ keeping_of old → count_true old.cpu.written ≡ old.cpu.slots.written → stands_of cpu.slots.saved ≡ handle (keeping_of old) old.taken old.cpu.slots.written (stands_of old.cpu.slots.saved) → is_far old.options.every old.taken (slice_get (stands_of cpu.slots.saved) 0) ≡ false
      → IsWaitingFor rules image began seen (record old { cpu = cpu })
  waits_saved {rules = rules} {image = image} {old = old} {cpu = cpu} {paths = paths} w live keeps early keeping counted handles near =
      let h = w.hearing in
      waits_as w h.told (answers_as refl refl refl refl h.answers) (goes_kept live h.goes.items refl h.goes)
      (record {
        paths = paths;
        ring = keeps;
        early = early;
        requests =
            subst (λ (k : Keeping). HandlesRequests rules image k h.story.earlier (entries h.story) h.story.recoveries h.story.survivor (stands_of cpu.slots.saved)) (sym keeping)
            (requests_saved refl counted h.saved.ring
            (asks_under_all rules.limits h.story.survivor.plan [] h.story.survivor.now h.story.survivor.now.state.machine.taken h.asks)
            (subst (λ n. stands_of cpu.slots.saved ≡ handle (keeping_of old) n old.cpu.slots.written (stands_of old.cpu.slots.saved)) h.answers.taken handles)
            (subst (λ n. is_far old.options.every n (slice_get (stands_of cpu.slots.saved) 0) ≡ false) h.answers.taken near) h.saved.requests);
        in_force = h.saved.in_force;
      }) h.past h.passed

  -- a save changes nothing of how checkpoints are kept
  pub saves_keeping : (due : Bool) {every : ℕ} (old new : CpuState R) → SavesIf due old new → keeping_by every new.slots ≡ keeping_by every old.slots
  saves_keeping true {every = every} old new saves = ap (keeping_by every) saves
  saves_keeping false {every = every} old new saves = ap (λ (cpu : CpuState R). keeping_by every cpu.slots) saves

  -- the guest has taken as many items as the session
  pub waits_live : {rules : Rules} {image : Image} {began : Since} {seen : Seen} {session : SessionState R} → IsWaitingFor rules image began seen session → taken_in session.cpu.slots.live ≡ session.taken
  waits_live w = ap taken_in w.hearing.goes.guest ∙ sym w.hearing.answers.taken
