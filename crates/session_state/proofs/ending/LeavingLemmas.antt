-- What a session leaves at its end: what it gave up, and what it keeps.
use Rattle.session_history.specs.declared.ends.Stop.TheVariants as stop
use Rattle.std.specs.List.{position_or_len}
use Rattle.item_log.specs.Log as logs
use Rattle.reply_ledger.specs.Ledger.{is_open}
use Rattle.reply_ledger.specs.Trimming as ledgers
use Rattle.reply_ledger.proofs.PartLemmas.{next_none}
use Rattle.session_history.specs.declared.ends.SessionBreak.TheVariants as session_break
use Rattle.session_history.specs.declared.ends.SessionEnd.TheVariants as session_end
use Rattle.guest_cpu.specs.declared.marks.Marks.{Marks}
use Rattle.recovery.proofs.Starting.{kept_at}
use Rattle.recovery.proofs.Survived.{behind_at}
use Rattle.link_gate.specs.declared.pass_fault.PassFault.TheVariants as pass_fault
use Rattle.recovery.proofs.Stands.{ring_length}
use Rattle.session_state.proofs.Lemmas.{held_by, between_at}
use Rattle.session_state.proofs.Terms.{Bool, List, None, Option, Some, [], ap, append-nil, append_assoc, arith, cond, drop, false, inl, inr, length, length-drop, max, min, not, refl, subst, suc, sym, true, ℕ, ◌++◌, ◌+◌, ◌-◌, ◌∙◌, ◌∷◌, ◌≡◌, ◌≤◌, ◌⊎◌, IfSome_then, none-some, same_Some, IfSome, ◌&&◌, Send, Entry, Coming, Choice, Checkpoint, oldest_of, Log, Connection, Ledger, is_left, next_part, parts_behind, settled, unpassed, waits, Image, Override, Path, CpuState, standing_of, Standing, marks_of, SessionBreak, SessionEnd, StandsAt, before_end, items_in, Chapter, Rules, Survivor, AreBetween, PassFault, Unnoted, Recovery, HasOldest, after_oldest, has_oldest, oldest_kept, oldest_used, between_behind, HasHandled, Keeping, Stand, stands_of, AreBehind, KeepsRing, taken_in, SessionState, FailsUpTo, IsNoteFault, Telling, CanForgetSends, HandledAt, HandlesRequests, HasKept, HasLeft, HoldsCheckpoints, IsAtRequest, IsCutShort, IsReadFault, IsRecorded, IsTrimmed, LeavesBy, UnlessGaveUp, keeping_of, IsAnswerTo, TrimsAt}
use Rattle.session_state.proofs.recovering.AdoptLemmas.{asks_or_fails}

-- where each send fails a test of its part, none is the first that passes it
none_passes : (p : Send → Bool) (C : List Connection) (front sends : List Send) → ((x : List Send) (y : Send) (z : List Send) → sends ≡ x ++ y ∷ z → p (unpassed C (front ++ x) y) ≡ false)
    → position_or_len p (parts_behind C front sends) ≡ length sends
unfolding parts_behind
none_passes p C front [] none = refl
none_passes p C front (send ∷ sends) none =
    let first : p (unpassed C front send) ≡ false = ap (λ (f : List Send). p (unpassed C f send)) (sym (append-nil front)) ∙ none [] send sends refl in
    let rest = none_passes p C (front ++ send ∷ []) sends (λ x y z split. ap (λ (f : List Send). p (unpassed C f y)) (append_assoc front (send ∷ []) x) ∙ none (send ∷ x) y z (ap (λ l. send ∷ l) split)) in
    ap (λ (b : Bool). cond (not b) (1 + position_or_len p (parts_behind C (front ++ send ∷ []) sends)) 0) first ∙ (ap (λ n. 1 + n) rest ∙ (let one : 1 + length sends ≡ suc (length sends) = omega arith in one))

-- where nothing may be passed any more, no kept send waits
all_settled : (ledger : Ledger) (sends : List Send) {until taken : ℕ} → next_part ledger until ≡ None → ledger.kept ≡ drop ledger.first sends → AreBetween 0 taken sends → taken ≤ until → settled ledger ≡ length ledger.kept
unfolding settled waits unpassed
all_settled ledger sends {until = until} {taken = taken} none kept timed low = none_passes (waits ledger.connections) ledger.connections [] ledger.kept here
  where
    between : AreBetween 0 taken ledger.kept
    between = subst (AreBetween 0 taken) (sym kept) (between_behind ledger.first 0 taken sends timed)

    here : (x : List Send) (y : Send) (z : List Send) → ledger.kept ≡ x ++ y ∷ z → waits ledger.connections (unpassed ledger.connections x y) ≡ false
    here x y z split = by (is_open ledger.connections y.conn) refl
      where
        by : (b : Bool) → is_open ledger.connections y.conn ≡ b → (is_open ledger.connections y.conn && is_left (unpassed ledger.connections x y)) ≡ false
        by true opened =
            ap (λ b. b && is_left (unpassed ledger.connections x y)) opened ∙ next_none ledger until none x y z split opened (omega (arith, between_at 0 x z y (subst (AreBetween 0 taken) split between), low))
        by false shut = ap (λ b. b && is_left (unpassed ledger.connections x y)) shut

-- what stands at an end
pub end_requests : {rules : Rules} {image : Image} (coming : Option Coming) {keeping : Keeping} {chapters : List Chapter} {entries : List Entry} {recoveries : List Recovery} {survivor : Survivor} {stands : List Stand} (end : SessionEnd) → StandsAt rules entries coming survivor end
    → HandlesRequests rules image keeping chapters entries recoveries survivor stands → (IsAtRequest end → HasHandled rules image keeping chapters entries recoveries survivor (survivor.now.state.machine.taken + 1) stands)
    → HandledAt (stop.Ends end) rules image keeping chapters entries recoveries survivor stands
end_requests coming session_end.Finished where_at h handled = handled tt
end_requests coming (session_end.InputRefused kind offset) where_at h handled = handled tt
end_requests coming (session_end.MessageTooLong conn) where_at h handled = handled tt
end_requests coming session_end.LimitItems where_at h handled = handled tt
end_requests coming session_end.LimitEvents where_at h handled = handled tt
end_requests coming (session_end.Exited code) where_at (inl h) handled = h
end_requests coming (session_end.Exited code) where_at (inr h) handled = absurd (none-some code (sym h.0.lives ∙ where_at))
end_requests coming (session_end.GaveUp point cause) where_at (inl h) handled = h
end_requests coming (session_end.GaveUp point cause) where_at (inr h) handled = absurd (asks_or_fails h.0 where_at.0)

-- what holds of the oldest checkpoint, if there is one, where one is
at_oldest : {ring : List Path} {saved : List (Checkpoint Standing)} (o : HasOldest ring saved) (P : Checkpoint Standing → Type 0) → IfSome (oldest_of saved) P → P o.checkpoint
at_oldest o P = subst (λ (s : Option (Checkpoint Standing)). IfSome s P) o.first

of_oldest : {ring : List Path} {saved : List (Checkpoint Standing)} (o : HasOldest ring saved) (P : Checkpoint Standing → Type 0) → P o.checkpoint → IfSome (oldest_of saved) P
of_oldest o P = subst (λ (s : Option (Checkpoint Standing)). IfSome s P) (sym o.first)

module _ {R : Type 0} where
  -- the oldest of the checkpoints that a session holds
  pub oldest_held : {rules : Rules} {image : Image} {chapters : List Chapter} {entries : List Entry} {recoveries : List Recovery} {survivor : Survivor} {session : SessionState R} (h : HoldsCheckpoints rules image chapters entries recoveries survivor session) → HasOldest h.paths session.cpu.slots.saved
  oldest_held {session = session} h = has_oldest session.cpu.slots.saved h.paths h.some h.saved

  -- what is asked for before sends are given up
  pub can_forget_sends : {rules : Rules} {image : Image} {chapters : List Chapter} {entries : List Entry} {recoveries : List Recovery} {survivor : Survivor} {session : SessionState R} (h : HoldsCheckpoints rules image chapters entries recoveries survivor session) {ledger : Ledger}
      → ledger.kept ≡ drop ledger.first survivor.now.state.sends → ledger.first ≤ length survivor.now.state.sends → ledger.trial ≡ None → CanForgetSends (record session { replies = ledger })
  can_forget_sends {rules = rules} {image = image} {entries = entries} {survivor = survivor} {session = session} h {ledger = ledger} kept counted none =
      let o = oldest_held h in
      let before = (after_oldest rules.limits (items_in rules.bounds entries) survivor.plan image survivor.now h.paths o.oldest h.chained o.last).0 in
      let all : length ledger.kept ≡ length survivor.now.state.sends - ledger.first = ap length kept ∙ length-drop ledger.first survivor.now.state.sends in
      record {
        some = omega (arith, ring_length session.cpu.slots.saved h.paths h.saved, h.some);
        trial = none;
        sends = of_oldest o (λ oldest. oldest.state.sends ≤ ledger.first + length ledger.kept) (omega (arith, ap (λ (s : Standing). s.sends) o.stands, before.sends, all, counted));
      }

  -- a session that noted all that no trial can take back
  pub noted_up : (cpu : CpuState R) (marks : Marks) → IfSome (oldest_of cpu.slots.saved) (λ one. marks ≡ marks_of one.state) → IfSome (oldest_of cpu.slots.saved) (λ oldest. marks.choices ≡ oldest.state.guest.machine.allocations)
  noted_up cpu marks is = IfSome_then (oldest_of cpu.slots.saved) is (λ one here. ap (λ (m : Marks). m.choices) here)

  -- no more is noted than the oldest checkpoint had used
  pub noted_low : {rules : Rules} {image : Image} {entries : List Entry} {plan : List Override} {now : Path} {ring : List Path} {cpu : CpuState R} {log : Log} {ledger : Ledger} (marks : Marks) {recorded : ℕ}
      → IfSome (oldest_of cpu.slots.saved) (λ one. marks ≡ marks_of one.state) → KeepsRing rules image entries plan now ring cpu log ledger → AreBehind recorded ring → recorded ≤ marks.choices
  noted_low {rules = rules} {image = image} {entries = entries} {plan = plan} {now = now} {ring = ring} marks {recorded = recorded} is k early =
      let o = oldest_kept k in
      let marked : marks.choices ≡ o.oldest.state.machine.allocations = ap (λ (m : Marks). m.choices) (at_oldest o (λ one. marks ≡ marks_of one.state) is) ∙ ap (λ (s : Standing). s.guest.machine.allocations) o.stands in
      omega (arith, behind_at recorded ring (length ring - 1) o.oldest early o.last, oldest_used rules.limits (items_in rules.bounds entries) plan image now ring o.oldest k.chained o.last, marked)

  -- a session whose notes failed at those answers of the allocator
  pub cut_short : {rules : Rules} {image : Image} {entries : List Entry} {plan : List Override} {now : Path} {ring : List Path} {session : SessionState R} {before after : Option Unnoted} (marks : Marks)
      → IfSome (oldest_of session.cpu.slots.saved) (λ one. marks ≡ marks_of one.state) → KeepsRing rules image entries plan now ring session.cpu session.log session.replies
      → FailsUpTo before after marks.choices session.recorded session.choices → IsCutShort before after session
  cut_short {rules = rules} {entries = entries} {ring = ring} {session = session} {before = before} {after = after} marks is k fails =
      let o = oldest_kept k in
      let kept = kept_at rules entries session.log session.replies ring (length ring - 1) o.oldest k.kept o.last in
      record {
        items = of_oldest o (λ oldest. session.log.first ≤ oldest.state.guest.machine.taken) (omega (arith, ap taken_in o.stands, kept.items));
        recorded = IfSome_then (oldest_of session.cpu.slots.saved) is (λ one here. subst (λ n. FailsUpTo before after n session.recorded session.choices) (ap (λ (m : Marks). m.choices) here) fails);
        sends = of_oldest o (λ oldest. session.replies.first ≤ oldest.state.sends) (omega (arith, ap (λ (s : Standing). s.sends) o.stands, kept.sends));
      }

  -- it has recorded as many, and has the same others
  pub cut_as : {before after : Option Unnoted} (session : SessionState R) {recorded : ℕ} {choices : List Choice} → recorded ≡ session.recorded → choices ≡ session.choices → IsCutShort before after session
      → IsCutShort before after (record session { recorded = recorded; choices = choices })
  cut_as {before = before} {after = after} session same alike cut =
      subst (λ (at : ℕ × List Choice). IsCutShort before after (record session { recorded = at.0; choices = at.1 })) (λ i. (sym same i, sym alike i)) cut

  -- a session that gave up what lies before its oldest checkpoint
  pub forgot_up : {rules : Rules} {image : Image} {entries : List Entry} {plan : List Override} {now : Path} {ring : List Path} {old : SessionState R} {log : Log} {ledger : Ledger}
      → KeepsRing rules image entries plan now ring old.cpu old.log old.replies
      → IfSome (oldest_of old.cpu.slots.saved) (λ oldest. log ≡ logs.trimmed old.log oldest.state.guest.machine.taken) → IfSome (oldest_of old.cpu.slots.saved) (λ oldest. ledger ≡ ledgers.trimmed old.replies oldest.state.sends)
      → IsRecorded old → IsTrimmed (record old { log = log; replies = ledger })
  forgot_up {rules = rules} {entries = entries} {ring = ring} {old = old} {log = log} {ledger = ledger} k cut less recorded =
      let o = oldest_kept k in
      let kept = kept_at rules entries old.log old.replies ring (length ring - 1) o.oldest k.kept o.last in
      let first : log.first ≡ max old.log.first o.checkpoint.state.guest.machine.taken = ap (λ (l : Log). l.first) (at_oldest o (λ oldest. log ≡ logs.trimmed old.log oldest.state.guest.machine.taken) cut) in
      let left : ledger ≡ ledgers.trimmed old.replies o.checkpoint.state.sends = at_oldest o (λ oldest. ledger ≡ ledgers.trimmed old.replies oldest.state.sends) less in
      record {
        items = of_oldest o (λ oldest. log.first ≡ oldest.state.guest.machine.taken) (omega (arith, first, ap taken_in o.stands, kept.items));
        recorded = recorded;
        sends = of_oldest o (λ oldest. ledger.first ≤ oldest.state.sends) (omega (arith, ap (λ (l : Ledger). l.first) left, ap (λ (s : Standing). s.sends) o.stands, kept.sends));
      }

  -- at the start all is given up that lies before it: nothing
  pub start_trimmed : {ring : List Path} {session : SessionState R} → HasOldest ring session.cpu.slots.saved → (oldest : Path) → oldest_of ring ≡ Some oldest
      → session.log.first ≡ oldest.state.machine.taken → session.recorded ≡ oldest.state.machine.allocations → session.replies.first ≤ length oldest.state.sends → IsTrimmed session
  start_trimmed {session = session} o oldest last items recorded sends =
      let stands : o.checkpoint.state ≡ standing_of oldest = o.stands ∙ ap standing_of (same_Some o.oldest oldest (sym o.last ∙ last)) in
      record {
        items = of_oldest o (λ oldest. session.log.first ≡ oldest.state.guest.machine.taken) (items ∙ sym (ap taken_in stands));
        recorded = of_oldest o (λ oldest. session.recorded ≡ oldest.state.guest.machine.allocations) (recorded ∙ sym (ap (λ (s : Standing). s.guest.machine.allocations) stands));
        sends = of_oldest o (λ oldest. session.replies.first ≤ oldest.state.sends) (omega (arith, ap (λ (s : Standing). s.sends) stands, sends));
      }

  -- the oldest checkpoint used the answers of the allocator that its run has
  used_there : {rules : Rules} {image : Image} {chapters : List Chapter} {entries : List Entry} {recoveries : List Recovery} {survivor : Survivor} {session : SessionState R} (h : HoldsCheckpoints rules image chapters entries recoveries survivor session)
      → (oldest_held h).checkpoint.state.guest.machine.allocations ≡ length (oldest_held h).oldest.choices
  used_there {rules = rules} {image = image} {entries = entries} {survivor = survivor} h =
      let o = oldest_held h in
      ap (λ (s : Standing). s.guest.machine.allocations) o.stands ∙ oldest_used rules.limits (items_in rules.bounds entries) survivor.plan image survivor.now h.paths o.oldest h.chained o.last

  -- what a session gave up and recorded, by the run of its oldest checkpoint
  trimmed_there : {rules : Rules} {image : Image} {chapters : List Chapter} {entries : List Entry} {recoveries : List Recovery} {survivor : Survivor} {session : SessionState R} → IsTrimmed session → (h : HoldsCheckpoints rules image chapters entries recoveries survivor session)
      → (session.log.first ≡ (oldest_held h).oldest.state.machine.taken) × (session.recorded ≡ length (oldest_held h).oldest.choices) × (session.replies.first ≤ length (oldest_held h).oldest.state.sends)
  trimmed_there {session = session} trimmed h =
      let o = oldest_held h in
      let sends : session.replies.first ≤ o.checkpoint.state.sends = at_oldest o (λ oldest. session.replies.first ≤ oldest.state.sends) trimmed.sends in (
        at_oldest o (λ oldest. session.log.first ≡ oldest.state.guest.machine.taken) trimmed.items ∙ ap taken_in o.stands,
        at_oldest o (λ oldest. session.recorded ≡ oldest.state.guest.machine.allocations) trimmed.recorded ∙ used_there h,
        omega (arith, sends, ap (λ (s : Standing). s.sends) o.stands),
      )

  -- what a session that was broken off leaves
  pub left_off : {rules : Rules} {image : Image} {telling : Telling} {session : SessionState R} {why : SessionBreak} → IsTrimmed session → HoldsCheckpoints rules image telling.account.earlier (before_end telling.account) telling.recoveries telling.account.survivor session
      → HandledAt (stop.Breaks why) rules image (keeping_of session) telling.account.earlier (before_end telling.account) telling.recoveries telling.account.survivor (stands_of session.cpu.slots.saved)
      → HasLeft rules image telling session (stop.Breaks why)
  left_off trimmed h requests =
      let there = trimmed_there trimmed h in
      record { holds = h; oldest = (oldest_held h).oldest; oldest_is = (oldest_held h).last; items = there.0; sends = tt; stands = tt; recorded = there.1; requests = requests }

  -- so it is at a fault of its notes and at want of memory, where all was given up and recorded
  kept_whole : {rules : Rules} {image : Image} {before now : Option Unnoted} {telling : Telling} {session : SessionState R} → IsTrimmed session → HoldsCheckpoints rules image telling.account.earlier (before_end telling.account) telling.recoveries telling.account.survivor session
      → HasKept rules image before now telling session
  kept_whole trimmed h =
      let there = trimmed_there trimmed h in
      record { holds = h; oldest = (oldest_held h).oldest; oldest_is = (oldest_held h).last; items = omega (arith, there.0); sends = there.2; recorded = omega (arith, there.1); up_to = inl (there.0, there.1) }

  -- and where noting failed before that
  kept_short : {rules : Rules} {image : Image} {before now : Option Unnoted} {telling : Telling} {session : SessionState R} → IsCutShort before now session → HoldsCheckpoints rules image telling.account.earlier (before_end telling.account) telling.recoveries telling.account.survivor session
      → HasKept rules image before now telling session
  kept_short {before = before} {now = now} {session = session} cut h =
      let o = oldest_held h in
      let items : session.log.first ≤ o.checkpoint.state.guest.machine.taken = at_oldest o (λ oldest. session.log.first ≤ oldest.state.guest.machine.taken) cut.items in
      let sends : session.replies.first ≤ o.checkpoint.state.sends = at_oldest o (λ oldest. session.replies.first ≤ oldest.state.sends) cut.sends in
      let up_to : FailsUpTo before now (length o.oldest.choices) session.recorded session.choices =
      subst (λ n. FailsUpTo before now n session.recorded session.choices) (used_there h) (at_oldest o (λ oldest. FailsUpTo before now oldest.state.guest.machine.allocations session.recorded session.choices) cut.recorded) in
      record {
        holds = h;
        oldest = o.oldest;
        oldest_is = o.last;
        items = omega (arith, items, ap taken_in o.stands);
        sends = omega (arith, sends, ap (λ (s : Standing). s.sends) o.stands);
        recorded = let more = up_to.more in omega (arith, more);
        up_to = inr up_to;
      }

  kept_by : {rules : Rules} {image : Image} {before now : Option Unnoted} {telling : Telling} {session : SessionState R} → IsTrimmed session ⊎ IsCutShort before now session → HoldsCheckpoints rules image telling.account.earlier (before_end telling.account) telling.recoveries telling.account.survivor session
      → HasKept rules image before now telling session
  kept_by (inl trimmed) h = kept_whole trimmed h
  kept_by (inr cut) h = kept_short cut h

  -- what a session that was broken off leaves, by what broke it off
  pub left_by : {rules : Rules} {image : Image} (before now : Option Unnoted) (telling : Telling) {session : SessionState R} (why : SessionBreak) → TrimsAt before now session (stop.Breaks why)
      → HoldsCheckpoints rules image telling.account.earlier (before_end telling.account) telling.recoveries telling.account.survivor session
      → (IsReadFault why → HasHandled rules image (keeping_of session) telling.account.earlier (before_end telling.account) telling.recoveries telling.account.survivor (telling.account.survivor.now.state.machine.taken + 1) (stands_of session.cpu.slots.saved))
      → LeavesBy rules image before now telling session (stop.Breaks why)
  left_by before now telling session_break.ReadFault trimmed h handled = left_off trimmed h (handled tt)
  left_by before now telling session_break.WriteFault trimmed h handled = left_off trimmed h h.requests
  left_by before now telling session_break.FileFault trimmed h handled = kept_by trimmed h
  left_by before now telling session_break.Memory trimmed h handled = kept_by trimmed h

  -- where a fault of passing broke it off at an end
  pub left_passing : {rules : Rules} {image : Image} (before now : Option Unnoted) (telling : Telling) {session : SessionState R} (why : PassFault) (broken : SessionBreak) → IsAnswerTo why broken → IsTrimmed session
      → HoldsCheckpoints rules image telling.account.earlier (before_end telling.account) telling.recoveries telling.account.survivor session → LeavesBy rules image before now telling session (stop.Breaks broken)
  left_passing {rules = rules} {image = image} before now telling {session = session} pass_fault.WriteFault broken is trimmed h =
      subst (λ (b : SessionBreak). LeavesBy rules image before now telling session (stop.Breaks b)) (sym is) (left_off trimmed h h.requests)
  left_passing {rules = rules} {image = image} before now telling {session = session} pass_fault.Memory broken is trimmed h =
      subst (λ (b : SessionBreak). LeavesBy rules image before now telling session (stop.Breaks b)) (sym is) (kept_whole trimmed h)

  -- and where noting the rest failed there
  pub left_noting : {rules : Rules} {image : Image} (before now : Option Unnoted) (telling : Telling) {session : SessionState R} (why : SessionBreak) → IsNoteFault why → IsTrimmed session
      → HoldsCheckpoints rules image telling.account.earlier (before_end telling.account) telling.recoveries telling.account.survivor session → LeavesBy rules image before now telling session (stop.Breaks why)
  left_noting before now telling session_break.ReadFault is trimmed h = absurd is
  left_noting before now telling session_break.WriteFault is trimmed h = absurd is
  left_noting before now telling session_break.FileFault is trimmed h = kept_whole trimmed h
  left_noting before now telling session_break.Memory is trimmed h = kept_whole trimmed h

  -- and one that came to its end, where nothing that was sent waits
  pub left_end : {rules : Rules} {image : Image} {telling : Telling} {old new : SessionState R} (ledger : Ledger) {end : SessionEnd} {until : ℕ} → IsTrimmed old → HoldsCheckpoints rules image telling.account.earlier (before_end telling.account) telling.recoveries telling.account.survivor old
      → HandledAt (stop.Ends end) rules image (keeping_of new) telling.account.earlier (before_end telling.account) telling.recoveries telling.account.survivor (stands_of new.cpu.slots.saved)
      → UnlessGaveUp end (old.cpu.slots.live ≡ standing_of telling.account.survivor.now) → new.cpu ≡ old.cpu → keeping_of new ≡ keeping_of old → new.log ≡ old.log → ledger.first ≡ old.replies.first
      → ledger.kept ≡ drop ledger.first telling.account.survivor.now.state.sends → ledger.first ≤ length telling.account.survivor.now.state.sends → AreBetween 0 telling.account.survivor.now.state.machine.taken telling.account.survivor.now.state.sends → telling.account.survivor.now.state.machine.taken ≤ until → next_part ledger until ≡ None
      → IfSome (oldest_of old.cpu.slots.saved) (λ oldest. new.replies ≡ ledgers.trimmed ledger oldest.state.sends) → HasLeft rules image telling new (stop.Ends end)
  left_end {rules = rules} {image = image} {telling = telling} {old = old} {new = new} ledger {end = end} trimmed h requests live guest keeping log first kept counted timed low none less =
      let now : Path = telling.account.survivor.now in
      let o = oldest_held h in
      let before = (after_oldest rules.limits (items_in rules.bounds (before_end telling.account)) telling.account.survivor.plan image now h.paths o.oldest h.chained o.last).0 in
      let there = trimmed_there trimmed h in
      let left : new.replies ≡ ledgers.trimmed ledger o.checkpoint.state.sends = at_oldest o (λ oldest. new.replies ≡ ledgers.trimmed ledger oldest.state.sends) less in
      let first_send : new.replies.first ≡ ledger.first + min (o.checkpoint.state.sends - ledger.first) (settled ledger) = ap (λ (l : Ledger). l.first) left in
      let all : settled ledger ≡ length ledger.kept = all_settled ledger now.state.sends none kept timed low in
      let many : length ledger.kept ≡ length now.state.sends - ledger.first = ap length kept ∙ length-drop ledger.first now.state.sends in
      let early = there.2 in
      let most = before.sends in
      record {
        holds = held_by rules image telling.account.earlier (before_end telling.account) telling.recoveries telling.account.survivor old new (ap (λ (cpu : CpuState R). cpu.slots.saved) guest) keeping h;
        oldest = o.oldest;
        oldest_is = o.last;
        items = ap (λ (l : Log). l.first) log ∙ there.0;
        sends = omega (arith, first, early, first_send, all, many, ap (λ (s : Standing). s.sends) o.stands, most);
        stands = live_by end old.cpu new.cpu now guest live;
        recorded = tt;
        requests = requests;
      }
    where
      live_by : (end : SessionEnd) (old new : CpuState R) (now : Path) → new ≡ old → UnlessGaveUp end (old.slots.live ≡ standing_of now) → UnlessGaveUp end (new.slots.live ≡ standing_of now)
      live_by end old new now same live = subst (λ (cpu : CpuState R). UnlessGaveUp end (cpu.slots.live ≡ standing_of now)) (sym same) live
