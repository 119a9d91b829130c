-- The session stops where its guest waits: at the end of its link, at an event that is refused, at a fault.
use Rattle.session_history.specs.declared.ends.Stop.TheVariants as stop
use Rattle.links.specs.declared.journal.Entry.TheVariants as entry
use Rattle.links.specs.declared.journal.LinkEvent.TheVariants as event
use Rattle.item_log.specs.Log as logs
use Rattle.session_history.specs.declared.ends.SessionBreak.TheVariants as session_break
use Rattle.session_history.specs.declared.ends.SessionEnd.TheVariants as session_end
use Rattle.link_gate.proofs.Knowing.{gone-took}
use Rattle.session_history.proofs.Causes.{last_taken-append}
use Rattle.session_state.proofs.Lemmas.{handled_more, held_as, held_by, held_more, held_of, stands_by, unless_gave_up, waits_handled, owes_nothing, still_takes, answers_as, broken_off, none_lost, none_noted, received_is, IsNoEnd, latest-ended, latest-took, told_event, HasSameRun, answers_still, more_entries, run_keeping, tables_here, told_unwatched}
use Rattle.session_state.proofs.Terms.{Bool, List, None, Some, [], ap, append-nil, arith, false, inl, inr, length, not, refl, subst, sym, true, ℕ, ◌++◌, ◌+◌, ◌∙◌, ◌∷◌, ◌≡◌, ◌≤◌, ◌⊎◌, eqb-true, true≢false, IfSome, ◌&&◌, ◌==◌, Item, Prefix, Send, sent_to, Entry, LinkEvent, tells_then, HasEnded, IsNext, Refuses, Tells, Told, Seen, items_of, Log, Ledger, Image, AsksFor, CpuState, standing_of, SessionEnd, passed_in-took, IsLastRefused, IsWaiting, StandsAt, WasAsked, IsHeard, IsHeeded, IsUnheeded, closing_of, Bounds, Unheeded, events_of, heeded, items_in, received, KeepsReplies, Rules, is_closed_by, is_closing, closes, is_gone, is_open, opens, IsDueBy, Moment, journal, latest, place_at, passed_in, due_by, due_not_gone, IsEvent, events_ended, heeded_without, HasHandled, stands_of, SessionState, GivesUpBy, HoldsCheckpoints, IsHandled, keeping_of, AnswersFor, IsAsking, IsBrokenOff, IsEnding, IsLatestDone, IsTold, IsWaitingFor, Since, Story, entries, moment, sends, then_story}

-- behind an event that is refused no connection closes
pub refused_closes : (bounds : Bounds) (story : Story) (e : LinkEvent) → IsNoEnd e → heeded bounds (events_of bounds (entries (then_story story (entry.Took e ∷ [])))) ≡ heeded bounds (events_of bounds (entries story))
    → ((conn : ℕ) → closing_of e ≡ Some conn → closes conn (heeded bounds (events_of bounds (entries story))) ≡ false) → (conn : ℕ) → is_closing bounds (moment (then_story story (entry.Took e ∷ []))) conn ≡ true → ⊥
refused_closes bounds story e no_end same first conn closing = by e first no_end (sym whole ∙ closing)
  where
    whole : is_closing bounds (moment (then_story story (entry.Took e ∷ []))) conn ≡ (is_closed_by (Some (record { before = story.since; event = e })) conn && closes conn (heeded bounds (events_of bounds (entries story))))
    whole = (λ i. is_closed_by (latest-took story.since no_end i) conn && closes conn (same i))

    by : (e : LinkEvent) → ((conn : ℕ) → closing_of e ≡ Some conn → closes conn (heeded bounds (events_of bounds (entries story))) ≡ false) → IsNoEnd e
        → (is_closed_by (Some (record { before = story.since; event = e })) conn && closes conn (heeded bounds (events_of bounds (entries story)))) ≡ true → ⊥
    by (event.Closes closed) first no_end h = of (closed == conn) refl h
      where
        of : (b : Bool) → (closed == conn) ≡ b → (b && closes conn (heeded bounds (events_of bounds (entries story)))) ≡ true → ⊥
        of true is h = let none : closes conn (heeded bounds (events_of bounds (entries story))) ≡ false = first conn (ap Some (eqb-true closed conn is)) in absurd (true≢false (sym h ∙ none))
        of false is h = cc
    by (event.Opens opened) first no_end h = cc
    by (event.Piece to bytes) first no_end h = cc
    by event.Settles first no_end h = cc
    by event.Ends first no_end h = no_end

-- the end of the link changes nothing
module _ (bounds : Bounds) (story : Story) where
  ended_events : events_of bounds (entries (then_story story (entry.Took event.Ends ∷ []))) ≡ events_of bounds (entries story)
  ended_events = ap (events_of bounds) (sym (more_entries story (entry.Took event.Ends ∷ []))) ∙ events_ended bounds (entries story)

  ended_gone : (conn : ℕ) → is_gone conn (entries (then_story story (entry.Took event.Ends ∷ []))) ≡ is_gone conn (entries story)
  ended_gone conn = ap (is_gone conn) (sym (more_entries story (entry.Took event.Ends ∷ []))) ∙ gone-took conn (entries story) event.Ends

  ended_open : (conn : ℕ) → is_open bounds (entries (then_story story (entry.Took event.Ends ∷ []))) conn ≡ is_open bounds (entries story) conn
  ended_open conn = (λ i. opens conn (heeded bounds (ended_events i)) && not (closes conn (heeded bounds (ended_events i))) && not (ended_gone conn i))

  ended_passed : passed_in bounds (entries (then_story story (entry.Took event.Ends ∷ []))) ≡ passed_in bounds (entries story)
  ended_passed = ap (passed_in bounds) (sym (more_entries story (entry.Took event.Ends ∷ []))) ∙ passed_in-took bounds (entries story) event.Ends

-- what was done stays done there
pub done_ended : (rules : Rules) (story : Story) → IsLatestDone rules (moment story) (sends story) → IsLatestDone rules (moment (then_story story (entry.Took event.Ends ∷ []))) (sends story)
done_ended rules story done send stands due =
    let after : Moment = moment (then_story story (entry.Took event.Ends ∷ [])) in
    let gone_not : is_gone send.conn (journal after) ≡ false = due_not_gone rules.bounds after send.conn send.taken (latest after.since) due in
    let was : IsDueBy rules.bounds (place_at (moment story)) send.conn send.taken (latest (moment story).since) =
    subst (IsDueBy rules.bounds (place_at (moment story)) send.conn send.taken) (latest-ended story.since)
    (due_by rules.bounds after (moment story) send.conn send.taken (latest after.since) refl (sym (ended_open rules.bounds story send.conn))
    (ap (λ (es : List LinkEvent). closes send.conn (heeded rules.bounds es)) (sym (ended_events rules.bounds story))) (sym (ended_gone rules.bounds story send.conn) ∙ gone_not) due) in
    subst (λ (pieces : List Send). Prefix (sent_to send.conn (stands.earlier ++ send ∷ [])) (sent_to send.conn pieces)) (sym (ended_passed rules.bounds story)) (done send stands was)

-- an event that is no end is one of the journal's events
one_event : (e : LinkEvent) → IsNoEnd e → IsEvent e
one_event (event.Opens conn) is = refl
one_event (event.Piece conn bytes) is = refl
one_event (event.Closes conn) is = refl
one_event event.Settles is = refl
one_event event.Ends is = absurd is

-- the link told nothing more
told_nothing : {rules : Rules} {image : Image} {began : Since} {before now : Told} {story : Story} → IsTold rules image began before story → Tells before now [] → IsTold rules image began now story
told_nothing {began = began} {now = now} {story = story} told tells = record {
  serving = told.serving;
  way = told.way;
  tells = subst (Tells began.told now) (append-nil (entries story)) (tells_then _ _ _ _ _ told.tells tells);
  recovered = told.recovered;
  counted = told.counted;
  episodes = told.episodes;
  tables = told.tables;
}

module _ {R : Type 0} where
  -- the story of a session that waits, and took one event more, which brings nothing
  pub waits_took : {rules : Rules} {image : Image} {began : Since} {before : Seen} {now : Told} {old : SessionState R} (w : IsWaitingFor rules image began before old) {e : LinkEvent} → received rules.bounds (entries w.hearing.story) ≤ w.hearing.story.survivor.now.state.machine.taken
      → Tells before.told now (entry.Took e ∷ []) → (more : List Item) → items_in rules.bounds (entries w.hearing.story ++ entry.Took e ∷ []) ≡ items_in rules.bounds (entries w.hearing.story) ++ more
      → IsTold rules image began now (then_story w.hearing.story (entry.Took e ∷ []))
  waits_took {rules = rules} w all tells more brings =
      let story : Story = w.hearing.story in
      let exact : received rules.bounds (entries story) ≡ story.survivor.now.state.machine.taken = omega (arith, w.hearing.told.serving.carries.taken, all) in
      told_event more w.hearing.told (subst (AsksFor rules.limits story.survivor.plan story.survivor.now) (sym exact) w.hearing.asks) (owes_nothing rules story w.due w.hearing.passed.done) w.hearing.goes.items.all_heeded tells brings

  -- it waits behind entries that bring nothing
  pub waits_still : {rules : Rules} {image : Image} {began : Since} {before : Seen} {old : SessionState R} (w : IsWaitingFor rules image began before old) (more : List Entry) → received rules.bounds (entries w.hearing.story) ≤ w.hearing.story.survivor.now.state.machine.taken
      → items_in rules.bounds (entries w.hearing.story ++ more) ≡ items_in rules.bounds (entries w.hearing.story) → IsWaiting rules (entries (then_story w.hearing.story more)) w.hearing.story.survivor
  waits_still {rules = rules} w more all none =
      let story : Story = w.hearing.story in
      let same : items_in rules.bounds (entries (then_story story more)) ≡ items_in rules.bounds (entries story) = ap (items_in rules.bounds) (sym (more_entries story more)) ∙ none in
      let exact : story.survivor.now.state.machine.taken ≡ received rules.bounds (entries (then_story story more)) = omega (arith, w.hearing.told.serving.carries.taken, all, ap length same) in
      subst (AsksFor rules.limits story.survivor.plan story.survivor.now) exact w.hearing.asks

  -- it waits where it is
  waits_here : {rules : Rules} {image : Image} {began : Since} {before : Seen} {old : SessionState R} (w : IsWaitingFor rules image began before old) → received rules.bounds (entries w.hearing.story) ≤ w.hearing.story.survivor.now.state.machine.taken
      → IsWaiting rules (entries w.hearing.story) w.hearing.story.survivor
  waits_here {rules = rules} w all =
      let story : Story = w.hearing.story in
      let exact : story.survivor.now.state.machine.taken ≡ received rules.bounds (entries story) = omega (arith, w.hearing.told.serving.carries.taken, all) in
      subst (AsksFor rules.limits story.survivor.plan story.survivor.now) exact w.hearing.asks

  -- its guest is as it was, with its checkpoints
  held_here : {rules : Rules} {image : Image} {began : Since} {before : Seen} {old new : SessionState R} (w : IsWaitingFor rules image began before old) → HasSameRun old new
      → HoldsCheckpoints rules image w.hearing.story.earlier (entries w.hearing.story) w.hearing.story.recoveries w.hearing.story.survivor new
  held_here {rules = rules} {image = image} {old = old} {new = new} w same =
      held_by rules image w.hearing.story.earlier (entries w.hearing.story) w.hearing.story.recoveries w.hearing.story.survivor old new (ap (λ (cpu : CpuState R). cpu.slots.saved) same.cpu) (run_keeping same) (held_of w.hearing.saved)

  -- and so it is behind one event more
  held_took : {rules : Rules} {image : Image} {began : Since} {before : Seen} {old new : SessionState R} (w : IsWaitingFor rules image began before old) (e : LinkEvent) → HasSameRun old new → (more : List Item)
      → items_in rules.bounds (entries w.hearing.story ++ entry.Took e ∷ []) ≡ items_in rules.bounds (entries w.hearing.story) ++ more
      → HoldsCheckpoints rules image w.hearing.story.earlier (entries (then_story w.hearing.story (entry.Took e ∷ []))) w.hearing.story.recoveries w.hearing.story.survivor new
  held_took {rules = rules} w e same more brings = held_more more (ap (items_in rules.bounds) (sym (more_entries w.hearing.story (entry.Took e ∷ []))) ∙ brings) (held_here w same)

  handled_here : {rules : Rules} {image : Image} {began : Since} {before : Seen} {old new : SessionState R} (w : IsWaitingFor rules image began before old) {after : List Entry}
      → items_in rules.bounds after ≡ items_in rules.bounds (entries w.hearing.story) → HasSameRun old new → IsHandled old
      → HasHandled rules image (keeping_of new) w.hearing.story.earlier after w.hearing.story.recoveries w.hearing.story.survivor (w.hearing.story.survivor.now.state.machine.taken + 1) (stands_of new.cpu.slots.saved)
  handled_here {rules = rules} {image = image} {old = old} {new = new} w {after = after} none same handled =
      let story : Story = w.hearing.story in
      stands_by (λ k stands. HasHandled rules image k story.earlier after story.recoveries story.survivor (story.survivor.now.state.machine.taken + 1) stands) old new (ap (λ (cpu : CpuState R). cpu.slots.saved) same.cpu)
      (run_keeping same) (handled_more [] (none ∙ sym (append-nil (items_in rules.bounds (entries story)))) (waits_handled w handled))

  lives_here : {rules : Rules} {image : Image} {began : Since} {before : Seen} {old new : SessionState R} (w : IsWaitingFor rules image began before old) → HasSameRun old new
      → new.cpu.slots.live ≡ standing_of w.hearing.story.survivor.now
  lives_here w same = ap (λ (cpu : CpuState R). cpu.slots.live) same.cpu ∙ w.hearing.goes.guest

  answers_here : {began : Since} {story : Story} {old new : SessionState R} → HasSameRun old new → AnswersFor began story old → AnswersFor began story new
  answers_here same answers = answers_as same.recorded same.choices same.taken same.steps answers

  -- an event that is refused ends the session
  pub ending_refused : {rules : Rules} {image : Image} {began : Since} {before seen : Seen} {old new : SessionState R} (w : IsWaitingFor rules image began before old) {e : LinkEvent} (cause : Unheeded) {end : SessionEnd} → IsNoEnd e → IsHandled old
      → received rules.bounds (entries w.hearing.story) ≤ w.hearing.story.survivor.now.state.machine.taken → Tells before.told seen.told (entry.Took e ∷ []) → (u : IsUnheeded rules.bounds (entries w.hearing.story) (sends w.hearing.story) e cause new.replies)
      → HasSameRun old new → new.log ≡ old.log → new.replies.trial ≡ None
      → (IsWaiting rules (entries (then_story w.hearing.story (entry.Took e ∷ []))) w.hearing.story.survivor → IsLastRefused rules.bounds (entries (then_story w.hearing.story (entry.Took e ∷ []))) cause
      → StandsAt rules (entries (then_story w.hearing.story (entry.Took e ∷ []))) seen.coming w.hearing.story.survivor end)
      → GivesUpBy None end → IsEnding rules image began seen new end
  ending_refused {rules = rules} {image = image} {began = began} {before = before} {new = new} w {e = e} cause {end = end} no_end handled all tells u same log no_trial stands gave_up =
      let story : Story = w.hearing.story in
      let es = more_entries story (entry.Took e ∷ []) in
      let none : items_in rules.bounds (entries (then_story story (entry.Took e ∷ []))) ≡ items_in rules.bounds (entries story) = ap (items_in rules.bounds) (sym es) ∙ u.brings_none in
      let waits = waits_still w (entry.Took e ∷ []) all u.brings_none in
      let heeds : heeded rules.bounds (events_of rules.bounds (entries (then_story story (entry.Took e ∷ [])))) ≡ heeded rules.bounds (events_of rules.bounds (entries story)) =
      ap (λ (all : List Entry). heeded rules.bounds (events_of rules.bounds all)) (sym es) ∙ heeded_without rules.bounds (entries story) e cause (one_event e no_end) w.hearing.goes.items.all_heeded u.refused in
      record {
        story = then_story story (entry.Took e ∷ []);
        walk = None;
        lost = began.lost;
        lost_is = none_lost;
        noted = began.noted;
        last_noted = none_noted;
        told = told_unwatched (waits_took w all tells [] (u.brings_none ∙ sym (append-nil (items_in rules.bounds (entries story)))));
        tables = tables_here rules (then_story story (entry.Took e ∷ [])) (stop.Ends end) began.tables_before began.tables w.hearing.told.tables;
        answers = answers_still (entry.Took e ∷ []) same w.hearing.answers;
        received_are = ap (λ (l : Log). logs.received l) log ∙ (received_is w.hearing.goes.items ∙ ap length (sym none));
        replies = subst (λ (all : List Entry). KeepsReplies rules.bounds all None (sends story) new.replies) es u.replies;
        no_trial = no_trial;
        closed = λ send stands closing owed. absurd (refused_closes rules.bounds story e no_end heeds u.first_close send.conn closing);
        holds = held_as none (held_here w same);
        handled = λ is. handled_here w none same handled;
        live = unless_gave_up end (new.cpu.slots.live ≡ standing_of story.survivor.now) (lives_here w same);
        stands = stands waits (record { before = entries story; event = e; last = sym es; no_end = u.no_end; refused = u.refused });
        walked = tt;
        gave_up = gave_up;
      }

  -- the link has ended
  pub ending_ended : {rules : Rules} {image : Image} {began : Since} {before seen : Seen} {old new : SessionState R} (w : IsWaitingFor rules image began before old) → IsHandled old
      → received rules.bounds (entries w.hearing.story) ≤ w.hearing.story.survivor.now.state.machine.taken → Tells before.told seen.told (entry.Took event.Ends ∷ []) → IsHeard rules.bounds (entries w.hearing.story) (sends w.hearing.story) event.Ends new.log new.replies
      → HasSameRun old new → new.replies.trial ≡ None → IfSome seen.coming (λ next. IsNext next event.Ends) → IsEnding rules image began seen new session_end.Finished
  ending_ended {rules = rules} {image = image} {began = began} {new = new} w handled all tells heard same no_trial last =
      let story : Story = w.hearing.story in
      let es = more_entries story (entry.Took event.Ends ∷ []) in
      let none : items_in rules.bounds (entries story ++ entry.Took event.Ends ∷ []) ≡ items_in rules.bounds (entries story) = ap (λ (evs : List LinkEvent). items_of rules.bounds.framing (heeded rules.bounds evs)) (events_ended rules.bounds (entries story)) in
      record {
        story = then_story story (entry.Took event.Ends ∷ []);
        walk = None;
        lost = began.lost;
        lost_is = none_lost;
        noted = began.noted;
        last_noted = none_noted;
        told = told_unwatched (waits_took w all tells heard.more heard.brings);
        tables = tables_here rules (then_story story (entry.Took event.Ends ∷ [])) (stop.Ends session_end.Finished) began.tables_before began.tables w.hearing.told.tables;
        answers = answers_still (entry.Took event.Ends ∷ []) same w.hearing.answers;
        received_are = received_is heard.items ∙ ap (received rules.bounds) es;
        replies = subst (λ (all : List Entry). KeepsReplies rules.bounds all None (sends story) new.replies) es heard.replies;
        no_trial = no_trial;
        closed = λ send stands closing owed. done_ended rules story w.hearing.passed.done send stands owed;
        holds = held_as (ap (items_in rules.bounds) (sym es) ∙ none) (held_here w same);
        handled = λ is. handled_here w (ap (items_in rules.bounds) (sym es) ∙ none) same handled;
        live = lives_here w same;
        stands = (waits_still w (entry.Took event.Ends ∷ []) all none, subst HasEnded es (last_taken-append (entries story) event.Ends), last);
        walked = tt;
        gave_up = tt;
      }

  -- the link has no event there
  pub ending_stopped : {rules : Rules} {image : Image} {began : Since} {before seen : Seen} {kind offset : ℕ} {old new : SessionState R} (w : IsWaitingFor rules image began before old) → IsHandled old
      → received rules.bounds (entries w.hearing.story) ≤ w.hearing.story.survivor.now.state.machine.taken → Tells before.told seen.told [] → HasSameRun old new → new.log ≡ old.log → new.replies ≡ old.replies
      → IfSome seen.coming (λ next. next ≡ Refuses kind offset) → (ending : IsEnding rules image began seen new (session_end.InputRefused kind offset)) × IsAsking rules ending.story
  ending_stopped {rules = rules} {image = image} {began = began} {seen = seen} {kind = kind} {offset = offset} {new = new} w handled all tells same log replies stops =
      let story : Story = w.hearing.story in
      let told : IsTold rules image began seen.told story = told_nothing w.hearing.told tells in
      let waits = waits_here w all in (
        record {
          story = story;
          walk = None;
          lost = began.lost;
          lost_is = none_lost;
          noted = began.noted;
          last_noted = none_noted;
          told = told_unwatched told;
          tables = tables_here rules story (stop.Ends (session_end.InputRefused kind offset)) began.tables_before began.tables w.hearing.told.tables;
          answers = answers_here same w.hearing.answers;
          received_are = ap (λ (l : Log). logs.received l) log ∙ received_is w.hearing.goes.items;
          replies = subst (λ (ledger : Ledger). KeepsReplies rules.bounds (entries story) None (sends story) ledger) (sym replies) w.hearing.passed.replies;
          no_trial = ap (λ (ledger : Ledger). ledger.trial) replies ∙ w.hearing.passed.no_trial;
          closed = λ send stands closing owed. w.hearing.passed.done send stands owed;
          holds = held_here w same;
          handled = λ is. handled_here w refl same handled;
          live = lives_here w same;
          stands = (waits, w.hearing.goes.items.all_heeded, stops);
          walked = tt;
          gave_up = tt;
        },
        (waits, owes_nothing rules story w.due w.hearing.passed.done, w.hearing.goes.items.all_heeded),
      )

  -- no event could be taken
  pub off_read : {rules : Rules} {image : Image} {began : Since} {before seen : Seen} {old new : SessionState R} (w : IsWaitingFor rules image began before old) → IsHandled old
      → received rules.bounds (entries w.hearing.story) ≤ w.hearing.story.survivor.now.state.machine.taken → Tells before.told seen.told [] → HasSameRun old new → IsBrokenOff rules image began seen new session_break.ReadFault
  off_read {rules = rules} w handled all tells same =
      let story : Story = w.hearing.story in
      broken_off ((waits_here w all, owes_nothing rules story w.due w.hearing.passed.done, w.hearing.goes.items.all_heeded), (refl, refl, refl)) tt (held_here w same) (λ is. handled_here w refl same handled)
      (told_nothing w.hearing.told tells) (answers_here same w.hearing.answers)

  -- memory ran out, before an event was taken or behind one that is heeded
  pub off_memory : {rules : Rules} {image : Image} {began : Since} {before seen : Seen} {old new : SessionState R} (w : IsWaitingFor rules image began before old)
      → received rules.bounds (entries w.hearing.story) ≤ w.hearing.story.survivor.now.state.machine.taken → HasSameRun old new → (Tells before.told seen.told [] ⊎ (seen.takes ≡ true))
      → (Tells before.told seen.told [] ⊎ ((e : LinkEvent) × Tells before.told seen.told (entry.Took e ∷ []) × IsHeeded rules.bounds (entries w.hearing.story) e))
      → (off : IsBrokenOff rules image began seen new session_break.Memory) × (seen.takes ≡ false → WasAsked rules off.telling.account)
  off_memory {rules = rules} w all same (inl tells) took = (
    broken_off {why = session_break.Memory} tt (λ some. absurd (some refl)) (held_here w same) (λ is. absurd is) (told_nothing w.hearing.told tells) (answers_here same w.hearing.answers),
    λ none. (waits_here w all, owes_nothing rules w.hearing.story w.due w.hearing.passed.done, w.hearing.goes.items.all_heeded),
  )
  off_memory w all same (inr still) (inl tells) = (
    broken_off {why = session_break.Memory} tt (λ some. absurd (some refl)) (held_here w same) (λ is. absurd is) (told_nothing w.hearing.told tells) (answers_here same w.hearing.answers),
    λ none. still_takes _ still none,
  )
  off_memory w all same (inr still) (inr took) = (
    broken_off {why = session_break.Memory} tt (λ some. absurd (some refl)) (held_took w took.0 same took.2.more took.2.brings) (λ is. absurd is) (waits_took w all took.1 took.2.more took.2.brings) (answers_still (entry.Took took.0 ∷ []) same w.hearing.answers),
    λ none. still_takes _ still none,
  )
