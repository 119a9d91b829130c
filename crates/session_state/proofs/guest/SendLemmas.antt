-- The guest sent, or took an item: what that makes of a session.
use Rattle.links.specs.declared.journal.LinkEvent.TheVariants as event
use Rattle.run_history.proofs.Connections.{OpenWithin, within_after}
use Rattle.guest_cpu.specs.declared.event.Event.TheVariants as step
use Rattle.session_state.proofs.Terms.{List, None, Ok, Option, Some, [], ap, arith, length, length-append, refl, subst, sym, true, ℕ, ◌++◌, ◌<◌, ◌∙◌, ◌∷◌, ◌≡◌, ◌≤◌, slice_get, Item, Send, LinkEvent, Phases, Seen, IsOpened, Ledger, with_send, Image, may_send, Path, takes_write, live_of, live_with_item, received_range, taken_standing, TakesOn, standing_of, Live, Standing, with_range, RunsWriting, Writes, Bounds, events_of, heeded, items_in, received, IsSendable, KeepsItems, KeepsReplies, Rules, opens, IsDueBy, IsMadeDue, IsPassed, Latest, Moment, journal, latest, place_at, received_before, sent_keeps, SessionState, IsHandled, GoesWith, HasPassed, IsBetween, IsGoing, IsLatestBefore, IsLatestDone, IsWaitingFor, Since, Story, entries, moment, sends, IsCounted}
use Rattle.session_state.proofs.standing.HeldLemmas.{requests_on, requests_taken, waits_handled}
use Rattle.session_state.proofs.standing.StoryLemmas.{on_story, moves_sent, moves_took, told_on}
use Rattle.session_state.proofs.standing.CheckpointLemmas.{HasSameSide, past_on, saved_on}
use Rattle.session_state.proofs.guest.GuestLemmas.{HasSameParts, none_more, none_used, answers_for, goes_with, has_passed, still_received}

-- nothing is due by an event before which fewer items were received than the send was made with
made_late : (bounds : Bounds) (at : Moment) (conn : ℕ) {taken before : ℕ} (e : LinkEvent) → before < taken → IsMadeDue bounds (place_at at) conn taken e before → ⊥
made_late bounds at conn event.Settles late made = omega (arith, late, made.1)
made_late bounds at conn (event.Closes closed) late made = omega (arith, late, made.3)
made_late bounds at conn (event.Opens opened) late made = made
made_late bounds at conn (event.Piece to bytes) late made = made
made_late bounds at conn event.Ends late made = made

due_late : (rules : Rules) (at : Moment) (conn : ℕ) {taken : ℕ} (o : Option Latest) → ((last : Latest) → o ≡ Some last → received_before rules.bounds (place_at at) last < taken) → IsDueBy rules.bounds (place_at at) conn taken o → ⊥
due_late rules at conn None late due = due
due_late rules at conn (Some last) late due = made_late rules.bounds at conn last.event (late last refl) due

-- a send among others and one more is the last, or stands among the others
data Placed (all : List Send) (last send : Send) (earlier : List Send) : Type 0 where
  Last : send ≡ last → Placed all last send earlier
  Within : (later : List Send) → all ≡ earlier ++ send ∷ later → Placed all last send earlier

placed : (all earlier later : List Send) {last send : Send} → all ++ last ∷ [] ≡ earlier ++ send ∷ later → Placed all last send earlier
placed [] [] later is = Last (sym (cc (is)))
placed [] (first ∷ earlier) later {last = last} {send = send} is = absurd (let no : length (last ∷ []) ≡ length (first ∷ (earlier ++ send ∷ later)) = ap length is in omega (arith, no, length-append earlier (send ∷ later)))
placed (first ∷ all) [] later {send = send} is = let same : first ≡ send = cc (is) in Within all (ap (λ s. s ∷ all) same)
placed (first ∷ all) (head ∷ earlier) later {last = last} {send = send} is =
    let same : first ≡ head = cc (is) in
    let rest : all ++ last ∷ [] ≡ earlier ++ send ∷ later = cc (is) in
    behind (placed all earlier later rest) same
  where
    behind : Placed all last send earlier → first ≡ head → Placed (first ∷ all) last send (head ∷ earlier)
    behind (Last it) same = Last it
    behind (Within more split) same = Within more (ap (λ s. s ∷ all) same ∙ ap (λ l. head ∷ l) split)

-- what the latest event makes owed is done with one more send, which came later
pub done_sent : (rules : Rules) (at : Moment) {all : List Send} (last : Send) → IsLatestBefore rules at last.taken → IsLatestDone rules at all → IsLatestDone rules at (all ++ last ∷ [])
done_sent rules at {all = all} last late done send stands due = of (placed all stands.earlier stands.later stands.split)
  where
    of : Placed all last send stands.earlier → IsPassed rules.bounds (journal at) (all ++ last ∷ []) send stands
    of (Last it) = absurd (due_late rules at send.conn (latest at.since) (λ l is. subst (λ (s : Send). received_before rules.bounds (place_at at) l < s.taken) (sym it) (late l is)) due)
    of (Within later split) = done send (record { earlier = stands.earlier; later = later; split = split }) due

-- a connection that the guest may send to was opened in the ledger
module _ {R : Type 0} where
  pub may_opened : {rules : Rules} {story : Story} {session : SessionState R} {phases : Phases} (conn : ℕ) → GoesWith rules story session phases → HasPassed rules story session.replies → may_send story.survivor.now.state.machine conn ≡ true → IsOpened session.replies conn
  may_opened {session = session} conn goes passed may = passed.replies.opened conn ∙ goes.within conn may

  -- it sent: its ledger has one more send, of which what is due has to be passed
  pub emits_going : {rules : Rules} {image : Image} {began : Since} {seen : Seen} {conn : ℕ} {bytes : List ℕ} {old new : SessionState R} (b : IsBetween rules image began seen old) → HasSameSide old new → new.choices ≡ old.choices
      → IsCounted new → new.replies ≡ with_send old.replies (record { conn = conn; bytes = bytes; taken = b.going.story.survivor.now.state.machine.taken })
      → RunsWriting rules.limits (items_in rules.bounds (entries b.going.story)) b.going.story.survivor.plan old.cpu.base b.going.story.survivor.now old.cpu.written (Ok (step.Emits conn bytes)) (live_of new.cpu) → IsGoing rules image began seen new
  emits_going {rules = rules} {conn = conn} {bytes = bytes} {old = old} b side chosen counted replies writing =
      let runs = writing.ran in
      let story : Story = b.going.story in
      let to : Path = runs.now in
      let comes = runs.comes in
      let send : Send = record { conn = conn; bytes = bytes; taken = story.survivor.now.state.machine.taken } in
      let sendable : IsSendable send = record { some = comes.3; few = comes.4 } in
      let passed : HasPassed rules story old.replies = b.going.passed in
      record {
        story = on_story story to;
        told = told_on b.going.told b.due passed.done runs.goes.served (moves_sent story.survivor.now to send runs.goes.taken comes.1) (still_received to b.going.told runs.goes.taken);
        answers = answers_for [] b.going.answers side.recorded (none_more comes.0) (none_more chosen) counted (sym runs.stands);
        goes = goes_with b.going.goes side.log side.events runs.goes comes.5 (sym runs.stands);
        saved = saved_on side (ap (λ (ledger : Ledger). ledger.first) replies) runs.goes.served writing.wrote (let still = runs.goes.taken in omega (arith, still))
            (requests_on runs.goes.served runs.goes.taken b.going.saved.requests) b.going.saved;
        past = past_on runs.goes.served (let still = runs.goes.taken in omega (arith, still)) side.until b.going.past;
        passed = record {
          replies =
              subst (λ (ledger : Ledger). KeepsReplies rules.bounds (entries story) None to.state.sends ledger) (sym replies)
              (subst (λ all. KeepsReplies rules.bounds (entries story) None all (with_send old.replies send)) (sym comes.1)
              (sent_keeps rules.bounds (entries story) None (sends story) old.replies send passed.replies (may_opened conn b.going.goes passed comes.2) sendable));
          no_trial = ap (λ (ledger : Ledger). ledger.trial) replies ∙ passed.no_trial;
          done = subst (λ all. IsLatestDone rules (moment story) all) (sym comes.1) (done_sent rules (moment story) send b.going.latest passed.done);
        };
        latest = subst (IsLatestBefore rules (moment story)) (sym runs.goes.taken) b.going.latest;
      }

  -- it took an item that was received
  pub takes_going : {rules : Rules} {image : Image} {began : Since} {seen : Seen} {item : Item} {old new : SessionState R} (w : IsWaitingFor rules image began seen old) → HasSameParts old new → new.choices ≡ old.choices → IsCounted new
      → live_of new.cpu ≡ live_with_item old.cpu.base item (live_of old.cpu) → slice_get (items_in rules.bounds (entries w.hearing.story)) w.hearing.story.survivor.now.state.machine.taken ≡ Some item
      → w.hearing.story.survivor.now.state.machine.taken < received rules.bounds (entries w.hearing.story) → received rules.bounds (entries w.hearing.story) ≤ rules.bounds.max_items
      → (item.kind ≡ 1 → opens item.conn (heeded rules.bounds (events_of rules.bounds (entries w.hearing.story))) ≡ true) → IsHandled old → IsGoing rules image began seen new
  takes_going {rules = rules} {seen = seen} {item = item} {old = old} {new = new} w same chosen counted becomes is_item low few opened handled =
      let story : Story = w.hearing.story in
      let path : Path = story.survivor.now in
      let items : List Item = items_in rules.bounds (entries story) in
      let taking = takes_write rules.limits items story.survivor.plan old.cpu.base path old.cpu.written item w.hearing.asks is_item in
      let t : TakesOn rules.limits items story.survivor.plan path item = taking.took in
      let live : new.cpu.slots.live ≡ taken_standing item old.cpu.slots.live = ap (λ (l : Live). l.standing) becomes in
      let flags : new.cpu.written ≡ with_range old.cpu.base (received_range item path.state.machine) old.cpu.written =
      ap (λ (l : Live). l.written) becomes ∙ ap (λ (s : Standing). with_range old.cpu.base (received_range item s.guest.machine) old.cpu.written) w.hearing.goes.guest in
      let wrote : Writes rules.limits items old.cpu.base path old.cpu.written t.now new.cpu.written = subst (Writes rules.limits items old.cpu.base path old.cpu.written t.now) (sym flags) taking.wrote in
      let requests = waits_handled w handled in
      let to : Path = t.now in
      let goes : GoesWith rules story old seen.phases = w.hearing.goes in
      let stands : new.cpu.slots.live ≡ standing_of to = live ∙ (ap (taken_standing item) goes.guest ∙ sym t.stands) in
      let within : OpenWithin (λ conn. opens conn (heeded rules.bounds (events_of rules.bounds (entries story))) ≡ true) story.survivor.now.state.machine.connections = record { each = goes.within } in
      let after : OpenWithin (λ conn. opens conn (heeded rules.bounds (events_of rules.bounds (entries story))) ≡ true) to.state.machine.connections =
      subst (OpenWithin (λ conn. opens conn (heeded rules.bounds (events_of rules.bounds (entries story))) ≡ true)) (sym t.connections)
      (within_after (λ conn. opens conn (heeded rules.bounds (events_of rules.bounds (entries story))) ≡ true) item story.survivor.now.state.machine.connections within opened) in
      record {
        story = on_story story to;
        told = told_on w.hearing.told w.due w.hearing.passed.done t.served (moves_took path to t.taken t.silent.sends) (subst (λ n. n ≤ received rules.bounds (entries story)) (sym t.taken) (omega (arith, low)));
        answers = answers_for [] w.hearing.answers same.side.recorded (none_used t.silent) (none_more chosen) counted stands;
        goes = record {
          lives = t.lives;
          guest = stands;
          bounded = t.bounded goes.bounded;
          few = subst (λ n. n ≤ rules.bounds.max_items) (sym t.taken) (omega (arith, low, few));
          within = after.each;
          items = subst (KeepsItems rules.bounds (entries story)) (sym same.side.log) goes.items;
          events = same.side.events ∙ goes.events;
          phases_are = goes.phases_are;
        };
        saved = saved_on same.side (ap (λ (ledger : Ledger). ledger.first) same.replies) t.served wrote (let more = t.taken in omega (arith, more))
            (requests_taken t.served t.taken requests) w.hearing.saved;
        past = past_on t.served (let more = t.taken in omega (arith, more)) same.side.until w.hearing.past;
        passed = has_passed w.hearing.passed same.replies t.silent.sends;
        latest = subst (IsLatestBefore rules (moment story)) (sym t.taken) w.hearing.latest;
      }
