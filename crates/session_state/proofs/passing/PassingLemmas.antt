-- What is due is passed, also behind a close and at an end.
use Rattle.session_history.specs.declared.ends.Stop.TheVariants as stop
use Rattle.links.specs.declared.journal.Entry.TheVariants as entry
use Rattle.item_log.specs.Log as logs
use Rattle.reply_ledger.proofs.ConnectionLemmas.{is_open-marked, closed-falls}
use Rattle.link_gate.specs.declared.pass_fault.PassFault.TheVariants as pass_fault
use Rattle.session_state.proofs.Lemmas.{notes_end, close_done, fronts_of, made_by, closed_given, done_given, events_of-story, latest-given, are_given, end_of, ended_account, ended_telling, served_broken, served_end, note_ends, note_handed}
use Rattle.session_state.proofs.Terms.{Bool, Err, List, None, Ok, Result, Some, [], ap, append-nil, append_assoc, arith, false, inl, inr, length, refl, subst, sym, true, ℕ, ◌++◌, ◌+◌, ◌<◌, ◌∙◌, ◌∷◌, ◌≡◌, ◌≤◌, and_parts, true≢false, IsErrOf, rose_later, Rose, Send, Entry, LinkEvent, Grew, Tells, Told, Seen, but_given, items_of, Ledger, closed_connection, with_change, next_part, rest_part, Image, SessionBreak, SessionEnd, Stop, EndsBy, HandedLast, AreDuePieces, AreGiven, IsClosing, IsReady, Passes, PassesRest, then_entries, Bounds, heeded, received, KeepsReplies, Chapter, Rules, entries_of, is_closed_by, is_closing, closes, is_gone, is_open, IsDueBy, IsOwed, IsPassed, Moment, OwesNothing, journal, latest, place_at, ending_at, moment_of, PassFault, due_by, due_not_gone, open_not_closed, owed_open, closed_keeps, fronts_stay, nothing_waits, CanGive, Noted, SessionState, FailsAtChoices, HasWatched, IsNoteFault, Telling, keeping_of, HasPassed, HasPassedDue, IsCloseDone, IsEnding, IsTold, Since, Story, entries, moment, sends, then_story, CanPass, IsAnswerTo, IsFinishing, LinkPasses, PassesDue, PassesStory, StandsClosing, outcome_of}
use Rattle.session_state.proofs.passing.PassLemmas.{rest_ok}

-- a connection that closes isn't open
pub closing_shut : (bounds : Bounds) (at : Moment) (conn : ℕ) → is_closing bounds at conn ≡ true → is_open bounds (journal at) conn ≡ true → ⊥
closing_shut bounds at conn closing still =
    true≢false
    (sym (and_parts (is_closed_by (latest at.since) conn) _ closing).1 ∙ open_not_closed bounds (journal at) conn still)

-- so what is owed to it is due by the latest event
pub closing_due : (bounds : Bounds) (hold : ℕ) (at : Moment) (send : Send) → is_closing bounds at send.conn ≡ true → IsOwed bounds hold at send → IsDueBy bounds (place_at at) send.conn send.taken (latest at.since)
closing_due bounds hold at send closing (inl why) = absurd (closing_shut bounds at send.conn closing why.0)
closing_due bounds hold at send closing (inr due) = due

-- and at an end it is due as before it
due_of_end : (bounds : Bounds) (hold : ℕ) (earlier : List Chapter) (since : List Entry) {taken : ℕ} (send : Send) → is_closing bounds (ending_at earlier since true taken) send.conn ≡ true → IsOwed bounds hold (ending_at earlier since true taken) send
    → IsDueBy bounds (place_at (moment_of earlier since taken)) send.conn send.taken (latest since)
due_of_end bounds hold earlier since {taken = taken} send closing owed =
    let at : Moment = ending_at earlier since true taken in
    let due = closing_due bounds hold at send closing owed in
    due_by bounds at (moment_of earlier since taken) send.conn send.taken (latest since) refl refl refl (due_not_gone bounds at send.conn send.taken (latest since) due) due

-- what is due with the items taken so far may be passed
pub due_ready : {rules : Rules} {image : Image} {began : Since} {now : Told} {story : Story} {until : ℕ} {ledger : Ledger} → IsTold rules image began now story → until + rules.hold ≡ story.survivor.now.state.machine.taken → HasPassed rules story ledger
    → IsReady rules (sends story) (moment story) until ledger
due_ready {rules = rules} {story = story} told is passed =
    record {
      keeps = passed.replies;
      fronts = fronts_of told;
      owed = λ send stands still early. inl (still, inl (omega (arith, is, early)));
      closed = λ send stands closing owed. passed.done send stands (closing_due rules.bounds rules.hold (moment story) send closing owed);
    }

-- nothing is due with fewer items taken than are held back
pub none_due : {rules : Rules} {image : Image} {began : Since} {now : Told} {story : Story} {ledger : Ledger} → IsTold rules image began now story → story.survivor.now.state.machine.taken < rules.hold → HasPassed rules story ledger
    → (more : List Entry) × AreGiven more × IsTold rules image began now (then_story story more) × HasPassed rules (then_story story more) ledger × HasPassedDue rules (then_story story more)
none_due {rules = rules} {image = image} {began = began} {now = now} {story = story} {ledger = ledger} told few passed =
    let same : story.since ≡ story.since ++ [] = sym (append-nil story.since) in (
      [],
      tt,
      subst (λ (since : List Entry). IsTold rules image began now (record story { since = since })) same told,
      subst (λ (since : List Entry). HasPassed rules (record story { since = since }) ledger) same passed,
      λ send stands still due. absurd (omega (arith, few, due)),
    )

-- at an end all that was sent to open connections may be passed
pub end_ready : {rules : Rules} {image : Image} {began : Since} {now : Told} {story : Story} {until : ℕ} {ledger : Ledger} → IsTold rules image began now story → KeepsReplies rules.bounds (entries story) None (sends story) ledger → IsCloseDone rules (moment story) (sends story)
    → IsReady rules (sends story) (end_of story) until ledger
end_ready {rules = rules} {story = story} told replies done = record {
  keeps = replies;
  fronts = fronts_of told;
  owed = λ send stands still early. inl (still, inr refl);
  closed = λ send stands closing owed. done send stands closing (due_of_end rules.bounds rules.hold story.earlier story.since send closing owed);
}

-- where that was passed, nothing is owed
pub end_owes : {rules : Rules} {image : Image} {began : Since} {now : Told} {story : Story} (more : List Entry) {until : ℕ} {ledger : Ledger} → IsTold rules image began now story → story.survivor.now.state.machine.taken ≤ until → AreDuePieces rules (sends story) (end_of story) more
    → KeepsReplies rules.bounds (journal (end_of story) ++ more) None (sends story) ledger → next_part ledger until ≡ None → IsCloseDone rules (moment story) (sends story) → OwesNothing rules.bounds rules.hold (then_entries (end_of story) more) (sends story)
end_owes {rules = rules} {story = story} more {until = until} {ledger = ledger} told low due replies none done send stands owed = of (is_closing rules.bounds (then_entries (end_of story) more) send.conn) refl
  where
    given : AreGiven more
    given = are_given rules (sends story) (end_of story) more due

    same : journal (end_of story) ++ more ≡ journal (then_entries (end_of story) more)
    same = append_assoc (entries_of story.earlier) story.since more

    of : (b : Bool) → is_closing rules.bounds (then_entries (end_of story) more) send.conn ≡ b → IsPassed rules.bounds (journal (then_entries (end_of story) more)) (sends story) send stands
    of true is = closed_given rules (moment story) more given done send stands is (due_of_end rules.bounds rules.hold story.earlier (story.since ++ more) send is owed)
    of false is =
        nothing_waits rules.bounds (journal (then_entries (end_of story) more)) (sends story) ledger until (subst (λ (es : List Entry). KeepsReplies rules.bounds es None (sends story) ledger) same replies)
        (fronts_stay rules (sends story) (end_of story) more due (fronts_of told)) none send stands
        (owed_open rules.bounds rules.hold (then_entries (end_of story) more) send is owed) (omega (arith, made_by told send stands, low))

-- pieces behind pieces
given_join : (xs ys : List Entry) → AreGiven xs → AreGiven ys → AreGiven (xs ++ ys)
given_join [] ys first second = second
given_join (entry.Gave conn bytes gone ∷ xs) ys first second = given_join xs ys first second
given_join (entry.Took event ∷ xs) ys first second = absurd first

-- they bring no item
pub received_given : (bounds : Bounds) (story : Story) (more : List Entry) → AreGiven more → received bounds (entries (then_story story more)) ≡ received bounds (entries story)
received_given bounds story more given = ap (λ (es : List LinkEvent). length (items_of bounds.framing (heeded bounds es))) (events_of-story bounds story more given)

-- behind the pieces of a close the ledger may mark its connection closed
pub rest_keeps : {rules : Rules} (story : Story) (more : List Entry) {conn : ℕ} {before ledger : Ledger} → IsClosing rules (sends story) (moment story) conn before → AreGiven more → KeepsReplies rules.bounds (entries (then_story story more)) (Some conn) (sends story) ledger
    → KeepsReplies rules.bounds (entries (then_story story more)) None (sends story) (with_change ledger conn closed_connection)
rest_keeps {rules = rules} story more {conn = conn} {ledger = ledger} closing given replies =
    closed_keeps rules.bounds (entries (then_story story more)) (sends story) ledger conn replies
    (subst (λ (es : List LinkEvent). closes conn (heeded rules.bounds es) ≡ true) (sym (events_of-story rules.bounds story more given)) closing.closed)

-- and what the close makes owed was passed
pub rest_passed : {rules : Rules} {image : Image} {began : Since} {now : Told} {story : Story} (more : List Entry) {conn : ℕ} {before ledger : Ledger} → IsClosing rules (sends story) (moment story) conn before → ledger.trial ≡ None → AreGiven more
    → IsTold rules image began now (then_story story more) → KeepsReplies rules.bounds (entries (then_story story more)) (Some conn) (sends story) ledger → (is_gone conn (entries (then_story story more)) ≡ false → rest_part ledger conn ≡ None)
    → HasPassed rules (then_story story more) (with_change ledger conn closed_connection)
rest_passed {story = story} more closing no_trial given told replies none = record {
  replies = rest_keeps story more closing given replies;
  no_trial = no_trial;
  done = close_done told (latest-given story.since more given ∙ closing.is_last) closing.closes replies none;
}

-- who may still be given to, of those that stay open
pub gives_closed : {seen : Seen} {ledger : Ledger} (conn : ℕ) → CanGive seen ledger → CanGive seen (with_change ledger conn closed_connection)
gives_closed {ledger = ledger} conn can = record {
  gives_still = can.gives_still;
  connected = λ q opened. can.connected q (is_open-marked conn closed_connection (λ c. refl) closed-falls ledger.connections q opened);
}

module _ {R : Type 0} where
  -- a session whose connection closes passes by what it was told
  pub closing_can : {seen : Seen} {conn : ℕ} {session : SessionState R} → StandsClosing seen conn session → CanPass session
  closing_can {conn = conn} stands = record {
    bounds = stands.rules.bounds;
    entries = entries stands.story;
    closing = Some conn;
    sends = sends stands.story;
    replies = stands.closing.keeps;
    no_trial = stands.no_trial;
    ordered = stands.told.serving.carries.ordered;
    received_are = stands.received_are;
  }

  -- and so it does once that was passed
  pub closed_can : {seen : Seen} (later : Seen) {conn : ℕ} {before after : SessionState R} {ledger : Ledger} {done : Unit {0}} (stands : StandsClosing seen conn before)
      → PassesRest {E = PassFault} stands.rules (sends stands.story) (moment stands.story) conn ledger seen.told later (Ok done) → ledger.trial ≡ None → logs.received after.log ≡ logs.received before.log → after.replies ≡ with_change ledger conn closed_connection → CanPass after
  closed_can later stands passes no_trial log is =
      let rules : Rules = stands.rules in
      let story : Story = stands.story in
      let rest = rest_ok later stands.told passes in
      let more : List Entry = rest.0 in
      let behind : Story = then_story story more in
      let told : IsTold rules stands.image stands.began later.told behind = rest.2 in
      record {
        bounds = rules.bounds;
        entries = entries behind;
        closing = None;
        sends = sends story;
        replies = subst (KeepsReplies rules.bounds (entries behind) None (sends story)) (sym is) (rest_keeps story more stands.closing rest.1 rest.3);
        no_trial = ap (λ (l : Ledger). l.trial) is ∙ no_trial;
        ordered = told.serving.carries.ordered;
        received_are = log ∙ stands.received_are ∙ sym (received_given rules.bounds story more rest.1);
      }

  -- what is due was passed, behind pieces that were passed before
  pub due_behind : (rules : Rules) (image : Image) (began : Since) (seen : Seen) (story : Story) (more : List Entry) (session : SessionState R) (result : Result (Unit {0}) Stop) → AreGiven more
      → PassesDue rules image began seen (then_story story more) session result → PassesDue rules image began seen story session result
  due_behind rules image began seen story more session (Ok done) given passes =
      let last : List Entry = passes.0 in
      let same : (story.since ++ more) ++ last ≡ story.since ++ (more ++ last) = append_assoc story.since more last in (
        more ++ last,
        given_join more last given passes.1,
        subst (λ (since : List Entry). IsTold rules image began seen.told (record story { since = since })) same passes.2,
        subst (λ (since : List Entry). HasPassed rules (record story { since = since }) session.replies) same passes.3,
        subst (λ (since : List Entry). HasPassedDue rules (record story { since = since })) same passes.4,
      )
  due_behind rules image began seen story more session (Err why) given passes = passes

  -- where all was passed that was sent with so many items taken, what is due was passed
  pub due_passed : {rules : Rules} (image : Image) (began : Since) (seen : Seen) {story : Story} (until : ℕ) {ledger : Ledger} (session : SessionState R) (result : Result (Unit {0}) Stop) → until + rules.hold ≡ story.survivor.now.state.machine.taken
      → HasPassed rules story ledger → session.replies.trial ≡ None → PassesStory rules image began seen story until session result → PassesDue rules image began seen story session result
  due_passed {rules = rules} image began seen {story = story} until session (Ok done) is passed no_trial passes =
      let more : List Entry = passes.0 in
      let after : Story = then_story story more in
      let told : IsTold rules image began seen.told after = passes.2 in
      let replies : KeepsReplies rules.bounds (entries after) None (sends story) session.replies = passes.3 in
      let none : next_part session.replies until ≡ None = passes.4 in (
        more,
        passes.1,
        told,
        record { replies = replies; no_trial = no_trial; done = done_given rules (moment story) more passes.1 passed.done },
        λ send stands still due. nothing_waits rules.bounds (entries after) (sends story) session.replies until replies (fronts_of told) none send stands still (omega (arith, is, due)),
      )
  due_passed image began seen until session (Err why) is passed no_trial passes = passes

  -- at an end all is passed
  pub finish_ok : (P : Telling → Type 0) {rules : Rules} {image : Image} (began : Since) {first before seen : Seen} {session : SessionState R} {end : SessionEnd} {until : ℕ} {ledger : Ledger} {done : Unit {0}} (e : IsEnding rules image (record began { told = first.told }) before session end) → seen ≡ but_given before seen → session.taken ≤ until
      → Passes {E = PassFault} rules (sends e.story) (end_of e.story) until ledger before.told seen (Ok done) → IsFinishing rules first before e.story end → (noted : Noted) → Grew began.noted.choices noted.choices session.choices
      → noted.episodes ≡ began.noted.episodes → noted.unnoted ≡ began.noted.unnoted → {counted : ℕ} → counted ≡ began.lost + session.steps → ((more broken : List Entry) → P (ended_telling e more broken))
      → (watched : HasWatched rules image (keeping_of session) first seen (record { stop = stop.Ends end; recorded = session.recorded + length session.choices; tail = []; taken = session.taken; steps = session.steps }) began.noted_before noted counted began.tables_before began.tables) × P watched.recovered.telling
  finish_ok P began {session = session} e same low passes finishing noted choices episodes unnoted counts holds =
      let few = e.answers.taken in
      served_end P began e same passes.1 passes.2
      (end_owes passes.0 e.told (omega (arith, low, few)) passes.1 passes.3.0 passes.3.1 e.closed) finishing noted (session.recorded + length session.choices) [] (notes_end e choices episodes unnoted) refl counts (holds passes.0 [])

  -- and noting the rest failed
  pub finish_unnoted : (P : Telling → Type 0) {rules : Rules} {image : Image} (began : Since) {first before seen : Seen} {session : SessionState R} {end : SessionEnd} {fault : SessionBreak} (until : ℕ) {ledger : Ledger} {done : Unit {0}} (e : IsEnding rules image (record began { told = first.told }) before session end) → seen ≡ but_given before seen
      → Passes {E = PassFault} rules (sends e.story) (end_of e.story) until ledger before.told seen (Ok done) → IsFinishing rules first before e.story end → IsNoteFault fault → (noted : Noted) → noted.choices ≡ began.noted.choices → noted.episodes ≡ began.noted.episodes → FailsAtChoices began.noted.unnoted noted.unnoted session.choices
      → {counted : ℕ} → counted ≡ began.lost + session.steps → ((more broken : List Entry) → P (ended_telling e more broken))
      → (watched : HasWatched rules image (keeping_of session) first seen (outcome_of (stop.Breaks fault) session) began.noted_before noted counted began.tables_before began.tables) × P watched.recovered.telling
  finish_unnoted P {rules = rules} began {before = before} {seen = seen} {end = end} {fault = fault} until e same passes finishing is noted choices episodes fails counts holds =
      served_broken P began e same passes.1 tt (subst (Tells before.told seen.told) (sym (append-nil passes.0)) passes.2) (note_ends rules (ended_account e.story end passes.0 []) fault is) (note_handed rules (ended_account e.story end passes.0 []) seen fault refl is) finishing
      noted choices episodes (inr (is, inl (fails, refl))) counts (holds passes.0 [])

  -- or a fault comes first
  pub finish_fault : (P : Telling → Type 0) {rules : Rules} {image : Image} (began : Since) {first before seen : Seen} {session : SessionState R} {end : SessionEnd} (until : ℕ) (ledger : Ledger) (why : PassFault) {fault : SessionBreak} (e : IsEnding rules image (record began { told = first.told }) before session end) → seen ≡ but_given before seen
      → IsAnswerTo why fault → (IsErrOf {T = Unit {0}} (Err why) pass_fault.WriteFault → seen.gives ≡ false) → Passes rules (sends e.story) (end_of e.story) until ledger before.told seen (Err why) → IsFinishing rules first before e.story end → (noted : Noted) → noted.choices ≡ began.noted.choices → noted.episodes ≡ began.noted.episodes → noted.unnoted ≡ began.noted.unnoted
      → {counted : ℕ} → counted ≡ began.lost + session.steps → ((more broken : List Entry) → P (ended_telling e more broken))
      → (watched : HasWatched rules image (keeping_of session) first seen (outcome_of (stop.Breaks fault) session) began.noted_before noted counted began.tables_before began.tables) × P watched.recovered.telling
  finish_fault P {rules = rules} began {seen = seen} {end = end} until ledger pass_fault.WriteFault e same is stops passes finishing noted choices episodes unnoted counts holds =
      served_broken P began e same passes.2 passes.3 passes.4 (subst (λ (b : SessionBreak). EndsBy rules (ended_account e.story end passes.0 passes.1) (stop.Breaks b)) (sym is) tt) (subst (HandedLast rules (ended_account e.story end passes.0 passes.1) seen) (sym is) (stops refl, passes.5 (stops refl))) finishing noted choices episodes (inl (unnoted, refl)) counts (holds passes.0 passes.1)
  finish_fault P {rules = rules} began {seen = seen} {end = end} until ledger pass_fault.Memory e same is stops passes finishing noted choices episodes unnoted counts holds =
      served_broken P began e same passes.2 passes.3 passes.4 (subst (λ (b : SessionBreak). EndsBy rules (ended_account e.story end passes.0 passes.1) (stop.Breaks b)) (sym is) tt) (subst (HandedLast rules (ended_account e.story end passes.0 passes.1) seen) (sym is) (λ some. (passes.6 some, passes.5 (passes.6 some)))) finishing noted choices episodes (inl (unnoted, refl)) counts (holds passes.0 passes.1)

  -- a session at an end passes by what it was told
  pub ending_can : {rules : Rules} {image : Image} {began : Since} {seen : Seen} {session : SessionState R} {end : SessionEnd} → IsEnding rules image began seen session end → CanPass session
  ending_can {rules = rules} e = record {
    bounds = rules.bounds;
    entries = entries e.story;
    closing = None;
    sends = sends e.story;
    replies = e.replies;
    no_trial = e.no_trial;
    ordered = e.told.serving.carries.ordered;
    received_are = e.received_are;
  }

  pub ending_ready : {rules : Rules} {image : Image} {began : Since} {seen : Seen} {session : SessionState R} {end : SessionEnd} {until : ℕ} (e : IsEnding rules image began seen session end) → IsReady rules (sends e.story) (end_of e.story) until session.replies
  ending_ready e = end_ready e.told e.replies e.closed

-- nothing was passed
pub none_passed : {seen : Seen} {ledger : Ledger} → CanGive seen ledger → LinkPasses seen seen ledger (Ok tt)
none_passed gives = record { gives = gives; rest = refl; broken = tt; cause = record { takes = omega arith; gives = omega arith; read_fault = λ is. absurd (let never : ⊥ = cc in never); write_fault = λ is. absurd (let never : ⊥ = cc in never) } }

-- pieces were passed, and then more
pub passed_then : {old mid new : Seen} {ledger : Ledger} {result : Result (Unit {0}) Stop} → mid ≡ but_given old mid → old.counts.gives ≤ mid.counts.gives → mid.counts.takes ≡ old.counts.takes → LinkPasses mid new ledger result → LinkPasses old new ledger result
passed_then {old = old} {mid = mid} {new = new} rest later same shows = record {
  gives = shows.gives;
  rest = shows.rest ∙ ap (λ (seen : Seen). but_given seen new) rest;
  broken = shows.broken;
  cause = record {
    takes = let more = shows.cause.takes in omega (arith, same, more);
    gives = let more = shows.cause.gives in omega (arith, later, more);
    read_fault = λ is. subst (λ n. Rose n new.counts.takes) same (shows.cause.read_fault is);
    write_fault = λ is. rose_later old.counts.gives mid.counts.gives new.counts.gives later (shows.cause.write_fault is);
  };
}
