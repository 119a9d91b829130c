-- What a session makes of a call that heard its link: one lemma for each arm.
use Rattle.links.specs.declared.journal.Entry.TheVariants as entry
use Rattle.links.specs.declared.journal.LinkEvent.TheVariants as event
use Rattle.msg_frame.specs.Messages.{Parts, cut}
use Rattle.item_log.specs.Connections as log_connections
use Rattle.item_log.specs.Log as logs
use Rattle.item_log.specs.declared.kinds.TheConstants.{CONNECTIONS}
use Rattle.item_log.specs.Connections.{in_order, none_open, rest_of}
use Rattle.item_log.specs.Heard.{Heard}
use Rattle.session_history.specs.Heeding as unheeded
use Rattle.session_history.specs.declared.ends.SessionEnd.TheVariants as session_end
use Rattle.link_gate.specs.declared.heard.Heard as heard_type
use Rattle.link_gate.specs.declared.heard.Heard.TheVariants as heard
use Rattle.link_gate.specs.declared.heard.HearFault.TheVariants as fault
use Rattle.link_gate.proofs.Ordering.{heard_some, rests_by, step_heard}
use Rattle.link_gate.proofs.Phasing.{closes-last, opens-first, opens-last, opens_by}
use Rattle.session_history.specs.declared.ends.Stop.TheVariants as stop
use Rattle.session_state.proofs.Lemmas.{still_takes, received_is, IsQuiet, before_given, before_story, goes_given, hearing_items, latest_story, same_run, saved_given, waits_on, IsNoEnd, HasHeard, HasSameRun, answers_still, has_heard, more_entries, saved_heard, all_due, close_ready, settle_done, settle_ready, latest-given}
use Rattle.session_state.proofs.Terms.{Bool, Err, List, None, Ok, Option, Result, Some, [], ap, arith, false, inl, inr, length, length-append, refl, subst, sym, true, ℕ, ◌++◌, ◌+◌, ◌<◌, ◌∙◌, ◌∷◌, ◌≡◌, ◌≤◌, ◌⊎◌, cases_lt, eq-eqb, eqb-true, get_or-replicate, get_or-set_other, get_or_past, length-replicate, IfOk, is_some, slice_get, slice_set, unwrap_or, ◌==◌, ◌||◌, rose_later, Send, Entry, LinkEvent, Counts, Tells, Seen, Heap, Framing, behind_items, brought, hear, hear_parts, heard_from, Log, Shows, Ledger, connection_of, Image, SessionEnd, Stop, IsLastRefused, IsWaiting, StandsAt, AreGiven, IsClosing, IsReady, IsHeard, IsUnheeded, closing_of, Bounds, Unheeded, events_of, heeded, received, KeepsItems, KeepsPhases, KeepsReplies, Rules, closes, opens, Latest, HearFault, IsEvent, events_behind, heard_behind, ComesLast, HearsBy, IsShown, Stays, Takes, TakesBehind, is_far, stands_of, rules_in, SessionState, GivesUpBy, IsHandled, HasPassed, HasPassedDue, IsEnding, IsHearing, IsLatestBefore, IsTold, IsWaitingFor, KeepsCheckpoints, Since, Story, entries, moment, sends, then_story, CanPass, HasSameGuest, HasStopCause, IsStopAt, MayServe, PassesDue, PassesStory, StaysKnown, StopsBy, WaitsBy, rules_by}
use Rattle.session_state.proofs.events.StopLemmas.{ending_refused, ending_ended, ending_stopped, off_read, off_memory}

-- one place of the connections' rests is set: the others are as they were
other_open : (rests : List (Option (List ℕ))) (place : ℕ) (rest : Option (List ℕ)) (conn : ℕ) → place == conn ≡ false → log_connections.is_open (slice_set rests place rest) conn ≡ log_connections.is_open rests conn
other_open rests place rest conn other = ap is_some (get_or-set_other rests place conn rest None (λ same. let no : true ≡ false = sym (eq-eqb place conn (sym same)) ∙ other in let never : ⊥ = cc in never))

-- a connection that is open where one place was set was open, or it is that place
set_was : (rests : List (Option (List ℕ))) (place conn : ℕ) (rest : Option (List ℕ)) (b : Bool) → place == conn ≡ b → log_connections.is_open (slice_set rests place rest) conn ≡ true → (log_connections.is_open rests conn || b) ≡ true
set_was rests place conn rest true is open_now = either (log_connections.is_open rests conn)
  where
    either : (x : Bool) → (x || true) ≡ true
    either true = refl
    either false = refl
set_was rests place conn rest false is open_now = ap (λ (x : Bool). x || false) (sym (other_open rests place rest conn is) ∙ open_now)

-- and where that place was open, it was
was_open : (rests : List (Option (List ℕ))) (place conn : ℕ) (rest : Option (List ℕ)) (b : Bool) → place == conn ≡ b → log_connections.is_open rests place ≡ true → log_connections.is_open (slice_set rests place rest) conn ≡ true → (log_connections.is_open rests conn || false) ≡ true
was_open rests place conn rest true is open_before open_now = ap (λ (x : Bool). x || false) (ap (log_connections.is_open rests) (sym (eqb-true place conn is)) ∙ open_before)
was_open rests place conn rest false is open_before open_now = ap (λ (x : Bool). x || false) (sym (other_open rests place rest conn is) ∙ open_now)

parts_was : (rests : List (Option (List ℕ))) (place conn : ℕ) (parts : Option Parts) {more : Heard} → log_connections.is_open rests place ≡ true → hear_parts rests place parts ≡ Some more → log_connections.is_open more.rests conn ≡ true → (log_connections.is_open rests conn || false) ≡ true
parts_was rests place conn None open_before is open_now = absurd (let never : ⊥ = cc in never)
parts_was rests place conn (Some parts) {more = more} open_before is open_now =
    was_open rests place conn (Some parts.rest) (place == conn) refl open_before (ap (λ (now : List (Option (List ℕ))). log_connections.is_open now conn) (rests_by _ more is) ∙ open_now)

-- a connection that is open behind an event was open, or the event opens it
event_was : (framing : Framing) (rests : List (Option (List ℕ))) (e : LinkEvent) {more : Heard} (conn : ℕ) → in_order rests e ≡ true → brought framing rests e ≡ Some more → log_connections.is_open more.rests conn ≡ true → (log_connections.is_open rests conn || opens_by conn e) ≡ true
event_was framing rests (event.Opens opened) {more = more} conn order is open_now =
    set_was rests opened conn (Some []) (opened == conn) refl (ap (λ (now : List (Option (List ℕ))). log_connections.is_open now conn) (rests_by _ more is) ∙ open_now)
event_was framing rests (event.Piece to piece) conn order is open_now = parts_was rests to conn (cut framing (unwrap_or (rest_of rests to) []) piece) order is open_now
event_was framing rests (event.Closes closed) {more = more} conn order is open_now =
    was_open rests closed conn None (closed == conn) refl order (ap (λ (now : List (Option (List ℕ))). log_connections.is_open now conn) (rests_by _ more is) ∙ open_now)
event_was framing rests event.Settles {more = more} conn order is open_now = ap (λ (x : Bool). x || false) (ap (λ (now : List (Option (List ℕ))). log_connections.is_open now conn) (rests_by _ more is) ∙ open_now)
event_was framing rests event.Ends {more = more} conn order is open_now = ap (λ (x : Bool). x || false) (ap (λ (now : List (Option (List ℕ))). log_connections.is_open now conn) (rests_by _ more is) ∙ open_now)

-- behind some events it was open before them, or they open it
events_was : (framing : Framing) (rests : List (Option (List ℕ))) (events : List LinkEvent) {all : Heard} (conn : ℕ) → heard_from framing rests events ≡ Some all → log_connections.is_open all.rests conn ≡ true → (log_connections.is_open rests conn || opens conn events) ≡ true
unfolding heard_from
events_was framing rests [] {all = all} conn is open_now = ap (λ (x : Bool). x || false) (ap (λ (now : List (Option (List ℕ))). log_connections.is_open now conn) (rests_by _ all is) ∙ open_now)
events_was framing rests (e ∷ events) {all = all} conn is open_now =
    let step = step_heard framing rests e events all is in
    let later = events_was framing step.first.rests events conn step.behind.is (ap (λ (now : List (Option (List ℕ))). log_connections.is_open now conn) (sym step.behind.rests) ∙ open_now) in
    ap (λ (b : Bool). log_connections.is_open rests conn || b) (opens-first conn e events)
    ∙ by (log_connections.is_open rests conn) (opens_by conn e) (opens conn events) (log_connections.is_open step.first.rests conn) (event_was framing rests e conn step.order step.brings) later
  where
    by : (x y z w : Bool) → (w ≡ true → (x || y) ≡ true) → (w || z) ≡ true → (x || (y || z)) ≡ true
    by true y z w first later = refl
    by false true z w first later = refl
    by false false true w first later = refl
    by false false false true first later = first refl
    by false false false false first later = later

none_at : (conn : ℕ) → log_connections.is_open none_open conn ≡ false
unfolding none_open
none_at conn = of (cases_lt conn CONNECTIONS)
  where
    of : (conn < CONNECTIONS) ⊎ (CONNECTIONS ≤ conn) → log_connections.is_open none_open conn ≡ false
    of (inl low) = ap is_some (get_or-replicate {A = Option (List ℕ)} CONNECTIONS conn None None low)
    of (inr high) = ap is_some (get_or_past none_open conn None (omega (arith, high, length-replicate {A = Option (List ℕ)} CONNECTIONS None)))

-- where a log knows a connection as open, its events open it
pub opens_shown : {framing : Framing} {events : List LinkEvent} {log : Log} (conn : ℕ) → Shows framing events log → log_connections.is_open log.rests conn ≡ true → opens conn events ≡ true
opens_shown {framing = framing} {events = events} conn shows open_now =
    ap (λ (b : Bool). b || opens conn events) (sym (none_at conn)) ∙ events_was framing none_open events conn shows.is_heard open_now

-- a log heard the close of a connection: its events open it
pub opens_closed : {bounds : Bounds} {before : List Entry} (conn : ℕ) {old new : Log} → KeepsItems bounds before old → KeepsItems bounds (before ++ entry.Took (event.Closes conn) ∷ []) new
    → opens conn (heeded bounds (events_of bounds (before ++ entry.Took (event.Closes conn) ∷ []))) ≡ true
opens_closed {bounds = bounds} {before = before} conn {old = old} {new = new} keeps later =
    let e : LinkEvent = event.Closes conn in
    let is : events_of bounds (before ++ entry.Took e ∷ []) ≡ events_of bounds before ++ e ∷ [] = events_behind bounds before e refl in
    let all : behind_items keeps.shows.items (hear old.framing old.rests e) ≡ Some (record { items = later.shows.items; rests = new.rests }) =
    sym (heard_behind bounds.framing (events_of bounds before) e old keeps.shows) ∙ (ap (heard_from bounds.framing none_open) (sym is) ∙ later.shows.is_heard) in
    ap (opens conn) (later.all_heeded ∙ is) ∙ (opens-last conn (events_of bounds before) e ∙ ap (λ (b : Bool). b || false) (opens_shown conn keeps.shows (by (hear old.framing old.rests e) refl all)))
  where
    by : (found : Option Heard) → hear old.framing old.rests (event.Closes conn) ≡ found → behind_items keeps.shows.items found ≡ Some (record { items = later.shows.items; rests = new.rests }) → log_connections.is_open old.rests conn ≡ true
    by None is all = absurd (let never : ⊥ = cc in never)
    by (Some more) is all = (heard_some (log_connections.is_open old.rests conn) (brought old.framing old.rests (event.Closes conn)) more is).0

-- a close that a log heard is one that is heeded
pub closes_closed : {bounds : Bounds} (before : List Entry) (conn : ℕ) {new : Log} → KeepsItems bounds (before ++ entry.Took (event.Closes conn) ∷ []) new
    → closes conn (heeded bounds (events_of bounds (before ++ entry.Took (event.Closes conn) ∷ []))) ≡ true
closes_closed {bounds = bounds} before conn later =
    let e : LinkEvent = event.Closes conn in
    ap (closes conn) (later.all_heeded ∙ events_behind bounds before e refl) ∙ (closes-last conn (events_of bounds before) e ∙ (ap (λ (b : Bool). closes conn (events_of bounds before) || b) (eq-eqb conn conn refl) ∙ either (closes conn (events_of bounds before))))
  where
    either : (x : Bool) → (x || true) ≡ true
    either true = refl
    either false = refl

-- a result of which this holds where it is Ok
pub if_ok : {X E : Type 0} (P : Type 0) (result : Result X E) → P → IfOk result (λ _. P)
if_ok P (Ok done) h = h
if_ok P (Err why) h = tt

-- what an event is, by the answer
shown_items : (e : LinkEvent) {shown : heard_type.Heard} → IsShown e shown → shown ≡ heard.Items → IsQuiet e
shown_items (event.Opens conn) is items = tt
shown_items (event.Piece conn bytes) is items = tt
shown_items (event.Closes conn) is items = let never : heard.Closes conn ≡ heard.Items = sym is ∙ items in absurd (let no : ⊥ = cc in no)
shown_items event.Settles is items = let never : heard.Settles ≡ heard.Items = sym is ∙ items in absurd (let no : ⊥ = cc in no)
shown_items event.Ends is items = let never : heard.Ends ≡ heard.Items = sym is ∙ items in absurd (let no : ⊥ = cc in no)

shown_closes : (e : LinkEvent) {shown : heard_type.Heard} {conn : ℕ} → IsShown e shown → shown ≡ heard.Closes conn → e ≡ event.Closes conn
shown_closes (event.Opens opened) {conn = conn} is so = let never : heard.Items ≡ heard.Closes conn = sym is ∙ so in absurd (let no : ⊥ = cc in no)
shown_closes (event.Piece to bytes) {conn = conn} is so = let never : heard.Items ≡ heard.Closes conn = sym is ∙ so in absurd (let no : ⊥ = cc in no)
shown_closes (event.Closes closed) {conn = conn} is so = let both : heard.Closes closed ≡ heard.Closes conn = sym is ∙ so in let same : closed ≡ conn = cc in ap event.Closes same
shown_closes event.Settles {conn = conn} is so = let never : heard.Settles ≡ heard.Closes conn = sym is ∙ so in absurd (let no : ⊥ = cc in no)
shown_closes event.Ends {conn = conn} is so = let never : heard.Ends ≡ heard.Closes conn = sym is ∙ so in absurd (let no : ⊥ = cc in no)

shown_settles : (e : LinkEvent) {shown : heard_type.Heard} → IsShown e shown → shown ≡ heard.Settles → e ≡ event.Settles
shown_settles (event.Opens opened) is so = let never : heard.Items ≡ heard.Settles = sym is ∙ so in absurd (let no : ⊥ = cc in no)
shown_settles (event.Piece to bytes) is so = let never : heard.Items ≡ heard.Settles = sym is ∙ so in absurd (let no : ⊥ = cc in no)
shown_settles (event.Closes closed) is so = let never : heard.Closes closed ≡ heard.Settles = sym is ∙ so in absurd (let no : ⊥ = cc in no)
shown_settles event.Settles is so = refl
shown_settles event.Ends is so = let never : heard.Ends ≡ heard.Settles = sym is ∙ so in absurd (let no : ⊥ = cc in no)

shown_ends : (e : LinkEvent) {shown : heard_type.Heard} → IsShown e shown → shown ≡ heard.Ends → e ≡ event.Ends
shown_ends (event.Opens opened) is so = let never : heard.Items ≡ heard.Ends = sym is ∙ so in absurd (let no : ⊥ = cc in no)
shown_ends (event.Piece to bytes) is so = let never : heard.Items ≡ heard.Ends = sym is ∙ so in absurd (let no : ⊥ = cc in no)
shown_ends (event.Closes closed) is so = let never : heard.Closes closed ≡ heard.Ends = sym is ∙ so in absurd (let no : ⊥ = cc in no)
shown_ends event.Settles is so = let never : heard.Settles ≡ heard.Ends = sym is ∙ so in absurd (let no : ⊥ = cc in no)
shown_ends event.Ends is so = refl

-- an event that was heard, behind a journal
pub record HeardEvent (bounds : Bounds) (before : List Entry) (all : List Send) (was seen : Seen) (log : Log) (ledger : Ledger) (events : ℕ) (e : LinkEvent) : Type 0 where
  pub tells : Takes was.told seen.told e
  pub heard : IsHeard bounds before all e log ledger
  pub phases : KeepsPhases bounds (before ++ entry.Took e ∷ []) seen.phases
  pub counted : events ≡ length (events_of bounds (before ++ entry.Took e ∷ []))

module _ {bounds : Bounds} {before : List Entry} {all : List Send} {was seen : Seen} {log : Log} {ledger : Ledger} {events : ℕ} (shown : heard_type.Heard) (h : HearsBy bounds before all log ledger events was seen (Ok shown)) where
  event_heard : HeardEvent bounds before all was seen log ledger events h.0
  event_heard = record { tells = h.1.1; heard = h.1.2; phases = h.1.3; counted = h.1.4 }

  pub items_heard : shown ≡ heard.Items → (e : LinkEvent) × IsQuiet e × HeardEvent bounds before all was seen log ledger events e
  items_heard is = (h.0, shown_items h.0 h.1.0 is, event_heard)

  pub close_heard : {conn : ℕ} → shown ≡ heard.Closes conn → HeardEvent bounds before all was seen log ledger events (event.Closes conn)
  close_heard is = subst (HeardEvent bounds before all was seen log ledger events) (shown_closes h.0 h.1.0 is) event_heard

  pub settle_heard : shown ≡ heard.Settles → HeardEvent bounds before all was seen log ledger events event.Settles
  settle_heard is = subst (HeardEvent bounds before all was seen log ledger events) (shown_settles h.0 h.1.0 is) event_heard

  pub end_heard : shown ≡ heard.Ends → HeardEvent bounds before all was seen log ledger events event.Ends
  end_heard is = subst (HeardEvent bounds before all was seen log ledger events) (shown_ends h.0 h.1.0 is) event_heard

-- one event more was counted
pub one_counted : (bounds : Bounds) (before : List Entry) (e : LinkEvent) (old new : ℕ) → IsEvent e → old ≡ length (events_of bounds before) → new ≡ length (events_of bounds (before ++ entry.Took e ∷ [])) → old < new
one_counted bounds before e old new one was is = omega (arith, was, is, ap length (events_behind bounds before e one), length-append (events_of bounds before) (e ∷ []))

pub quiet_event : (e : LinkEvent) → IsQuiet e → IsEvent e
quiet_event (event.Opens conn) is = refl
quiet_event (event.Piece conn bytes) is = refl
quiet_event (event.Closes conn) is = absurd is
quiet_event event.Settles is = absurd is
quiet_event event.Ends is = absurd is

quiet_closing : (e : LinkEvent) → IsQuiet e → closing_of e ≡ None
quiet_closing (event.Opens conn) is = refl
quiet_closing (event.Piece conn bytes) is = refl
quiet_closing (event.Closes conn) is = absurd is
quiet_closing event.Settles is = absurd is
quiet_closing event.Ends is = absurd is

-- a session with another log, other replies and another count of events
abbrev pub with_heard : {R : Type 0} → SessionState R → Log → Ledger → ℕ → SessionState R
with_heard session log ledger events = record session { log = log; replies = ledger; events = events }

-- a session seen in another way still waits, and has none left
pub moved : {R : Type 0} {rules : Rules} {image : Image} {began : Since} {before : Seen} {s t : SessionState R} → s ≡ t → IsWaitingFor rules image began before s → IsWaitingFor rules image began before t
moved {rules = rules} {image = image} {began = began} {before = before} same = subst (λ (s : SessionState _). IsWaitingFor rules image began before s) same

module _ {R : Type 0} where
  -- a session that waits, and has taken all that its log received
  pub all_taken : {rules : Rules} {image : Image} {began : Since} {before : Seen} {old : SessionState R} (w : IsWaitingFor rules image began before old) → logs.received old.log ≤ old.taken
      → received rules.bounds (entries w.hearing.story) ≤ w.hearing.story.survivor.now.state.machine.taken
  all_taken w none_left =
      omega (arith, none_left, received_is w.hearing.goes.items, w.hearing.answers.taken)

  pub run_of : {old : SessionState R} {log : Log} {ledger : Ledger} {events : ℕ} → log.first ≡ old.log.first → HasSameRun old (with_heard old log ledger events)
  run_of first = record { cpu = refl; recorded = refl; choices = refl; taken = refl; steps = refl; first = first; env = refl; until = refl; options = refl }

  -- what is known behind an event
  pub story_heard : {rules : Rules} {image : Image} {began : Since} {before seen : Seen} {old : SessionState R} {log : Log} {ledger : Ledger} {events : ℕ} {e : LinkEvent} (w : IsWaitingFor rules image began before old)
      → logs.received old.log ≤ old.taken → log.first ≡ old.log.first → HeardEvent rules.bounds (entries w.hearing.story) (sends w.hearing.story) before seen log ledger events e
      → HasHeard rules image began seen (then_story w.hearing.story (entry.Took e ∷ [])) (with_heard old log ledger events)
  story_heard w none_left first h =
      has_heard w (all_taken w none_left) (run_of first) h.tells h.heard h.phases h.counted

  -- it knows what a ledger asks of a session before it passes something
  pub can_pass : {rules : Rules} {image : Image} {began : Since} {seen : Seen} {story : Story} {session : SessionState R} {closing : Option ℕ} → HasHeard rules image began seen story session
      → KeepsReplies rules.bounds (entries story) closing (sends story) session.replies → session.replies.trial ≡ None → CanPass session
  can_pass {rules = rules} {story = story} {closing = closing} known replies no_trial = record {
    bounds = rules.bounds;
    entries = entries story;
    closing = closing;
    sends = sends story;
    replies = replies;
    no_trial = no_trial;
    ordered = known.told.serving.carries.ordered;
    received_are = received_is known.goes.items;
  }

  -- the same behind an event
  pub heard_can : {rules : Rules} {image : Image} {began : Since} {before seen : Seen} {old : SessionState R} {log : Log} {ledger : Ledger} {events : ℕ} {e : LinkEvent} (w : IsWaitingFor rules image began before old)
      → logs.received old.log ≤ old.taken → log.first ≡ old.log.first → ledger.trial ≡ old.replies.trial → HeardEvent rules.bounds (entries w.hearing.story) (sends w.hearing.story) before seen log ledger events e
      → CanPass (with_heard old log ledger events)
  heard_can {rules = rules} {ledger = ledger} {e = e} w none_left first trial h =
      can_pass (story_heard w none_left first h)
      (subst (λ (es : List Entry). KeepsReplies rules.bounds es (closing_of e) (sends w.hearing.story) ledger) (more_entries w.hearing.story (entry.Took e ∷ [])) h.heard.replies) (trial ∙ w.hearing.passed.no_trial)

  -- a connection whose close was heard was opened
  pub heard_opened : {rules : Rules} {image : Image} {began : Since} {before seen : Seen} {old : SessionState R} {log : Log} {ledger : Ledger} {events conn : ℕ} (w : IsWaitingFor rules image began before old)
      → HeardEvent rules.bounds (entries w.hearing.story) (sends w.hearing.story) before seen log ledger events (event.Closes conn) → is_some (connection_of ledger.connections conn) ≡ true
  heard_opened {conn = conn} w h =
      h.heard.replies.opened conn ∙ opens_closed conn w.hearing.goes.items h.heard.items

  -- what was sent to it may be passed: a close that was heard is heeded, and owes all that was sent to its connection
  pub heard_closing : {rules : Rules} {image : Image} {began : Since} {before seen : Seen} {old : SessionState R} {log : Log} {ledger : Ledger} {events conn : ℕ} (w : IsWaitingFor rules image began before old)
      → logs.received old.log ≤ old.taken → log.first ≡ old.log.first → HeardEvent rules.bounds (entries w.hearing.story) (sends w.hearing.story) before seen log ledger events (event.Closes conn)
      → IsClosing rules (sends w.hearing.story) (moment (then_story w.hearing.story (entry.Took (event.Closes conn) ∷ []))) conn ledger
  heard_closing {rules = rules} {ledger = ledger} {conn = conn} w none_left first h =
      let story : Story = w.hearing.story in
      let es = more_entries story (entry.Took (event.Closes conn) ∷ []) in
      close_ready story (story_heard w none_left first h).told w.hearing.told.serving.carries.taken
      (subst (λ (all : List Entry). closes conn (heeded rules.bounds (events_of rules.bounds all)) ≡ true) es (closes_closed (entries story) conn h.heard.items))
      (subst (λ (all : List Entry). KeepsReplies rules.bounds all (Some conn) (sends story) ledger) es h.heard.replies)

  -- a settle owes all that was sent to open connections
  pub heard_settled : {rules : Rules} {image : Image} {began : Since} {before seen : Seen} {old : SessionState R} {log : Log} {ledger : Ledger} {events until : ℕ} (w : IsWaitingFor rules image began before old)
      → logs.received old.log ≤ old.taken → log.first ≡ old.log.first → HeardEvent rules.bounds (entries w.hearing.story) (sends w.hearing.story) before seen log ledger events event.Settles
      → IsReady rules (sends w.hearing.story) (moment (then_story w.hearing.story (entry.Took event.Settles ∷ []))) until ledger
  heard_settled {rules = rules} {ledger = ledger} w none_left first h =
      let story : Story = w.hearing.story in
      settle_ready story (story_heard w none_left first h).told w.hearing.told.serving.carries.taken
      (subst (λ (all : List Entry). KeepsReplies rules.bounds all None (sends story) ledger) (more_entries story (entry.Took event.Settles ∷ [])) h.heard.replies)

  -- before the event that was heard no more items were received than were taken
  pub heard_last : {rules : Rules} {image : Image} {began : Since} {before : Seen} {old : SessionState R} (e : LinkEvent) (w : IsWaitingFor rules image began before old) → logs.received old.log ≤ old.taken → IsNoEnd e
      → IsLatestBefore rules (moment (then_story w.hearing.story (entry.Took e ∷ []))) (w.hearing.story.survivor.now.state.machine.taken + 1)
  heard_last {rules = rules} e w none_left no_end =
      before_story rules w.hearing.story e no_end (omega (arith, all_taken w none_left))

  -- its checkpoints behind an event
  pub heard_saved : {rules : Rules} {image : Image} {began : Since} {before seen : Seen} {old : SessionState R} {log : Log} {ledger : Ledger} {events : ℕ} {e : LinkEvent} (w : IsWaitingFor rules image began before old)
      → log.first ≡ old.log.first → ledger.first ≡ old.replies.first → HeardEvent rules.bounds (entries w.hearing.story) (sends w.hearing.story) before seen log ledger events e
      → KeepsCheckpoints rules image (then_story w.hearing.story (entry.Took e ∷ [])) (with_heard old log ledger events)
  heard_saved w first kept h =
      saved_heard w (run_of first) kept h.heard

  -- items came, or none
  pub items_hearing : {rules : Rules} {image : Image} {began : Since} {before seen : Seen} {old : SessionState R} {log : Log} {ledger : Ledger} {events : ℕ} {e : LinkEvent} (w : IsWaitingFor rules image began before old)
      → logs.received old.log ≤ old.taken → log.first ≡ old.log.first → ledger.first ≡ old.replies.first → ledger.trial ≡ old.replies.trial → IsQuiet e → HeardEvent rules.bounds (entries w.hearing.story) (sends w.hearing.story) before seen log ledger events e
      → IsHearing rules image began seen (with_heard old log ledger events)
  items_hearing {rules = rules} {ledger = ledger} {e = e} w none_left first kept trial is h =
      let story : Story = w.hearing.story in
      hearing_items story e is (story_heard w none_left first h)
      (all_taken w none_left)
      (subst (λ (es : List Entry). KeepsReplies rules.bounds es None (sends story) ledger) (more_entries story (entry.Took e ∷ []))
      (subst (λ (closing : Option ℕ). KeepsReplies rules.bounds (entries story ++ entry.Took e ∷ []) closing (sends story) ledger) (quiet_closing e is) h.heard.replies))
      (trial ∙ w.hearing.passed.no_trial) (saved_heard w (run_of first) kept h.heard)

  -- behind what was passed the guest waits, unless the session was broken off
  pub waits_due : {rules : Rules} {image : Image} {began : Since} {before : Seen} (seen : Seen) {old new : SessionState R} (h : IsHearing rules image began before old) (result : Result (Unit {0}) Stop)
      → new ≡ record old { replies = new.replies } → new.replies.first ≡ old.replies.first → ((conn : ℕ) → seen.phases conn ≡ before.phases conn) → seen.takes ≡ true → PassesDue rules image began seen h.story new result → WaitsBy rules image began seen new result
  waits_due {rules = rules} {image = image} {began = began} seen h (Ok done) same kept stay still passes =
      subst (λ (s : SessionState R). IsWaitingFor rules image began seen s) (sym same) (waits_on h passes.0 passes.1 stay passes.2 passes.3 passes.4 kept)
  waits_due seen h (Err (stop.Ends end)) same kept stay still passes = absurd passes
  waits_due seen h (Err (stop.Breaks end)) same kept stay still passes = (passes, λ none. still_takes _ still none)

  -- where what was due behind an event was passed, the guest waits on
  waits_heard : {rules : Rules} {image : Image} {began : Since} {before seen : Seen} {story : Story} {old : SessionState R} {replies : Ledger} (known : HasHeard rules image began before story old)
      → KeepsCheckpoints rules image story old → replies.first ≡ old.replies.first → IsLatestBefore rules (moment story) (story.survivor.now.state.machine.taken + 1) → (more : List Entry) → AreGiven more → ((conn : ℕ) → seen.phases conn ≡ before.phases conn) → IsTold rules image began seen.told (then_story story more)
      → HasPassed rules (then_story story more) replies → HasPassedDue rules (then_story story more) → IsWaitingFor rules image began seen (record old { replies = replies })
  waits_heard {rules = rules} {story = story} known saved kept last more given stay told passed due = record {
    hearing = record {
      story = then_story story more;
      told = told;
      answers = answers_still more (same_run) known.answers;
      goes = goes_given more given stay known.goes;
      saved = saved_given more given kept saved;
      past = known.past;
      passed = passed;
      asks = known.asks;
      latest = before_given rules story more given last;
    };
    due = due;
  }

  pub waits_closed : {rules : Rules} {image : Image} {began : Since} {before : Seen} (seen : Seen) {story : Story} {old new : SessionState R} (known : HasHeard rules image began before story old) (result : Result (Unit {0}) Stop)
      → KeepsCheckpoints rules image story old → IsLatestBefore rules (moment story) (story.survivor.now.state.machine.taken + 1) → new ≡ record old { replies = new.replies } → new.replies.first ≡ old.replies.first → ((conn : ℕ) → seen.phases conn ≡ before.phases conn)
      → seen.takes ≡ true → PassesDue rules image began seen story new result → WaitsBy rules image began seen new result
  waits_closed {rules = rules} {image = image} {began = began} seen known (Ok done) saved last same kept stay still passes =
      subst (λ (s : SessionState R). IsWaitingFor rules image began seen s) (sym same) (waits_heard known saved kept last passes.0 passes.1 stay passes.2 passes.3 passes.4)
  waits_closed seen known (Err (stop.Ends end)) saved last same kept stay still passes = absurd passes
  waits_closed seen known (Err (stop.Breaks end)) saved last same kept stay still passes = (passes, λ none. still_takes _ still none)

  -- all that was sent to open connections was passed behind a settle
  pub waits_settled : {rules : Rules} {image : Image} {began : Since} {before : Seen} (seen : Seen) (story : Story) {until : ℕ} {old new : SessionState R}
      (known : HasHeard rules image began before (then_story story (entry.Took event.Settles ∷ [])) old) (result : Result (Unit {0}) Stop) → story.survivor.now.state.machine.taken ≤ until
      → received rules.bounds (entries story) ≤ story.survivor.now.state.machine.taken → KeepsCheckpoints rules image (then_story story (entry.Took event.Settles ∷ [])) old → new ≡ record old { replies = new.replies } → new.replies.first ≡ old.replies.first → new.replies.trial ≡ None → ((conn : ℕ) → seen.phases conn ≡ before.phases conn)
      → seen.takes ≡ true → PassesStory rules image began seen (then_story story (entry.Took event.Settles ∷ [])) until new result → WaitsBy rules image began seen new result
  waits_settled {rules = rules} {image = image} {began = began} {before = before} seen story known (Ok done) few all saved same kept no_trial stay still passes =
      let after : Story = then_story story (entry.Took event.Settles ∷ []) in
      let more : List Entry = passes.0 in
      let last : Latest = record { before = story.since; event = event.Settles } in
      let whole = all_due passes.2 few passes.3 passes.4 in
      let is = latest-given after.since more passes.1 ∙ latest_story story tt in
      subst (λ (s : SessionState R). IsWaitingFor rules image began seen s) (sym same)
      (waits_heard known saved kept (before_story rules story event.Settles tt (omega (arith, all))) more passes.1 stay passes.2
      (record { replies = passes.3; no_trial = no_trial; done = settle_done rules (then_story after more) is refl whole }) (λ send stands still early. whole send stands still))
  waits_settled seen story known (Err (stop.Ends end)) few all saved same kept no_trial stay still passes = absurd passes
  waits_settled seen story known (Err (stop.Breaks end)) few all saved same kept no_trial stay still passes = (passes, λ none. still_takes _ still none)

  -- an event that is refused, whatever it is
  refused_any : {rules : Rules} {image : Image} {began : Since} {before seen : Seen} {old new : SessionState R} (w : IsWaitingFor rules image began before old) (e : LinkEvent) (cause : Unheeded) {end : SessionEnd} → IsHandled old
      → received rules.bounds (entries w.hearing.story) ≤ w.hearing.story.survivor.now.state.machine.taken → Tells before.told seen.told (entry.Took e ∷ []) → (u : IsUnheeded rules.bounds (entries w.hearing.story) (sends w.hearing.story) e cause new.replies)
      → HasSameRun old new → new.log ≡ old.log → new.replies.trial ≡ None
      → (IsWaiting rules (entries (then_story w.hearing.story (entry.Took e ∷ []))) w.hearing.story.survivor → IsLastRefused rules.bounds (entries (then_story w.hearing.story (entry.Took e ∷ []))) cause
      → StandsAt rules (entries (then_story w.hearing.story (entry.Took e ∷ []))) seen.coming w.hearing.story.survivor end)
      → GivesUpBy None end → IsEnding rules image began seen new end
  refused_any w event.Ends cause handled all tells u same log no_trial stands gave_up = absurd (u.no_end refl)
  refused_any w (event.Opens conn) cause handled all tells u same log no_trial stands gave_up = ending_refused w cause tt handled all tells u same log no_trial stands gave_up
  refused_any w (event.Piece conn bytes) cause handled all tells u same log no_trial stands gave_up = ending_refused w cause tt handled all tells u same log no_trial stands gave_up
  refused_any w (event.Closes conn) cause handled all tells u same log no_trial stands gave_up = ending_refused w cause tt handled all tells u same log no_trial stands gave_up
  refused_any w event.Settles cause handled all tells u same log no_trial stands gave_up = ending_refused w cause tt handled all tells u same log no_trial stands gave_up

  -- what stands behind a stop, by the fault
  pub stops_by : {rules : Rules} {image : Image} {began : Since} {before : Seen} (seen : Seen) {old : SessionState R} (log : Log) (ledger : Ledger) (events : ℕ) (why : HearFault) (stopped : Stop) (w : IsWaitingFor rules image began before old)
      → IsHandled old → logs.received old.log ≤ old.taken → log.first ≡ old.log.first → ledger.trial ≡ old.replies.trial → Stays old.log log old.replies ledger old.events events (Err why) → ComesLast seen.coming (Err why)
      → HearsBy rules.bounds (entries w.hearing.story) (sends w.hearing.story) log ledger events before seen (Err why) → TakesBehind before.told seen.told seen.takes (Err why) → IsStopAt why stopped → StopsBy rules image began seen (with_heard old log ledger events) stopped
  stops_by {rules = rules} {image = image} {began = began} seen {old = old} log ledger events (fault.Refused kind offset) stopped w handled none_left first trial stays last h behind is =
      subst (StopsBy rules image began seen (with_heard old log ledger events)) (sym is)
      (let stopped = ending_stopped w handled (all_taken w none_left) h.0 (run_of first) stays.0 stays.1 last in (stopped.0, λ none. stopped.1))
  stops_by {rules = rules} {image = image} {began = began} seen {old = old} log ledger events fault.LimitEvents stopped w handled none_left first trial stays last h behind is =
      subst (StopsBy rules image began seen (with_heard old log ledger events)) (sym is) (
        (refused_any w h.0 unheeded.LimitEvents handled (all_taken w none_left) h.1 h.2 (run_of first) stays.0
            (trial ∙ w.hearing.passed.no_trial) (λ waits refused. (waits, refused)) tt),
        λ none. still_takes _ behind none,
      )
  stops_by {rules = rules} {image = image} {began = began} {before = before} seen {old = old} log ledger events (fault.TooLong conn) stopped w handled none_left first trial stays last h behind is =
      subst (StopsBy rules image began seen (with_heard old log ledger events)) (sym is) (
        (refused_any w h.0 unheeded.TooLong handled (all_taken w none_left) h.1 h.2 (run_of first) stays.0
            (trial ∙ w.hearing.passed.no_trial)
            (λ waits refused. (waits, record { refused = record { before = entries w.hearing.story; event = h.0; last = sym (more_entries w.hearing.story (entry.Took h.0 ∷ [])); no_end = h.2.no_end; refused = h.2.refused }; piece = h.3 })) tt),
        λ none. still_takes _ behind none,
      )
  stops_by {rules = rules} {image = image} {began = began} seen {old = old} log ledger events fault.LimitItems stopped w handled none_left first trial stays last h behind is =
      subst (StopsBy rules image began seen (with_heard old log ledger events)) (sym is) (
        (refused_any w h.0 unheeded.LimitItems handled (all_taken w none_left) h.1 h.2 (run_of first) stays.0
            (trial ∙ w.hearing.passed.no_trial) (λ waits refused. (waits, refused)) tt),
        λ none. still_takes _ behind none,
      )
  stops_by {rules = rules} {image = image} {began = began} seen {old = old} log ledger events fault.ReadFault stopped w handled none_left first trial stays last h behind is =
      subst (StopsBy rules image began seen (with_heard old log ledger events)) (sym is)
      (let off = off_read w handled (all_taken w none_left) h.0 (run_of first) in (off, λ none. off.is.ended.ends.0))
  stops_by {rules = rules} {image = image} {began = began} seen {old = old} log ledger events fault.Memory stopped w handled none_left first trial stays last h behind is =
      subst (StopsBy rules image began seen (with_heard old log ledger events)) (sym is)
      (off_memory w (all_taken w none_left) (run_of first) behind h)

  -- the link has ended
  pub ends_by : {rules : Rules} {image : Image} {began : Since} {before seen : Seen} {old : SessionState R} {log : Log} {ledger : Ledger} {events : ℕ} (w : IsWaitingFor rules image began before old)
      → IsHandled old → logs.received old.log ≤ old.taken → log.first ≡ old.log.first → ledger.trial ≡ old.replies.trial → HeardEvent rules.bounds (entries w.hearing.story) (sends w.hearing.story) before seen log ledger events event.Ends
      → ComesLast seen.coming (Ok heard.Ends) → IsEnding rules image began seen (with_heard old log ledger events) session_end.Finished
  ends_by w handled none_left first trial h last =
      ending_ended w handled (all_taken w none_left) h.tells h.heard (run_of first) (trial ∙ w.hearing.passed.no_trial) last

  -- how far a session has come that heard its link, and still waits
  pub record HasAwaited (Went : Type 0) (rules : Rules) (before seen : Seen) (old new : SessionState R) : Type 0 where
    pub hears : (image : Image) (began : Since) → IsWaitingFor rules image began before old → IsWaitingFor rules image began seen new
    pub same : HasSameGuest old new
    pub handled : IsHandled new
    pub may : MayServe seen new.replies
    pub known : StaysKnown before.coming seen.coming
    pub no_takes_fell : before.counts.takes ≤ seen.counts.takes
    pub no_gives_fell : before.counts.gives ≤ seen.counts.gives
    pub went : Went

  -- the same guest, with as many items taken: no checkpoint is due still
  pub handled_same : {old new : SessionState R} → HasSameGuest old new → IsHandled old → IsHandled new
  handled_same {old = old} {new = new} same handled =
      (λ i. is_far (same.options i).every (same.taken i) (slice_get (stands_of (same.cpu i).slots.saved) 0)) ∙ handled

  -- one call after another
  pub same_then : {old mid new : SessionState R} → HasSameGuest old mid → HasSameGuest mid new → HasSameGuest old new
  same_then first second = record {
    options = second.options ∙ first.options;
    before = second.before ∙ first.before;
    hold = second.hold ∙ first.hold;
    cpu = second.cpu ∙ first.cpu;
    recorded = second.recorded ∙ first.recorded;
    choices = second.choices ∙ first.choices;
    taken = second.taken ∙ first.taken;
    steps = second.steps ∙ first.steps;
    until = second.until ∙ first.until;
    first = second.first ∙ first.first;
    sends = second.sends ∙ first.sends;
    keeping = second.keeping ∙ first.keeping;
  }

  -- the same guest has the same rules
  pub same_rules : (rule : R → Heap → ℕ → ℕ → Bool) {old new : SessionState R} → HasSameGuest old new → rules_by rule new ≡ rules_by rule old
  same_rules rule same = λ i. rules_in (same.options i) (same.before i) (same.hold i) (rule ((same.cpu i).rule))

  pub waits_under : {image : Image} {began : Since} {seen : Seen} {session : SessionState R} {first second : Rules} → first ≡ second → IsWaitingFor first image began seen session → IsWaitingFor second image began seen session
  waits_under {image = image} {began = began} {seen = seen} {session = session} {first = first} same = subst (λ (rules : Rules). IsWaitingFor rules image began seen session) same

  pub stops_under : (image : Image) (began : Since) (seen : Seen) (session : SessionState R) (why : Stop) {first second : Rules} → first ≡ second → StopsBy first image began seen session why → StopsBy second image began seen session why
  stops_under image began seen session why same = subst (λ (rules : Rules). StopsBy rules image began seen session why) same

-- where no count fell before a call, its cause is one of both
pub cause_then : {X : Type 0} {before mid now : Counts} {result : Result X Stop} → before.takes ≤ mid.takes → before.gives ≤ mid.gives → HasStopCause mid now result → HasStopCause before now result
cause_then {before = before} {mid = mid} {now = now} takes gives cause = record {
  takes = let later = cause.takes in omega (arith, takes, later);
  gives = let later = cause.gives in omega (arith, gives, later);
  read_fault = λ is. rose_later before.takes mid.takes now.takes takes (cause.read_fault is);
  write_fault = λ is. rose_later before.gives mid.gives now.gives gives (cause.write_fault is);
}

pub no_cause : {X : Type 0} {before now : Counts} (done : X) → before.takes ≤ now.takes → before.gives ≤ now.gives → HasStopCause before now (Ok done)
no_cause done takes gives = record { takes = takes; gives = gives; read_fault = λ is. absurd (let never : ⊥ = cc in never); write_fault = λ is. absurd (let never : ⊥ = cc in never) }
