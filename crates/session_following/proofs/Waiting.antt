-- What a session that follows does at its request: it is handled as by an ordinary session, the link is heard, and an item is taken.
use Rattle.item_log.specs.Log as logs
use Rattle.links.specs.declared.journal.Entry.TheVariants as entry
use Rattle.links.specs.declared.journal.LinkEvent.TheVariants as event
use Rattle.link_gate.specs.declared.heard.Heard as heard_type
use Rattle.link_gate.specs.declared.heard.Heard.TheVariants as heard
use Rattle.guest_cpu.proofs.TakeLemmas.{takes_write}
use Rattle.session_state.specs.declared.options.Options.{Options}
use Rattle.std.specs.Prelude.{get_or}
use Rattle.session_following.proofs.Terms.{Bool, List, None, [], ap, append-nil, arith, inl, inr, length, map, refl, subst, sym, true, ℕ, ◌++◌, ◌+◌, ◌<◌, ◌∙◌, ◌∷◌, ◌≡◌, ◌≤◌, ◌⊎◌, map-append, slice_get-get_or, Ok, Result, Item, Send, Entry, LinkEvent, tells_then, Grew, Tells, Told, Seen, Choice, Heap, Log, Ledger, closed_connection, with_change, Image, AsksFor, Limits, Override, Path, Served, env_at, IsSilent, closing_of, Before, Bounds, events_of, items_in, nothing_before, received, KeepsItems, KeepsPhases, KeepsReplies, Rules, HearFault, ComesLast, HearsEvent, IsShown, MayHear, Noted, asks_under_all, episode_of, AsksForMore, heard_alone, Handed, plan_of, HeardEvent, with_heard, received_is, rules_in, rules_by, SessionState, IsGoing, IsWaitingFor, Since, Story, plan_up_to, before_heard, before_took, IsFollowing, rules_following, IsMissing, Agree, AsksOn, Follows, WaitsOn, held_back, marked, nothing_told}
use Rattle.session_following.specs.Waiting.{AnswersSame, EndedOn}
use Rattle.session_following.proofs.Following.{items_following, kept_following, took_following, took_one, whole_following}
use Rattle.session_following.proofs.Hearing.{close_following, event_following}
use Rattle.session_following.proofs.Meets.{is_marked, marked_following}
use Rattle.session_following.proofs.Moving.{heard_before, took_before}
use Rattle.session_following.proofs.PlanLemmas.{goes_to, same_steps}
use Rattle.session_following.proofs.Rebased.{StandsThere}
use Rattle.session_following.proofs.Steps.{going_there, marked_story}
use Rattle.session_following.proofs.Turning.{HasSameBase, here_then, past_following}

-- the event that was heard closes nothing, unless it is said to
quiet_items : (e : LinkEvent) → IsShown e heard.Items → closing_of e ≡ None
quiet_items (event.Opens conn) is = refl
quiet_items (event.Piece conn bytes) is = refl
quiet_items (event.Closes conn) is = let never : heard.Items ≡ heard.Closes conn = is in absurd (let no : ⊥ = cc in no)
quiet_items event.Settles is = refl
quiet_items event.Ends is = refl

quiet_settles : (e : LinkEvent) → IsShown e heard.Settles → closing_of e ≡ None
quiet_settles (event.Opens conn) is = refl
quiet_settles (event.Piece conn bytes) is = refl
quiet_settles (event.Closes conn) is = let never : heard.Settles ≡ heard.Closes conn = is in absurd (let no : ⊥ = cc in no)
quiet_settles event.Settles is = refl
quiet_settles event.Ends is = refl

is_close : (e : LinkEvent) {conn : ℕ} → IsShown e (heard.Closes conn) → e ≡ event.Closes conn
is_close (event.Opens opened) {conn = conn} is = let never : heard.Closes conn ≡ heard.Items = is in absurd (let no : ⊥ = cc in no)
is_close (event.Piece to bytes) {conn = conn} is = let never : heard.Closes conn ≡ heard.Items = is in absurd (let no : ⊥ = cc in no)
is_close (event.Closes closed) {conn = conn} is = let both : heard.Closes conn ≡ heard.Closes closed = is in let same : closed ≡ conn = cc in ap event.Closes same
is_close event.Settles {conn = conn} is = let never : heard.Closes conn ≡ heard.Settles = is in absurd (let no : ⊥ = cc in no)
is_close event.Ends {conn = conn} is = let never : heard.Closes conn ≡ heard.Ends = is in absurd (let no : ⊥ = cc in no)

is_end : (e : LinkEvent) → IsShown e heard.Ends → e ≡ event.Ends
is_end (event.Opens opened) is = let never : heard.Ends ≡ heard.Items = is in absurd (let no : ⊥ = cc in no)
is_end (event.Piece to bytes) is = let never : heard.Ends ≡ heard.Items = is in absurd (let no : ⊥ = cc in no)
is_end (event.Closes closed) is = let never : heard.Ends ≡ heard.Closes closed = is in absurd (let no : ⊥ = cc in no)
is_end event.Settles is = let never : heard.Ends ≡ heard.Settles = is in absurd (let no : ⊥ = cc in no)
is_end event.Ends is = refl

-- one event more is told
pub tells_one : {before told later : Told} (events : List LinkEvent) (e : LinkEvent) → Tells before told (heard_alone events) → Tells told later (entry.Took e ∷ []) → Tells before later (heard_alone (events ++ e ∷ []))
tells_one {before = before} {told = told} {later = later} events e first more =
    subst (Tells before later) (sym (map-append (λ (one : LinkEvent). entry.Took one) events (e ∷ []))) (tells_then before told later (heard_alone events) (entry.Took e ∷ []) first more)

pub tells_none : {before told later : Told} (events : List LinkEvent) → Tells before told (heard_alone events) → Tells told later [] → Tells before later (heard_alone (events ++ []))
tells_none {before = before} {told = told} {later = later} events first more =
    subst (λ (all : List LinkEvent). Tells before later (heard_alone all)) (sym (append-nil events)) (subst (Tells before later) (append-nil (heard_alone events)) (tells_then before told later (heard_alone events) [] first more))

module _ {R : Type 0} where
  -- it asks for more, where no item is left that it hasn't taken
  pub asks_more : {rules here : Rules} {image : Image} {handed : Handed} {told : Told} {seen : Seen} {before noted : Noted} {missing : List ℕ} {session : SessionState R} → rules.bounds.before ≡ nothing_before → (w : WaitsOn rules here image handed told seen before noted missing session)
      → logs.received session.log ≤ session.taken → AsksForMore rules image handed w.asking.stands.events
  asks_more {rules = rules} {image = image} {handed = handed} alone w none_left =
      let s = w.asking.stands in
      let f = s.follows in
      let plan : List Override = plan_of rules.limits.keep handed.episodes in
      let heard = items_following (held_back rules) image handed s.events s.now alone in
      let low = f.stands.sound.carries.taken in
      let exact : s.now.state.machine.taken ≡ received rules.bounds (heard_alone s.events) = omega (arith, low, none_left, received_is f.stands.goes.items, f.stands.answers.taken, ap length heard) in
      record {
        path = s.now;
        ran = whole_following (held_back rules) image handed s.events s.now alone s.now f.stands.sound.carries.served;
        asks = subst (AsksFor rules.limits plan s.now) exact (asks_under_all rules.limits (plan_up_to rules.limits.base plan s.now.state.machine.taken) plan s.now s.now.state.machine.taken w.asking.asks);
        not_yet = w.not_yet;
      }

  -- it waits so for an item as an ordinary session
  pub waits_on : {rules here : Rules} {image : Image} {handed : Handed} {told : Told} (seen : Seen) {before noted : Noted} {missing : List ℕ} {session : SessionState R} → (a : AsksOn rules here image handed told seen before noted missing session) → rules.bounds.max_items < 4294967295
      → IsWaitingFor here image (marked before noted) (record seen { told = nothing_told }) session
  waits_on {image = image} seen {before = before} {noted = noted} {session = session} a few =
      subst (λ (r : Rules). IsWaitingFor r image (marked before noted) (record seen { told = nothing_told }) session) (sym a.stands.here_is) (marked_following seen a.stands.follows a.stands.episodes few a.asks)

  -- A method of an ordinary session was called there: it has made no instruction more.
  pub kept_on : (permits : R → Heap → ℕ → ℕ → Bool) {rules : Rules} {image : Image} {handed : Handed} {told : Told} {seen : Seen} {before noted later : Noted} {missing : List ℕ} {old new : SessionState R} → rules.bounds.before ≡ nothing_before
      → (a : AsksOn rules (rules_by permits old) image handed told seen before noted missing old) → IsWaitingFor (rules_by permits old) image (marked before later) (record seen { told = nothing_told }) new → HasSameBase old new → new.before ≡ old.before → new.steps ≡ old.steps
      → new.env ≡ old.env → new.until ≡ old.until → AsksOn rules (rules_by permits new) image handed told seen before later missing new
  kept_on permits {rules = rules} {image = image} {handed = handed} {seen = seen} {before = before} {later = later} {old = old} {new = new} alone a w base came steps env until =
      let s = a.stands in
      let waits : IsWaitingFor (rules_following (held_back rules) handed s.events s.now) image (marked before later) (record seen { told = nothing_told }) new =
      subst (λ (r : Rules). IsWaitingFor r image (marked before later) (record seen { told = nothing_told }) new) s.here_is w in
      let is = marked_story waits.hearing.told (is_marked before later) in
      record {
        stands = record {
          alone = alone;
          hold_is = s.hold_is ∙ sym (ap (λ (o : Options). o.hold) base.options);
          events = s.events;
          now = s.now;
          follows = kept_following alone s.follows waits.hearing (is_marked before later) steps env until;
          here_is = here_then permits (held_back rules) handed s.events s.events s.now s.now {old = old} {new = new} base s.here_is (came ∙ ap (λ (r : Rules). r.bounds.before) s.here_is);
          heard = s.heard;
          episodes = subst (λ (story : Story). Grew before.episodes later.episodes (map episode_of story.recoveries)) is waits.hearing.told.episodes;
          agree = s.agree;
          missing_are = s.missing_are;
        };
        asks = a.asks;
      }

  -- An event was heard: it brought items, or closed a connection, or settled.
  pub heard_on : (permits : R → Heap → ℕ → ℕ → Bool) {rules : Rules} {image : Image} {handed : Handed} {told : Told} {was seen : Seen} {before noted : Noted} {missing : List ℕ} {old new : SessionState R} {log : Log} {ledger : Ledger} {count : ℕ} (e : LinkEvent) → rules.bounds.before ≡ nothing_before
      → (w : WaitsOn rules (rules_by permits old) image handed told was before noted missing old) → logs.received old.log ≤ old.taken
      → IsFollowing (held_back rules) image handed (w.asking.stands.events ++ e ∷ []) w.asking.stands.now (marked before noted) seen.phases (with_heard old log ledger count) → Tells was.told seen.told (entry.Took e ∷ [])
      → new ≡ record (with_heard old log ledger count) { before = before_heard old.before e } → WaitsOn rules (rules_by permits new) image handed told seen before noted missing new
  heard_on permits {rules = rules} {image = image} {handed = handed} {seen = seen} {before = before} {noted = noted} {old = old} {new = new} {log = log} {ledger = ledger} {count = count} e alone w none_left follows tells is =
      let s = w.asking.stands in
      let came : new.before ≡ before_heard old.before e = ap (λ (t : SessionState R). t.before) is in
      let same : new ≡ record (with_heard old log ledger count) { before = new.before } = is ∙ (λ i. record (with_heard old log ledger count) { before = sym came i }) in
      record {
        asking = record {
          stands = record {
            alone = alone;
            hold_is = s.hold_is ∙ sym (ap (λ (t : SessionState R). t.options.hold) same);
            events = s.events ++ e ∷ [];
            now = s.now;
            follows = subst (λ (t : SessionState R). IsFollowing (held_back rules) image handed (s.events ++ e ∷ []) s.now (marked before noted) seen.phases t) (sym same) (past_following new.before old.hold follows);
            here_is =
                here_then permits (held_back rules) handed s.events (s.events ++ e ∷ []) s.now s.now {old = old} {new = new}
                (record { options = ap (λ (t : SessionState R). t.options) same; rule = ap (λ (t : SessionState R). t.cpu.rule) same; hold = ap (λ (t : SessionState R). t.hold) same }) s.here_is
                (came ∙ (ap (λ (b : Before). before_heard b e) (ap (λ (r : Rules). r.bounds.before) s.here_is) ∙ heard_before rules.limits handed s.events s.now e));
            heard = tells_one s.events e s.heard tells;
            episodes = s.episodes;
            agree = s.agree;
            missing_are = s.missing_are;
          };
          asks = w.asking.asks;
        };
        not_yet = w.not_yet;
      }

-- An instruction from a request takes the item that is there, and neither sends nor uses an answer of the allocator.
took_silent : (limits : Limits) (items : List Item) (plan : List Override) (now to : Path) → AsksFor limits plan now now.state.machine.taken → now.state.machine.taken < length items → Served limits items plan now to → to.steps ≡ now.steps + 1 → IsSilent now to
took_silent limits items plan now to asks there on one =
    let none : Item = record { conn = 0; kind = 0; bytes = [] } in
    let t = (takes_write limits items plan 0 now [] (get_or items now.state.machine.taken none) asks (slice_get-get_or items now.state.machine.taken none there)).took in
    let same : t.now ≡ to = same_steps limits items plan t.now to (goes_to limits items plan now t.now to t.served on (let steps = t.steps in omega (arith, steps, one))) (let steps = t.steps in omega (arith, steps, one)) in
    subst (λ (p : Path). IsSilent now p) same t.silent

module _ {R : Type 0} where
  -- It took the item that it waited for, and is in the environment of the report up to the next one.
  pub took_on : (permits : R → Heap → ℕ → ℕ → Bool) {rules : Rules} {image : Image} {handed : Handed} {told : Told} {seen : Seen} {before noted : Noted} {missing : List ℕ} {old mid new : SessionState R} → rules.bounds.before ≡ nothing_before
      → (w : WaitsOn rules (rules_by permits old) image handed told seen before noted missing old) → rules.bounds.max_items < 4294967295 → old.taken < logs.received old.log
      → ((began : Since) (one : Seen) → IsWaitingFor (rules_by permits old) image began one old → IsGoing (rules_by permits old) image began one mid) → mid.steps ≡ old.steps + 1 → HasSameBase old mid → mid.before ≡ old.before
      → new ≡ record mid { env = new.env; until = new.until; before = new.before } → new.env ≡ env_at mid.options.base (plan_of mid.options.keep handed.episodes) mid.taken → new.until ≡ mid.taken + 1 → new.before ≡ before_took mid.before mid.cpu.slots.live new.env
      → Follows rules (rules_by permits new) image handed told seen before noted missing new
  took_on permits {rules = rules} {image = image} {handed = handed} {seen = seen} {before = before} {noted = noted} {missing = missing} {old = old} {mid = mid} {new = new} alone w few there going steps base came same told_env until before_is =
      let s = w.asking.stands in
      let plan : List Override = plan_of rules.limits.keep handed.episodes in
      let limits : (rules_by permits mid).limits ≡ rules.limits = (λ i. (rules_in (base.options i) mid.before mid.hold (permits (base.rule i))).limits) ∙ ap (λ (r : Rules). r.limits) s.here_is in
      let env : new.env ≡ env_at rules.limits.base plan mid.taken = told_env ∙ ap (λ (l : Limits). env_at l.base (plan_of l.keep handed.episodes) mid.taken) limits in
      let mark = is_marked before noted in
      let here : Rules = rules_following (held_back rules) handed s.events s.now in
      let g : IsGoing here image (marked before noted) (record seen { told = nothing_told }) mid =
      subst (λ (r : Rules). IsGoing r image (marked before noted) (record seen { told = nothing_told }) mid) s.here_is (going (marked before noted) (record seen { told = nothing_told }) (waits_on seen w.asking few)) in
      let to : Path = g.story.survivor.now in
      let under : List Override = g.story.survivor.plan in
      let items : List Item = items_in here.bounds [] in
      let stood : StandsThere here image (marked before noted) seen.phases g.story.survivor [] mid = going_there g mark in
      let way : Served rules.limits items under s.now to = subst (λ (p : Path). Served rules.limits items under p to) stood.begun stood.way in
      let one : to.steps ≡ s.now.steps + 1 = omega (arith, g.answers.steps, steps, s.follows.stands.answers.steps) in
      let asks = asks_under_all rules.limits (plan_up_to rules.limits.base plan s.now.state.machine.taken) under s.now s.now.state.machine.taken w.asking.asks in
      let took = took_one rules.limits items under s.now to asks way one in
      let silent = took_silent rules.limits items under s.now to asks (omega (arith, there, received_is s.follows.stands.goes.items, s.follows.stands.answers.taken)) way one in
      let number : mid.taken ≡ old.taken + 1 = omega (arith, g.answers.taken, took.taken, s.follows.stands.answers.taken) in
      let after : new ≡ record mid { env = env_at rules.limits.base plan (old.taken + 1); until = old.taken + 2; before = new.before; hold = mid.hold } =
      same ∙ (λ i. record mid { env = (env ∙ ap (env_at rules.limits.base plan) number) i; until = (until ∙ two mid.taken old.taken number) i; before = new.before }) in
      let env_is : new.env ≡ env_at rules.limits.base plan to.state.machine.taken = env ∙ ap (env_at rules.limits.base plan) g.answers.taken in
      record {
        alone = alone;
        hold_is = s.hold_is ∙ sym (ap (λ (t : SessionState R). t.options.hold) same ∙ ap (λ (o : Options). o.hold) base.options);
        events = s.events;
        now = to;
        follows =
            subst (λ (t : SessionState R). IsFollowing (held_back rules) image handed s.events to (marked before noted) seen.phases t) (sym after)
            (past_following new.before mid.hold (took_following alone s.follows w.not_yet w.asking.asks g mark steps));
        here_is =
            here_then permits (held_back rules) handed s.events s.events s.now to {old = old} {new = new}
            (record { options = ap (λ (t : SessionState R). t.options) same ∙ base.options; rule = ap (λ (t : SessionState R). t.cpu.rule) same ∙ base.rule; hold = ap (λ (t : SessionState R). t.hold) same ∙ base.hold }) s.here_is
            (before_is ∙ (ap (λ (b : Before). before_took b mid.cpu.slots.live new.env) (came ∙ ap (λ (r : Rules). r.bounds.before) s.here_is) ∙ took_before rules.limits handed s.events s.now to mid.cpu.slots.live g.goes.guest new.env silent.sends silent.choices took.taken env_is));
        heard = s.heard;
        episodes = s.episodes;
        agree = subst (λ (all : List Choice). Agree handed.choices all) (sym silent.choices) s.agree;
        missing_are = subst (λ (all : List Send). IsMissing handed.counts all missing) (sym silent.sends) s.missing_are;
      }
    where
      two : (m n : ℕ) → m ≡ n + 1 → m + 1 ≡ n + 2
      two m n is = omega (arith, is)

module _ {R : Type 0} where
  -- what is asked for before the link is heard
  pub may_hear : (permits : R → Heap → ℕ → ℕ → Bool) {rules : Rules} {image : Image} {handed : Handed} {told : Told} {seen : Seen} {before noted : Noted} {missing : List ℕ} {old inside : SessionState R} → (w : WaitsOn rules (rules_by permits old) image handed told seen before noted missing old) → inside ≡ old → seen.takes ≡ true
      → MayHear inside.log inside.replies seen inside.events inside.options.max_events
  may_hear permits {rules = rules} {handed = handed} w same takes =
      let s = w.asking.stands in
      let f = s.follows in
      let bounds : Bounds = (rules_following (held_back rules) handed s.events s.now).bounds in
      record {
        bounds = bounds;
        entries = [];
        sends = s.now.state.sends;
        limit = ap (λ (t : SessionState R). t.options.max_events) same ∙ ap (λ (r : Rules). r.bounds.max_events) s.here_is;
        counted = ap (λ (t : SessionState R). t.events) same ∙ f.stands.goes.events;
        items = subst (λ (t : SessionState R). KeepsItems bounds [] t.log) (sym same) f.stands.goes.items;
        replies = subst (λ (t : SessionState R). KeepsReplies bounds [] None s.now.state.sends t.replies) (sym same) f.stands.replies;
        is_at = f.stands.goes.phases_are;
        takes = takes;
      }

  -- what was heard then, of log, ledger and count of events
  abbrev pub HeardOf : {rules here : Rules} {image : Image} {handed : Handed} {told : Told} {was : Seen} {before noted : Noted} {missing : List ℕ} {old : SessionState R} → WaitsOn rules here image handed told was before noted missing old → Log → Ledger → ℕ → Seen → LinkEvent → Result heard_type.Heard HearFault → Type 0
  HeardOf {rules = rules} {handed = handed} {was = was} w log ledger count seen e result =
      HearsEvent (rules_following (held_back rules) handed w.asking.stands.events w.asking.stands.now).bounds [] w.asking.stands.now.state.sends log ledger count was seen e result

  pub heard_of : (permits : R → Heap → ℕ → ℕ → Bool) {rules : Rules} {image : Image} {handed : Handed} {told : Told} {was : Seen} {before noted : Noted} {missing : List ℕ} {old inside : SessionState R} (seen : Seen) (log : Log) (ledger : Ledger) (count : ℕ) (e : LinkEvent) (result : Result heard_type.Heard HearFault)
      → (w : WaitsOn rules (rules_by permits old) image handed told was before noted missing old) → inside ≡ old
      → ((bounds : Bounds) (entries : List Entry) (sends : List Send) → bounds.max_events ≡ inside.options.max_events → inside.events ≡ length (events_of bounds entries) → KeepsItems bounds entries inside.log → KeepsReplies bounds entries None sends inside.replies → KeepsPhases bounds entries was.phases
      → HearsEvent bounds entries sends log ledger count was seen e result) → HeardOf w log ledger count seen e result
  heard_of permits {rules = rules} {handed = handed} seen log ledger count e result w same hears =
      let s = w.asking.stands in
      let f = s.follows in
      let bounds : Bounds = (rules_following (held_back rules) handed s.events s.now).bounds in
      hears bounds [] s.now.state.sends (sym (ap (λ (t : SessionState R). t.options.max_events) same ∙ ap (λ (r : Rules). r.bounds.max_events) s.here_is)) (ap (λ (t : SessionState R). t.events) same ∙ f.stands.goes.events)
      (subst (λ (t : SessionState R). KeepsItems bounds [] t.log) (sym same) f.stands.goes.items) (subst (λ (t : SessionState R). KeepsReplies bounds [] None s.now.state.sends t.replies) (sym same) f.stands.replies) f.stands.goes.phases_are

  -- An event that closes nothing was heard.
  pub quiet_on : (permits : R → Heap → ℕ → ℕ → Bool) {rules : Rules} {image : Image} {handed : Handed} {told : Told} {was seen : Seen} {before noted : Noted} {missing : List ℕ} {old new : SessionState R} (log : Log) (ledger : Ledger) (count : ℕ) (e : LinkEvent) {shown : heard_type.Heard}
      → (w : WaitsOn rules (rules_by permits old) image handed told was before noted missing old) → logs.received old.log ≤ old.taken → HeardOf w log ledger count seen e (Ok shown) → (shown ≡ heard.Items) ⊎ (shown ≡ heard.Settles) → log.first ≡ old.log.first → ledger.first ≡ old.replies.first → ledger.trial ≡ old.replies.trial
      → new ≡ record (with_heard old log ledger count) { before = before_heard old.before e } → WaitsOn rules (rules_by permits new) image handed told seen before noted missing new
  quiet_on permits {was = was} {seen = seen} {old = old} {new = new} log ledger count e w none_left h shows kept first trial same =
      let s = w.asking.stands in
      let quiet : closing_of e ≡ None = elim shows [
        | inl items ↦ quiet_items e (subst (λ (shown : heard_type.Heard). IsShown e shown) items h.0)
        | inr settles ↦ quiet_settles e (subst (λ (shown : heard_type.Heard). IsShown e shown) settles h.0)
      ] in
      heard_on permits {seen = seen} {old = old} {new = new} {log = log} {ledger = ledger} {count = count} e s.alone w none_left
      (event_following {was = was} {seen = seen} {old = old} {log = log} {ledger = ledger} {count = count} e s.alone s.follows w.not_yet w.asking.asks none_left quiet (record { tells = h.1; heard = h.2; phases = h.3; counted = h.4 }) kept first (trial ∙ s.follows.stands.no_trial)) h.1 same

  -- A close was heard, and is marked.
  pub close_on : (permits : R → Heap → ℕ → ℕ → Bool) {rules : Rules} {image : Image} {handed : Handed} {told : Told} {was seen : Seen} {before noted : Noted} {missing : List ℕ} {old new : SessionState R} (log : Log) (ledger : Ledger) (count : ℕ) (e : LinkEvent) (conn : ℕ) {shown : heard_type.Heard}
      → (w : WaitsOn rules (rules_by permits old) image handed told was before noted missing old) → logs.received old.log ≤ old.taken → HeardOf w log ledger count seen e (Ok shown) → shown ≡ heard.Closes conn → log.first ≡ old.log.first → ledger.first ≡ old.replies.first → ledger.trial ≡ old.replies.trial
      → new ≡ record (with_heard old log (with_change ledger conn closed_connection) count) { before = before_heard old.before e } → WaitsOn rules (rules_by permits new) image handed told seen before noted missing new
  close_on permits {rules = rules} {image = image} {handed = handed} {told = told} {was = was} {seen = seen} {before = before} {noted = noted} {missing = missing} {old = old} {new = new} log ledger count e conn w none_left h shows kept first trial same =
      let s = w.asking.stands in
      let is : e ≡ event.Closes conn = is_close e (subst (λ (shown : heard_type.Heard). IsShown e shown) shows h.0) in
      let one : HeardEvent (rules_following (held_back rules) handed s.events s.now).bounds [] s.now.state.sends was seen log ledger count (event.Closes conn) =
      subst (HeardEvent (rules_following (held_back rules) handed s.events s.now).bounds [] s.now.state.sends was seen log ledger count) is (record { tells = h.1; heard = h.2; phases = h.3; counted = h.4 }) in
      let follows = close_following {was = was} {seen = seen} {old = old} {log = log} {ledger = ledger} {count = count} conn s.alone s.follows w.not_yet w.asking.asks none_left one kept first (trial ∙ s.follows.stands.no_trial) in
      heard_on permits {seen = seen} {old = old} {new = new} {log = log} {ledger = with_change ledger conn closed_connection} {count = count} e s.alone w none_left
      (subst (λ (one : LinkEvent). IsFollowing (held_back rules) image handed (s.events ++ one ∷ []) s.now (marked before noted) seen.phases (with_heard old log (with_change ledger conn closed_connection) count)) (sym is) follows) h.1 same

  -- The link has ended.
  pub end_on : {rules here : Rules} {image : Image} {handed : Handed} {told : Told} {was seen : Seen} {before noted : Noted} {missing : List ℕ} {old new : SessionState R} (log : Log) (ledger : Ledger) (count : ℕ) (e : LinkEvent) {shown : heard_type.Heard}
      → (w : WaitsOn rules here image handed told was before noted missing old) → logs.received old.log ≤ old.taken → HeardOf w log ledger count seen e (Ok shown) → shown ≡ heard.Ends → ComesLast seen.coming (Ok heard.Ends) → AnswersSame old new → EndedOn rules image handed told seen before noted missing new
  end_on {here = here} {told = told} {was = was} {seen = seen} {old = old} log ledger count e w none_left h shows last same =
      let s = w.asking.stands in
      let is : e ≡ event.Ends = is_end e (subst (λ (shown : heard_type.Heard). IsShown e shown) shows h.0) in
      record {
        waited = record { here = here; seen = was; was = old; waits = w; same = same };
        none_left = none_left;
        ended = record { ended = refl; asked = asks_more s.alone w none_left; comes = last };
        heard = subst (λ (one : LinkEvent). Tells told seen.told (heard_alone (s.events ++ one ∷ []))) is (tells_one s.events e s.heard h.1);
      }
