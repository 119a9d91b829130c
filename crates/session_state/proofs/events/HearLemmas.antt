-- What a session makes of an event that it heard.
use Rattle.links.specs.declared.journal.Entry.TheVariants as entry
use Rattle.session_state.proofs.Terms.{List, [], ap, append_assoc, arith, length, subst, sym, true, ℕ, ◌++◌, ◌+◌, ◌<◌, ◌∙◌, ◌∷◌, ◌≡◌, ◌≤◌, ◌⊎◌, Item, Entry, LinkEvent, Phases, Tells, events_in, Seen, Image, AsksFor, Path, CpuState, events_of-append, IsHeard, Bounds, events_of, heeded, items_in, received, KeepsItems, KeepsPhases, Rules, entries_of, opens, ring_more, keeping_by, AreBehind, Brings, KeepsRing, SessionState, HandlesRequests, keeping_of, AnswersFor, EndsWithin, GoesWith, IsTold, IsWaitingFor, KeepsCheckpoints, Since, Story, entries, sends, then_story}
use Rattle.session_state.proofs.standing.HeldLemmas.{requests_more, stands_by}
use Rattle.session_state.proofs.standing.CheckpointLemmas.{in_force_by}
use Rattle.session_state.proofs.guest.GuestLemmas.{answers_as}
use Rattle.session_state.proofs.standing.StoryLemmas.{owes_nothing}
use Rattle.session_state.proofs.events.EventLemmas.{told_event, opens_more}

-- the entries of a story with more behind them
pub more_entries : (story : Story) (more : List Entry) → entries story ++ more ≡ entries (then_story story more)
more_entries story more = append_assoc (entries_of story.earlier) story.since more

-- who was open to sends before more entries is so behind them
pub opens_still : (bounds : Bounds) (before : List Entry) {after : List Entry} (more : List Entry) (conn : ℕ) → after ≡ before ++ more → heeded bounds (events_of bounds before) ≡ events_of bounds before → heeded bounds (events_of bounds after) ≡ events_of bounds after
    → opens conn (heeded bounds (events_of bounds before)) ≡ true → opens conn (heeded bounds (events_of bounds after)) ≡ true
opens_still bounds before {after = after} more conn is first second open_before =
    ap (opens conn) (second ∙ (ap (events_of bounds) is ∙ events_of-append bounds before more)) ∙ opens_more conn (events_of bounds before) (events_in more) (ap (opens conn) (sym first) ∙ open_before)

module _ {R : Type 0} where
  -- but for log, replies and the count of events, nothing of a session changed; and the log gave nothing up
  pub record HasSameRun (old new : SessionState R) : Type 0 where
    pub cpu : new.cpu ≡ old.cpu
    pub recorded : new.recorded ≡ old.recorded
    pub choices : new.choices ≡ old.choices
    pub taken : new.taken ≡ old.taken
    pub steps : new.steps ≡ old.steps
    pub first : new.log.first ≡ old.log.first
    pub env : new.env ≡ old.env
    pub until : new.until ≡ old.until
    pub options : new.options ≡ old.options

  answers_then : {began : Since} {story : Story} {session : SessionState R} (more : List Entry) → AnswersFor began story session → AnswersFor began (then_story story more) session
  answers_then more answers = record { low = answers.low; recorded = answers.recorded; choices = answers.choices; unnoted = answers.unnoted; taken = answers.taken; steps = answers.steps }

  pub answers_still : {began : Since} {story : Story} {old new : SessionState R} (more : List Entry) → HasSameRun old new → AnswersFor began story old → AnswersFor began (then_story story more) new
  answers_still more same answers = answers_as same.recorded same.choices same.taken same.steps (answers_then more answers)

  -- the guest, the items and the phases behind more entries
  pub goes_then : {rules : Rules} {story : Story} {old new : SessionState R} {phases later : Phases} (more : List Entry) → HasSameRun old new → GoesWith rules story old phases → KeepsItems rules.bounds (entries (then_story story more)) new.log
      → new.events ≡ length (events_of rules.bounds (entries (then_story story more))) → KeepsPhases rules.bounds (entries (then_story story more)) later → GoesWith rules (then_story story more) new later
  goes_then {rules = rules} {story = story} more same goes items events knows = record {
    lives = goes.lives;
    guest = ap (λ cpu. cpu.slots.live) same.cpu ∙ goes.guest;
    bounded = goes.bounded;
    few = goes.few;
    within = λ conn may. opens_still rules.bounds (entries story) more conn (sym (more_entries story more)) goes.items.all_heeded items.all_heeded (goes.within conn may);
    items = items;
    events = events;
    phases_are = knows;
  }

  pub run_keeping : {old new : SessionState R} → HasSameRun old new → keeping_of new ≡ keeping_of old
  run_keeping same = λ i. keeping_by (same.options i).every (same.cpu i).slots

  -- the checkpoints and the environment behind more entries
  pub saved_then : {rules : Rules} {image : Image} {story : Story} {old new : SessionState R} (more : List Entry) {items : List Item} → HasSameRun old new → new.replies.first ≡ old.replies.first
      → Brings rules (entries story) (entries (then_story story more)) items → KeepsCheckpoints rules image story old → KeepsCheckpoints rules image (then_story story more) new
  saved_then {rules = rules} {image = image} {story = story} {old = old} {new = new} more {items = items} same kept brings k =
      let now : Path = story.survivor.now in
      record {
        paths = k.paths;
        ring =
            subst (λ (cpu : CpuState R). KeepsRing rules image (entries (then_story story more)) story.survivor.plan now k.paths cpu new.log new.replies) (sym same.cpu) (ring_more k.ring brings same.first kept);
        early = subst (λ n. AreBehind n k.paths) (sym same.recorded) k.early;
        requests =
            stands_by (λ k stands. HandlesRequests rules image k story.earlier (entries (then_story story more)) story.recoveries story.survivor stands) old new (ap (λ (cpu : CpuState R). cpu.slots.saved) same.cpu)
            (run_keeping same) (requests_more items brings.items k.requests);
        in_force = in_force_by same.env same.until k.in_force;
      }

  -- what is known behind an event that was heard, but for the replies
  pub record HasHeard (rules : Rules) (image : Image) (began : Since) (seen : Seen) (story : Story) (session : SessionState R) : Type 0 where
    pub told : IsTold rules image began seen.told story
    pub answers : AnswersFor began story session
    pub goes : GoesWith rules story session seen.phases
    pub past : EndsWithin rules.limits session.until story.survivor.now
    pub asks : AsksFor rules.limits story.survivor.plan story.survivor.now story.survivor.now.state.machine.taken

  pub has_heard : {rules : Rules} {image : Image} {began : Since} {before seen : Seen} {event : LinkEvent} {old new : SessionState R} (w : IsWaitingFor rules image began before old)
      → received rules.bounds (entries w.hearing.story) ≤ w.hearing.story.survivor.now.state.machine.taken → HasSameRun old new → Tells before.told seen.told (entry.Took event ∷ [])
      → IsHeard rules.bounds (entries w.hearing.story) (sends w.hearing.story) event new.log new.replies → KeepsPhases rules.bounds (entries w.hearing.story ++ entry.Took event ∷ []) seen.phases
      → new.events ≡ length (events_of rules.bounds (entries w.hearing.story ++ entry.Took event ∷ [])) → HasHeard rules image began seen (then_story w.hearing.story (entry.Took event ∷ [])) new
  has_heard {rules = rules} {seen = seen} {event = event} {new = new} w all same tells heard knows events =
      let story : Story = w.hearing.story in
      let is = more_entries story (entry.Took event ∷ []) in
      let exact : received rules.bounds (entries story) ≡ story.survivor.now.state.machine.taken = let low = w.hearing.told.serving.carries.taken in omega (arith, low, all) in
      let asks = w.hearing.asks in
      record {
        told =
            told_event heard.more w.hearing.told (subst (AsksFor rules.limits story.survivor.plan story.survivor.now) (sym exact) asks) (owes_nothing rules story w.due w.hearing.passed.done) w.hearing.goes.items.all_heeded tells
            heard.brings;
        answers = answers_still (entry.Took event ∷ []) same w.hearing.answers;
        goes =
            goes_then (entry.Took event ∷ []) same w.hearing.goes (subst (λ es. KeepsItems rules.bounds es new.log) is heard.items) (events ∙ ap (λ es. length (events_of rules.bounds es)) is)
            (subst (λ (es : List Entry). KeepsPhases rules.bounds es seen.phases) is knows);
        past = subst (λ n. EndsWithin rules.limits n story.survivor.now) (sym same.until) w.hearing.past;
        asks = asks;
      }

  -- its checkpoints behind the event
  pub saved_heard : {rules : Rules} {image : Image} {began : Since} {before : Seen} {event : LinkEvent} {old new : SessionState R} (w : IsWaitingFor rules image began before old) → HasSameRun old new → new.replies.first ≡ old.replies.first
      → IsHeard rules.bounds (entries w.hearing.story) (sends w.hearing.story) event new.log new.replies → KeepsCheckpoints rules image (then_story w.hearing.story (entry.Took event ∷ [])) new
  saved_heard {rules = rules} {before = before} {event = event} w same kept heard =
      let story : Story = w.hearing.story in
      let is = more_entries story (entry.Took event ∷ []) in
      saved_then (entry.Took event ∷ []) same kept
      (record {
        items = ap (items_in rules.bounds) (sym is) ∙ heard.brings;
        opened = λ conn known.
            opens_still rules.bounds (entries story) (entry.Took event ∷ []) conn (sym is) w.hearing.goes.items.all_heeded
            (subst (λ es. heeded rules.bounds (events_of rules.bounds es) ≡ events_of rules.bounds es) is heard.items.all_heeded) known;
      }) w.hearing.saved
