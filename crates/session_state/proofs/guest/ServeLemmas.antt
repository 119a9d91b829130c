-- Where the guest of a session has run to an event.
use Rattle.session_history.specs.declared.ends.SessionBreak.TheVariants as session_break
use Rattle.session_history.specs.declared.ends.SessionEnd.TheVariants as session_end
use Rattle.guest_cpu.specs.declared.event.Event.TheVariants as step
use Rattle.session_state.proofs.Terms.{Bool, List, Ok, [], ap, arith, subst, sym, ℕ, ◌++◌, ◌+◌, ◌∙◌, ◌∷◌, ◌≡◌, Item, Seen, Choice, Ledger, with_send, Image, Cause, Limits, Override, Path, Event, CpuState, live_of, with_live, Live, Standing, RunsWriting, Rules, keeping_by, SessionState, keeping_of, IsBetween, IsBrokenOff, IsEnding, IsFailing, IsGoing, IsWaitingFor, Since, entries, HasRun, IsCounted}
use Rattle.session_state.proofs.standing.HeldLemmas.{held_by, held_of}
use Rattle.session_state.proofs.standing.CheckpointLemmas.{HasSameSide}
use Rattle.session_state.proofs.guest.GuestLemmas.{HasSameParts, answers_as, broken_running, chooses_between, asks_waits, exits_ending, fails_failing}
use Rattle.session_state.proofs.guest.SendLemmas.{emits_going}

-- a run by where its guest stands
runs_at : {limits : Limits} {items : List Item} {plan : List Override} {base : ℕ} {first : Path} {before : List Bool} {happened : Event} {one other : Live} → other ≡ one → RunsWriting limits items plan base first before (Ok happened) one
    → RunsWriting limits items plan base first before (Ok happened) other
runs_at {limits = limits} {items = items} {plan = plan} {base = base} {first = first} {before = before} {happened = happened} same runs = subst (RunsWriting limits items plan base first before (Ok happened)) (sym same) runs

module _ {R : Type 0} where
  -- a run leaves how a session keeps its checkpoints
  run_kept : {rules : Rules} {image : Image} {began : Since} {seen : Seen} {happened : Event} {session : SessionState R} (h : HasRun rules image began seen happened session) → keeping_of session ≡ keeping_of h.before
  run_kept h = λ i. keeping_by (h.same i).options.every (h.cpu i).slots

  -- and its checkpoints
  run_saved : {rules : Rules} {image : Image} {began : Since} {seen : Seen} {happened : Event} {session : SessionState R} (h : HasRun rules image began seen happened session) → session.cpu.slots.saved ≡ h.before.cpu.slots.saved
  run_saved h = ap (λ (cpu : CpuState R). cpu.slots.saved) h.cpu

  -- memory ran out behind the event: the session answers for the run before it
  pub run_breaks : {rules : Rules} {image : Image} {began : Since} {seen : Seen} {happened : Event} {session after : SessionState R} {lost : ℕ} → HasRun rules image began seen happened session → keeping_of after ≡ keeping_of session → after.cpu.slots.saved ≡ session.cpu.slots.saved
      → after.recorded ≡ session.recorded → after.choices ≡ session.choices → after.taken ≡ session.taken → after.steps ≡ session.steps → lost + after.steps ≡ began.lost + session.cpu.slots.live.steps
      → IsBrokenOff rules image (record began { lost = lost }) seen after session_break.Memory
  run_breaks {rules = rules} {image = image} {session = session} {after = after} h kept saved recorded choices taken steps counts =
      let going = h.between.going in
      let runs = h.runs.ran in
      let answers : session.steps ≡ going.story.survivor.now.steps = ap (λ (s : SessionState R). s.steps) h.same ∙ going.answers.steps in
      let there : runs.now.steps ≡ session.cpu.slots.live.steps = ap (λ (s : Standing). s.steps) runs.stands in
      broken_running runs.now going.told
      (answers_as (recorded ∙ ap (λ (s : SessionState R). s.recorded) h.same) (choices ∙ ap (λ (s : SessionState R). s.choices) h.same) (taken ∙ ap (λ (s : SessionState R). s.taken) h.same)
      (steps ∙ ap (λ (s : SessionState R). s.steps) h.same) going.answers) (held_by rules image going.story.earlier (entries going.story) going.story.recoveries going.story.survivor h.before after (saved ∙ run_saved h) (kept ∙ run_kept h) (held_of going.saved)) runs.goes.served runs.goes.later (omega (arith, counts, steps, answers, there))

  -- all but the replies, the answers of the allocator and the counts is the same
  abbrev pub IsSameBut : SessionState R → SessionState R → Type 0
  IsSameBut session after = after ≡ record session { replies = after.replies; choices = after.choices; taken = after.taken; steps = after.steps }

  -- its parts but the guest are those from before
  run_side : {rules : Rules} {image : Image} {began : Since} {seen : Seen} {happened : Event} {session after : SessionState R} (h : HasRun rules image began seen happened session) → IsSameBut session after → HasSameSide h.before after
  run_side {session = session} {after = after} h same =
      let is : after.cpu ≡ session.cpu = ap (λ (s : SessionState R). s.cpu) same in
      record {
        recorded = ap (λ (s : SessionState R). s.recorded) same ∙ ap (λ (s : SessionState R). s.recorded) h.same;
        log = ap (λ (s : SessionState R). s.log) same ∙ ap (λ (s : SessionState R). s.log) h.same;
        events = ap (λ (s : SessionState R). s.events) same ∙ ap (λ (s : SessionState R). s.events) h.same;
        cpu = is ∙ (h.cpu ∙ ap (λ (cpu : CpuState R). with_live (live_of cpu) h.before.cpu) (sym is));
        env = ap (λ (s : SessionState R). s.env) same ∙ ap (λ (s : SessionState R). s.env) h.same;
        until = ap (λ (s : SessionState R). s.until) same ∙ ap (λ (s : SessionState R). s.until) h.same;
        options = ap (λ (s : SessionState R). s.options) same ∙ ap (λ (s : SessionState R). s.options) h.same;
      }

  run_parts : {rules : Rules} {image : Image} {began : Since} {seen : Seen} {happened : Event} {session after : SessionState R} (h : HasRun rules image began seen happened session) → IsSameBut session after → after.replies ≡ session.replies
      → HasSameParts h.before after
  run_parts h same replies = record { side = run_side h same; replies = replies ∙ ap (λ (s : SessionState R). s.replies) h.same }

  -- an ask was answered, and noted
  pub run_chooses : {rules : Rules} {image : Image} {began : Since} {seen : Seen} {choice : Choice} {session after : SessionState R} (h : HasRun rules image began seen (step.Chooses choice) session)
      → IsSameBut session after → after.replies ≡ session.replies → after.choices ≡ session.choices ++ choice ∷ [] → IsCounted after → IsBetween rules image began seen after
  run_chooses {choice = choice} h same replies choices counted =
      chooses_between h.between (run_parts h same replies)
      (choices ∙ ap (λ (s : SessionState R). s.choices ++ choice ∷ []) h.same) counted (runs_at (ap (λ (s : SessionState R). live_of s.cpu) same) h.runs)

  -- it asks for an item
  pub run_asks : {rules : Rules} {image : Image} {began : Since} {seen : Seen} {session after : SessionState R} (h : HasRun rules image began seen step.Asks session)
      → IsSameBut session after → after.replies ≡ session.replies → after.choices ≡ session.choices → IsCounted after → IsWaitingFor rules image began seen after
  run_asks h same replies choices counted =
      asks_waits h.between (run_parts h same replies) (choices ∙ ap (λ (s : SessionState R). s.choices) h.same) counted
      (runs_at (ap (λ (s : SessionState R). live_of s.cpu) same) h.runs)

  -- it ended itself
  pub run_exits : {rules : Rules} {image : Image} {began : Since} {seen : Seen} {code : ℕ} {session after : SessionState R} (h : HasRun rules image began seen (step.Exits code) session)
      → IsSameBut session after → after.replies ≡ session.replies → after.choices ≡ session.choices → IsCounted after → IsEnding rules image began seen after (session_end.Exited code)
  run_exits h same replies choices counted =
      exits_ending h.between (run_parts h same replies) (choices ∙ ap (λ (s : SessionState R). s.choices) h.same)
      counted (runs_at (ap (λ (s : SessionState R). live_of s.cpu) same) h.runs)

  -- it fails
  pub run_fails : {rules : Rules} {image : Image} {began : Since} {seen : Seen} {cause : Cause} {session after : SessionState R} (h : HasRun rules image began seen (step.Failed cause) session)
      → IsSameBut session after → after.replies ≡ session.replies → after.choices ≡ session.choices → IsCounted after → IsFailing rules image began seen cause after
  run_fails h same replies choices counted =
      fails_failing h.between (run_parts h same replies) (choices ∙ ap (λ (s : SessionState R). s.choices) h.same)
      counted (runs_at (ap (λ (s : SessionState R). live_of s.cpu) same) h.runs)

  -- it sent
  pub run_emits : {rules : Rules} {image : Image} {began : Since} {seen : Seen} {conn : ℕ} {bytes : List ℕ} {session after : SessionState R} (h : HasRun rules image began seen (step.Emits conn bytes) session)
      → IsSameBut session after → after.replies ≡ with_send session.replies (record { conn = conn; bytes = bytes; taken = session.taken }) → after.choices ≡ session.choices → IsCounted after
      → IsGoing rules image began seen after
  run_emits {conn = conn} {bytes = bytes} {session = session} h same replies choices counted =
      let taken : session.taken ≡ h.between.going.story.survivor.now.state.machine.taken = ap (λ (s : SessionState R). s.taken) h.same ∙ h.between.going.answers.taken in
      emits_going h.between (run_side h same)
      (choices ∙ ap (λ (s : SessionState R). s.choices) h.same) counted
      (replies ∙ (ap (λ (ledger : Ledger). with_send ledger (record { conn = conn; bytes = bytes; taken = session.taken })) (ap (λ (s : SessionState R). s.replies) h.same)
      ∙ ap (λ n. with_send h.before.replies (record { conn = conn; bytes = bytes; taken = n })) taken)) (runs_at (ap (λ (s : SessionState R). live_of s.cpu) same) h.runs)
