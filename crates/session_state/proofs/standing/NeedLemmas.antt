-- What the parts of a session ask for, where the session stands.
use Rattle.guest_cpu.specs.declared.event.Event.TheVariants as step
use Rattle.session_state.proofs.Lemmas.{held_of, received_is, run_emits}
use Rattle.session_state.proofs.Terms.{List, None, ap, drop, refl, subst, sym, ℕ, ◌∙◌, ◌≡◌, Seen, Ledger, NotBefore, times_of, with_send, Image, Rules, between_behind, times_low, SessionState, IsGoing, Since, entries, sends, CanPass, HasRun, IsToldBy}

module _ {R : Type 0} where
  -- what a ledger asks before it passes something
  pub going_can : {rules : Rules} {image : Image} {began : Since} {seen : Seen} {session : SessionState R} → IsGoing rules image began seen session → CanPass session
  going_can {rules = rules} g = record {
    bounds = rules.bounds;
    entries = entries g.story;
    closing = None;
    sends = sends g.story;
    replies = g.passed.replies;
    no_trial = g.passed.no_trial;
    ordered = g.told.serving.carries.ordered;
    received_are = received_is g.goes.items;
  }

  pub emits_later : {rules : Rules} {image : Image} {began : Since} {seen : Seen} {conn : ℕ} {bytes : List ℕ} {session : SessionState R} → HasRun rules image began seen (step.Emits conn bytes) session → NotBefore session.taken (times_of session.replies.kept)
  emits_later {session = session} h =
      let g = h.between.going in
      let taken : session.taken ≡ g.story.survivor.now.state.machine.taken = ap (λ (s : SessionState R). s.taken) h.same ∙ g.answers.taken in
      subst (λ n. NotBefore n (times_of session.replies.kept)) (sym taken)
      (subst (λ all. NotBefore g.story.survivor.now.state.machine.taken (times_of all)) (sym (ap (λ (s : SessionState R). s.replies.kept) h.same ∙ g.passed.replies.shows.kept))
      (times_low 0 g.story.survivor.now.state.machine.taken (drop h.before.replies.first (sends g.story)) (between_behind h.before.replies.first 0 g.story.survivor.now.state.machine.taken (sends g.story) g.told.serving.carries.timed)))

  -- a send was noted, and the counts are those of the guest
  pub sent_going : {rules : Rules} {image : Image} {began : Since} {seen : Seen} {conn : ℕ} {bytes : List ℕ} {old inside after : SessionState R} {ledger : Ledger} → HasRun rules image began seen (step.Emits conn bytes) old → inside ≡ old
      → ledger ≡ with_send inside.replies (record { conn = conn; bytes = bytes; taken = inside.taken })
      → after ≡ record inside { replies = ledger; taken = inside.cpu.slots.live.guest.machine.taken; steps = inside.cpu.slots.live.steps } → IsGoing rules image began seen after
  sent_going {rules = rules} {image = image} {began = began} {seen = seen} {conn = conn} {bytes = bytes} {inside = inside} {ledger = ledger} h same noted is =
      subst (λ (s : SessionState R). IsGoing rules image began seen s) (sym is)
      (run_emits h
      (ap (λ (s : SessionState R). record s { replies = ledger; choices = inside.choices; taken = inside.cpu.slots.live.guest.machine.taken; steps = inside.cpu.slots.live.steps }) same) (noted ∙ ap (λ (s : SessionState R). with_send s.replies (record { conn = conn; bytes = bytes; taken = s.taken })) same)
      (ap (λ (s : SessionState R). s.choices) same) (record { taken = refl; steps = refl }))

  -- what a session that goes on is told by
  pub going_told : {rules : Rules} {image : Image} {began : Since} {seen : Seen} {session : SessionState R} (g : IsGoing rules image began seen session) → IsToldBy rules image began seen g.story session
  going_told g = record { told = g.told; answers = g.answers; holds = held_of g.saved; received_are = received_is g.goes.items }
