-- A session that follows, where its guest fails or has ended itself: it is judged there by its counts, and is released, or isn't.
use Rattle.std.proofs.Common.{Bool, true}
use Rattle.guest_cpu.specs.declared.event.Event.TheVariants as step
use Rattle.session_following.specs.declared.judging.StandKind.TheVariants as kind
use Rattle.session_following.specs.declared.unfollowed.Unfollowed.TheVariants as unfollowed
use Rattle.session_following.proofs.PlanLemmas.{up_to_same}
use Rattle.rx_engine.proofs.Terms.{List, None, [], ap, append-nil, arith, inl, length, refl, subst, sym, ℕ, ◌+◌, ◌∙◌, ◌≡◌, ◌≤◌, IsSome, LinkEvent, Tells, Told, Seen, Heap, Env, Image, Fails, FailsBy, Limits, Path, guest_of, serves, Standing, items_in, Rules, Noted, heard_alone, AtExit, AtFailure, Handed, HasReached, AreWellPlaced, plan_of, IsCounted, rules_by, SessionState, Unfollowed, exit_on, exit_stands, judged_exit, unfollowed_exit, ends_at_exit, ends_at_failure, judged_at, short_there, unlike_there, IsMovedFrom, unfollowed_of, IsInPlace, IsShort, IsUnlike, IsJudgedAt, before_moved, before_released, IsUnfollowed, IsUnfollowedBy, FailsOn, HasReachedOn, HasRunOn, IsReleasedAtExit}

-- at its failure
module _ {R : Type 0} {rules here : Rules} {image : Image} {handed : Handed} {told : Told} {seen : Seen} {before noted : Noted} {missing : List ℕ} {session : SessionState R} (w : FailsOn rules here image handed told seen before noted missing session) where
  -- it fails so under the whole plan of the report
  pub fails_whole : FailsBy rules.limits (plan_of rules.limits.keep handed.episodes) w.stands.now w.cause
  fails_whole = record {
    lives = w.fails.lives;
    fails = subst (λ (e : Env). serves rules.limits e None (guest_of w.stands.now) ≡ Fails w.cause) (up_to_same rules.limits.base (plan_of rules.limits.keep handed.episodes) w.stands.now.state.machine.taken w.stands.now.state.machine.taken (omega arith)) w.fails.fails;
  }

  -- where it is judged by the counts of the session
  pub judged_failure : IsJudgedAt rules.limits (items_in rules.bounds (heard_alone w.stands.events)) handed w.stands.now (AtFailure w.cause fails_whole) missing kind.Failure session.taken session.steps (session.recorded + length session.choices) true
  judged_failure = judged_at (items_in rules.bounds (heard_alone w.stands.events)) w.stands (AtFailure w.cause fails_whole) refl (λ any. tt) (λ any. refl)

  -- where it has reached what was handed over
  pub reached_failure : HasReached rules.limits handed w.stands.now (AtFailure w.cause fails_whole) → HasReachedOn rules here image handed told seen before noted missing session
  reached_failure reached = record { stands = w.stands; stand = AtFailure w.cause fails_whole; lives = λ (e : kind.Failure ≡ kind.Exit). absurd (cc e); reached = reached }

  -- it has taken no more items than may be
  pub few_taken : session.taken ≤ rules.bounds.max_items
  few_taken = let few = w.stands.follows.stands.goes.few in let taken = w.stands.follows.stands.answers.taken in omega (arith, few, taken)

  -- it isn't released there
  unfollowed_failure : (why : Unfollowed) → IsUnfollowedBy rules image handed seen.coming w.stands.events [] w.stands.now why → IsUnfollowed rules image handed told seen before noted session.cpu.slots.live.steps session why
  unfollowed_failure why cause =
      unfollowed_of [] why w.stands refl w.stands.episodes refl refl refl refl (subst (λ (all : List LinkEvent). Tells told seen.told (heard_alone all)) (sym (append-nil w.stands.events)) w.stands.heard) cause
      (λ any. ap (λ (s : Standing). s.steps) w.stands.follows.stands.goes.guest)

  pub unlike_failure : {step : ℕ} → AreWellPlaced handed.episodes → session.steps ≡ step → IsUnlike rules.limits (items_in rules.bounds (heard_alone w.stands.events)) handed w.stands.now
      → IsUnfollowed rules image handed told seen before noted session.cpu.slots.live.steps session (unfollowed.Mismatch step)
  unlike_failure {step = step} placed steps unlike =
      unfollowed_failure (unfollowed.Mismatch step)
      (unlike_there rules image handed seen.coming w.stands.events [] w.stands.now placed refl w.stands.agree (inl refl) (ends_at_failure rules image handed seen.coming w.stands.events [] w.stands.now w.cause fails_whole refl)
      (sym w.stands.follows.stands.answers.steps ∙ steps) unlike)

  pub short_failure : {conn : ℕ} → IsShort rules.limits (items_in rules.bounds (heard_alone w.stands.events)) handed w.stands.now conn × IsInPlace handed w.stands.now → IsUnfollowed rules image handed told seen before noted session.cpu.slots.live.steps session (unfollowed.Short conn)
  short_failure {conn = conn} short =
      unfollowed_failure (unfollowed.Short conn)
      (short_there rules image handed seen.coming w.stands.events [] w.stands.now (inl refl) (ends_at_failure rules image handed seen.coming w.stands.events [] w.stands.now w.cause fails_whole refl) short)

-- however it is known that it has ended, it has reached the same there
reached_ended : {limits : Limits} {handed : Handed} {path : Path} (one other : IsSome path.state.ended) → HasReached limits handed path (AtExit one) → HasReached limits handed path (AtExit other)
reached_ended one other reached = record { past = reached.past; chose = reached.chose; finished = reached.finished; covers = reached.covers }

-- at its exit, where its counts are those of its guest
module _ {R : Type 0} (permits : R → Heap → ℕ → ℕ → Bool) {rules : Rules} {image : Image} {handed : Handed} {told : Told} {seen : Seen} {before noted : Noted} {missing : List ℕ} {code : ℕ} {old session : SessionState R}
    (h : HasRunOn rules (rules_by permits old) image handed told seen before noted missing (step.Exits code) old) (is : session ≡ record old { taken = old.cpu.slots.live.guest.machine.taken; steps = old.cpu.slots.live.steps }) where
  moved_exit : IsMovedFrom old session
  moved_exit = λ i. record (is i) { replies = session.replies; choices = session.choices; taken = session.taken; steps = session.steps; before = session.before; hold = session.hold }

  counted_exit : IsCounted session
  counted_exit = record {
    taken = ap (λ (s : SessionState R). s.taken) is ∙ sym (ap (λ (s : SessionState R). s.cpu.slots.live.guest.machine.taken) is);
    steps = ap (λ (s : SessionState R). s.steps) is ∙ sym (ap (λ (s : SessionState R). s.cpu.slots.live.steps) is);
  }

  replies_exit : session.replies ≡ old.replies
  replies_exit = ap (λ (s : SessionState R). s.replies) is

  choices_exit : session.choices ≡ old.choices
  choices_exit = ap (λ (s : SessionState R). s.choices) is

  pub ended_exit : IsSome h.runs.ran.now.state.ended
  ended_exit = exit_stands permits h moved_exit replies_exit choices_exit counted_exit

  -- it is judged by them
  pub judged_ended : IsJudgedAt rules.limits (items_in rules.bounds (heard_alone h.stood.events)) handed h.runs.ran.now (AtExit ended_exit) missing kind.Exit session.taken session.steps (session.recorded + length session.choices) true
  unfolding ended_exit
  judged_ended = judged_exit permits h moved_exit replies_exit choices_exit counted_exit

  -- It is released there.
  pub released_exit : {new : SessionState R} → new ≡ record session { before = new.before; hold = new.hold } → new.hold ≡ session.options.hold → new.before ≡ before_released (before_moved session.before session.cpu.slots.live []) (plan_of session.options.keep handed.episodes)
      → HasReached rules.limits handed h.runs.ran.now (AtExit ended_exit) → IsReleasedAtExit rules (rules_by permits new) image handed told seen before noted code new
  released_exit {new = new} same hold came reached =
      let replies : new.replies ≡ old.replies = ap (λ (s : SessionState R). s.replies) same ∙ replies_exit in
      let choices : new.choices ≡ old.choices = ap (λ (s : SessionState R). s.choices) same ∙ choices_exit in
      let moved : IsMovedFrom old new =
      (λ i. record (same i) { replies = new.replies; choices = new.choices; taken = new.taken; steps = new.steps; before = new.before; hold = new.hold })
      ∙ (λ i. record (is i) { replies = new.replies; choices = new.choices; taken = new.taken; steps = new.steps; before = new.before; hold = new.hold }) in
      let counted : IsCounted new = record {
        taken = ap (λ (s : SessionState R). s.taken) same ∙ (counted_exit.taken ∙ sym (ap (λ (s : SessionState R). s.cpu.slots.live.guest.machine.taken) same));
        steps = ap (λ (s : SessionState R). s.steps) same ∙ (counted_exit.steps ∙ sym (ap (λ (s : SessionState R). s.cpu.slots.live.steps) same));
      } in
      exit_on permits h moved replies choices counted (hold ∙ (ap (λ (s : SessionState R). s.options.hold) is ∙ (ap (λ (s : SessionState R). s.options.hold) h.same ∙ sym h.stood.hold_is)))
      (came ∙ ap (λ (s : SessionState R). before_released (before_moved s.before s.cpu.slots.live []) (plan_of s.options.keep handed.episodes)) is) (reached_ended ended_exit (exit_stands permits h moved replies choices counted) reached)

  -- It isn't released there.
  pub unlike_exit : {step : ℕ} → AreWellPlaced handed.episodes → session.steps ≡ step → IsUnlike rules.limits (items_in rules.bounds (heard_alone h.stood.events)) handed h.runs.ran.now
      → IsUnfollowed rules image handed told seen before noted session.cpu.slots.live.steps session (unfollowed.Mismatch step)
  unlike_exit {step = step} placed steps unlike =
      unfollowed_exit permits h moved_exit replies_exit choices_exit counted_exit (unfollowed.Mismatch step)
      (unlike_there rules image handed seen.coming h.stood.events [] h.runs.ran.now placed refl judged_ended.agree (inl refl) (ends_at_exit rules image handed seen.coming h.stood.events [] h.runs.ran.now ended_exit refl)
      (judged_ended.steps_are ∙ steps) unlike)

  pub short_exit : {conn : ℕ} → IsShort rules.limits (items_in rules.bounds (heard_alone h.stood.events)) handed h.runs.ran.now conn × IsInPlace handed h.runs.ran.now → IsUnfollowed rules image handed told seen before noted session.cpu.slots.live.steps session (unfollowed.Short conn)
  short_exit {conn = conn} short =
      unfollowed_exit permits h moved_exit replies_exit choices_exit counted_exit (unfollowed.Short conn)
      (short_there rules image handed seen.coming h.stood.events [] h.runs.ran.now (inl refl) (ends_at_exit rules image handed seen.coming h.stood.events [] h.runs.ran.now ended_exit refl) short)
