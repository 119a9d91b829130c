-- Where the guest of a session ran from one of its events on.
use Rattle.rv_exec.specs.Stepping.{limits_of}
use Rattle.session_history.specs.declared.ends.SessionBreak.TheVariants as session_break
use Rattle.session_history.specs.declared.ends.SessionEnd.TheVariants as session_end
use Rattle.guest_cpu.specs.declared.event.Event.TheVariants as step
use Rattle.guest_cpu.specs.Running.{RunsBy}
use Rattle.recovery.proofs.Staying.{turns_by}
use Rattle.session_state.proofs.Lemmas.{held_by, held_of, answers_as, broken_running, run_asks, run_exits, run_fails}
use Rattle.session_state.proofs.Terms.{AllocError, Bool, Err, List, Ok, Option, Result, ap, arith, cond, inl, inr, ltb, refl, subst, sym, ℕ, ◌+◌, ◌<◌, ◌∙◌, ◌≡◌, ◌≤◌, IfOk, Seen, Choice, Heap, Env, Checkpoint, oldest_of, Image, Cause, Path, env_at, Event, runs_serve, runs_write, CpuState, live_of, with_live, Standing, Turn, turn, RunsWriting, Stop, items_in, Rules, keeping_by, SessionState, env_of, KeepsOldest, keeping_of, IsBetween, IsBrokenOff, IsEnding, IsFailing, IsWaitingFor, Since, entries, ComesBetween, GoesFurther, HasRun, HasSameFrame, IsAdoptedLater, rules_by}

module _ {R : Type 0} where
  -- how a guest runs in an environment, by the session that it is of
  abbrev pub Ran : (R → Heap → ℕ → ℕ → Bool) → Env → SessionState R → CpuState R → Result Event AllocError → Type 0
  Ran permits env session cpu result = RunsBy step.Emits (turn (limits_of session.options.budget (permits session.cpu.rule)) env) session.cpu.base (live_of session.cpu) result (live_of cpu)

  -- so it runs under all that its session allows
  pub ran_as : (permits : R → Heap → ℕ → ℕ → Bool) (env : Env) (session : SessionState R) (cpu : CpuState R) (result : Result Event AllocError) → Ran permits env session cpu result
      → RunsBy step.Emits (turn (rules_by permits session).limits env) session.cpu.base (live_of session.cpu) result (live_of cpu)
  ran_as permits env session cpu result ran =
      subst (λ (next : Standing → Option (Turn Event)). RunsBy step.Emits next session.cpu.base (live_of session.cpu) result (live_of cpu)) (turns_by (rules_by permits session).limits env) ran

  -- the environment in force is that of the survivor's plan
  env_is : (permits : R → Heap → ℕ → ℕ → Bool) {env : Env} {image : Image} {began : Since} {seen : Seen} {old : SessionState R} (b : IsBetween (rules_by permits old) image began seen old) → env ≡ env_of old
      → env_at old.options.base b.going.story.survivor.plan b.going.story.survivor.now.state.machine.taken ≡ env
  env_is permits {old = old} b force =
      b.going.saved.in_force.in_force b.going.story.survivor.now.state.machine.taken (omega arith) ∙ (ap (λ n. cond (ltb n old.until) old.env old.options.base) (sym b.going.answers.taken) ∙ sym force)

  -- its run goes on so
  pub ran_on : (permits : R → Heap → ℕ → ℕ → Bool) {env : Env} {image : Image} {began : Since} {seen : Seen} {old inside : SessionState R} (cpu : CpuState R) {happened : Event} → env ≡ env_of old → inside ≡ old
      → (b : IsBetween (rules_by permits old) image began seen old) → Ran permits env inside cpu (Ok happened)
      → RunsWriting (rules_by permits old).limits (items_in (rules_by permits old).bounds (entries b.going.story)) b.going.story.survivor.plan old.cpu.base b.going.story.survivor.now old.cpu.written (Ok happened) (live_of cpu)
  ran_on permits {env = env} {old = old} cpu {happened = happened} force same b ran =
      let first : Path = b.going.story.survivor.now in
      runs_write (rules_by permits old).limits (items_in (rules_by permits old).bounds (entries b.going.story)) b.going.story.survivor.plan env old.cpu.base first (live_of old.cpu) (live_of cpu)
      (Ok happened) b.going.goes.lives (env_is permits b force) b.going.goes.guest (ran_as permits env old cpu (Ok happened) (subst (λ (s : SessionState R). Ran permits env s cpu (Ok happened)) same ran))

  -- it ran to this event
  pub has_run : (permits : R → Heap → ℕ → ℕ → Bool) {env : Env} {image : Image} {began : Since} {seen : Seen} {old inside : SessionState R} {cpu : CpuState R} {found happened : Event} → env ≡ env_of old → inside ≡ old → found ≡ happened
      → cpu ≡ with_live (live_of cpu) inside.cpu → IsBetween (rules_by permits old) image began seen old → Ran permits env inside cpu (Ok found)
      → HasRun (rules_by permits old) image began seen happened (record inside { cpu = cpu })
  has_run permits {env = env} {old = old} {inside = inside} {cpu = cpu} force same is kept b ran = record {
    before = old;
    between = b;
    same = ap (λ (s : SessionState R). record s { cpu = cpu }) same;
    cpu = kept ∙ ap (λ (s : SessionState R). with_live (live_of cpu) s.cpu) same;
    runs = ran_on permits cpu force same b (subst (λ (e : Event). Ran permits env inside cpu (Ok e)) is ran);
  }

  -- its count of instructions didn't fall
  pub ran_later : (permits : R → Heap → ℕ → ℕ → Bool) {env : Env} {image : Image} {began : Since} {seen : Seen} {old inside : SessionState R} (cpu : CpuState R) {happened : Event} → env ≡ env_of old → inside ≡ old
      → IsBetween (rules_by permits old) image began seen old → Ran permits env inside cpu (Ok happened) → old.cpu.slots.live.steps ≤ cpu.slots.live.steps
  ran_later permits {old = old} cpu force same b ran =
      let runs = (ran_on permits cpu force same b ran).ran in
      let from : old.cpu.slots.live.steps ≡ b.going.story.survivor.now.steps = ap (λ (s : Standing). s.steps) b.going.goes.guest in
      omega (arith, from, ap (λ (s : Standing). s.steps) runs.stands, runs.goes.later)

  -- and the session answers for no more of them
  pub ran_low : (permits : R → Heap → ℕ → ℕ → Bool) {env : Env} {image : Image} {began : Since} {seen : Seen} {old inside : SessionState R} (cpu : CpuState R) (result : Result Event AllocError) → env ≡ env_of old → inside ≡ old
      → IsBetween (rules_by permits old) image began seen old → Ran permits env inside cpu result → inside.steps ≤ cpu.slots.live.steps
  ran_low permits {env = env} {old = old} {inside = inside} cpu result force same b ran =
      let first : Path = b.going.story.survivor.now in
      let runs = runs_serve (rules_by permits old).limits (items_in (rules_by permits old).bounds (entries b.going.story)) b.going.story.survivor.plan env old.cpu.base first (live_of old.cpu) (live_of cpu)
      result b.going.goes.lives (env_is permits b force) b.going.goes.guest (ran_as permits env old cpu result (subst (λ (s : SessionState R). Ran permits env s cpu result) same ran)) in
      let answers : inside.steps ≡ first.steps = ap (λ (s : SessionState R). s.steps) same ∙ b.going.answers.steps in
      omega (arith, answers, ap (λ (s : Standing). s.steps) runs.stands, runs.goes.later)

  -- and grew by a send
  pub emits_later : (permits : R → Heap → ℕ → ℕ → Bool) {env : Env} {image : Image} {began : Since} {seen : Seen} {old inside : SessionState R} (cpu : CpuState R) {conn : ℕ} {bytes : List ℕ} {found : Event} → env ≡ env_of old → inside ≡ old → found ≡ step.Emits conn bytes
      → IsBetween (rules_by permits old) image began seen old → Ran permits env inside cpu (Ok found) → old.cpu.slots.live.steps < cpu.slots.live.steps
  emits_later permits {env = env} {old = old} {inside = inside} cpu force same is b ran =
      let runs = (ran_on permits cpu force same b (subst (λ (e : Event). Ran permits env inside cpu (Ok e)) is ran)).ran in
      let from : old.cpu.slots.live.steps ≡ b.going.story.survivor.now.steps = ap (λ (s : Standing). s.steps) b.going.goes.guest in
      omega (arith, from, ap (λ (s : Standing). s.steps) runs.stands, runs.comes.6)

  -- and by an answer of the allocator
  pub chooses_later : (permits : R → Heap → ℕ → ℕ → Bool) {env : Env} {image : Image} {began : Since} {seen : Seen} {old inside : SessionState R} (cpu : CpuState R) {choice : Choice} {found : Event} → env ≡ env_of old → inside ≡ old → found ≡ step.Chooses choice
      → IsBetween (rules_by permits old) image began seen old → Ran permits env inside cpu (Ok found) → old.cpu.slots.live.steps < cpu.slots.live.steps
  chooses_later permits {env = env} {old = old} {inside = inside} cpu force same is b ran =
      let runs = (ran_on permits cpu force same b (subst (λ (e : Event). Ran permits env inside cpu (Ok e)) is ran)).ran in
      let from : old.cpu.slots.live.steps ≡ b.going.story.survivor.now.steps = ap (λ (s : Standing). s.steps) b.going.goes.guest in
      omega (arith, from, ap (λ (s : Standing). s.steps) runs.stands, runs.comes.3)

  -- what it allows stays
  pub ran_frame : {old inside after : SessionState R} {cpu : CpuState R} → inside ≡ old → cpu ≡ with_live (live_of cpu) inside.cpu → after.options ≡ inside.options → after.before ≡ inside.before → after.hold ≡ inside.hold → after.cpu ≡ cpu → HasSameFrame old after
  ran_frame same kept options before hold is = record {
    options = options ∙ ap (λ (s : SessionState R). s.options) same;
    rule = ap (λ (c : CpuState R). c.rule) is ∙ (ap (λ (c : CpuState R). c.rule) kept ∙ ap (λ (s : SessionState R). s.cpu.rule) same);
    before = before ∙ ap (λ (s : SessionState R). s.before) same;
    hold = hold ∙ ap (λ (s : SessionState R). s.hold) same;
  }

  -- behind the event the session answers for its guest's run
  abbrev pub counted_by : SessionState R → CpuState R → SessionState R
  counted_by inside cpu = record inside { cpu = cpu; taken = cpu.slots.live.guest.machine.taken; steps = cpu.slots.live.steps }

  pub asks_now : {rules : Rules} {image : Image} {began : Since} {seen : Seen} {old inside after : SessionState R} {cpu : CpuState R} → inside ≡ old → after ≡ counted_by inside cpu → HasRun rules image began seen step.Asks (record inside { cpu = cpu })
      → IsWaitingFor rules image began seen after
  asks_now {rules = rules} {image = image} {began = began} {seen = seen} same is h =
      subst (λ (s : SessionState R). IsWaitingFor rules image began seen s) (sym is)
      (run_asks h refl refl refl (record { taken = refl; steps = refl }))

  pub exits_now : {rules : Rules} {image : Image} {began : Since} {seen : Seen} {code : ℕ} {old inside after : SessionState R} {cpu : CpuState R} → inside ≡ old → after ≡ counted_by inside cpu
      → HasRun rules image began seen (step.Exits code) (record inside { cpu = cpu }) → IsEnding rules image began seen after (session_end.Exited code)
  exits_now {rules = rules} {image = image} {began = began} {seen = seen} {code = code} same is h =
      subst (λ (s : SessionState R). IsEnding rules image began seen s (session_end.Exited code)) (sym is)
      (run_exits h refl refl refl (record { taken = refl; steps = refl }))

  pub fails_now : {rules : Rules} {image : Image} {began : Since} {seen : Seen} {cause : Cause} {old inside after : SessionState R} {cpu : CpuState R} → inside ≡ old → after ≡ counted_by inside cpu
      → HasRun rules image began seen (step.Failed cause) (record inside { cpu = cpu }) → IsFailing rules image began seen cause after
  fails_now {rules = rules} {image = image} {began = began} {seen = seen} {cause = cause} same is h =
      subst (λ (s : SessionState R). IsFailing rules image began seen cause s) (sym is)
      (run_fails h refl refl refl (record { taken = refl; steps = refl }))

  -- a run leaves how a session keeps its checkpoints
  pub ran_keeping : {old inside : SessionState R} {cpu : CpuState R} → inside ≡ old → cpu ≡ with_live (live_of cpu) inside.cpu → keeping_of (record inside { cpu = cpu }) ≡ keeping_of old
  ran_keeping {old = old} {cpu = cpu} same kept =
      let whole : cpu ≡ with_live (live_of cpu) old.cpu = kept ∙ ap (λ (s : SessionState R). with_live (live_of cpu) s.cpu) same in
      λ i. keeping_by (same i).options.every (whole i).slots

  -- and its checkpoints
  pub ran_saved : {old inside : SessionState R} {cpu : CpuState R} → inside ≡ old → cpu ≡ with_live (live_of cpu) inside.cpu → cpu.slots.saved ≡ old.cpu.slots.saved
  ran_saved same kept = ap (λ (one : CpuState R). one.slots.saved) kept ∙ ap (λ (s : SessionState R). s.cpu.slots.saved) same

  -- and the oldest one, up to which all is given up that was
  pub ran_oldest : {old inside after : SessionState R} {cpu : CpuState R} {taken steps : ℕ} → inside ≡ old → cpu ≡ with_live (live_of cpu) inside.cpu → after ≡ record inside { cpu = cpu; taken = taken; steps = steps } → KeepsOldest old after
  ran_oldest {old = old} {inside = inside} {cpu = cpu} {taken = taken} {steps = steps} same kept is =
      subst (λ (s : SessionState R). KeepsOldest old s) (sym is)
      (record {
        oldest = ap (λ (saved : List (Checkpoint Standing)). oldest_of saved) (ran_saved same kept);
        first = ap (λ (s : SessionState R). s.log.first) same;
        recorded = ap (λ (s : SessionState R). s.recorded) same;
        sends = ap (λ (s : SessionState R). s.replies.first) same;
        keeping = ran_keeping same kept;
      })

  -- memory ran out within the run: the session answers for the run before it
  pub breaks_now : (permits : R → Heap → ℕ → ℕ → Bool) {env : Env} {image : Image} {began : Since} {seen : Seen} {old inside : SessionState R} {cpu : CpuState R} (result : Result Event AllocError) {lost : ℕ} → env ≡ env_of old → inside ≡ old
      → keeping_of (record inside { cpu = cpu }) ≡ keeping_of old → cpu.slots.saved ≡ old.cpu.slots.saved → IsBetween (rules_by permits old) image began seen old → Ran permits env inside cpu result
      → lost + inside.steps ≡ began.lost + cpu.slots.live.steps → IsBrokenOff (rules_by permits old) image (record began { lost = lost }) seen (record inside { cpu = cpu }) session_break.Memory
  breaks_now permits {env = env} {image = image} {old = old} {inside = inside} {cpu = cpu} result force same kept saved b ran counts =
      let first : Path = b.going.story.survivor.now in
      let runs = runs_serve (rules_by permits old).limits (items_in (rules_by permits old).bounds (entries b.going.story)) b.going.story.survivor.plan env old.cpu.base first (live_of old.cpu) (live_of cpu)
      result b.going.goes.lives (env_is permits b force) b.going.goes.guest (ran_as permits env old cpu result (subst (λ (s : SessionState R). Ran permits env s cpu result) same ran)) in
      let answers : inside.steps ≡ first.steps = ap (λ (s : SessionState R). s.steps) same ∙ b.going.answers.steps in
      let there : runs.now.steps ≡ cpu.slots.live.steps = ap (λ (s : Standing). s.steps) runs.stands in
      broken_running runs.now b.going.told
      (answers_as (ap (λ (s : SessionState R). s.recorded) same) (ap (λ (s : SessionState R). s.choices) same) (ap (λ (s : SessionState R). s.taken) same) (ap (λ (s : SessionState R). s.steps) same)
      b.going.answers) (held_by (rules_by permits old) image b.going.story.earlier (entries b.going.story) b.going.story.recoveries b.going.story.survivor old (record inside { cpu = cpu }) saved kept (held_of b.going.saved)) runs.goes.served runs.goes.later (omega (arith, counts, answers, there))

  -- by other rules that are the same
  pub comes_under : (image : Image) (began : Since) (seen : Seen) (session : SessionState R) (result : Result (Unit {0}) Stop) {first second : Rules} → first ≡ second
      → ComesBetween first image began seen session result → ComesBetween second image began seen session result
  comes_under image began seen session result same = subst (λ rules. ComesBetween rules image began seen session result) same

  pub run_under : {image : Image} {began : Since} {seen : Seen} {happened : Event} {session : SessionState R} {first second : Rules} → first ≡ second
      → HasRun first image began seen happened session → HasRun second image began seen happened session
  run_under {image = image} {began = began} {seen = seen} {happened = happened} {session = session} same = subst (λ rules. HasRun rules image began seen happened session) same

-- more than one that is no less
pub later_ok : (result : Result (Unit {0}) Stop) {low mid : ℕ} (high : ℕ) → low ≤ mid → IfOk result (λ _. mid < high) → IfOk result (λ _. low < high)
later_ok (Ok done) high less more = omega (arith, less, more)
later_ok (Err why) high less more = tt

-- the counts of an arm: as many instructions were counted as the guest did
pub lost_none : (ran : ℕ) {lost began steps : ℕ} (first last before after live : ℕ) {to : ℕ} → lost + steps + (ran + first) ≡ began + before + (ran + last) → last + live ≡ after + to → after + before ≡ first + live → steps ≡ to → lost ≡ began
lost_none ran first last before after live counts went run is = omega (arith, counts, went, run, is)

pub lost_failed : (ran later lost began steps first last before after live : ℕ) → lost + steps + (later + first) ≡ began + before + (ran + last) → after + before ≡ first + live → lost + steps + (later + after) ≡ began + live + (ran + last)
lost_failed ran later lost began steps first last before after live counts run = omega (arith, counts, run)

pub lost_cut : (ran lost began steps first last before to : ℕ) → lost + steps + (ran + first) ≡ began + before + (ran + last) → last + before ≡ first + to → lost + steps ≡ began + to
lost_cut ran lost began steps first last before to counts run = omega (arith, counts, run)

module _ {R : Type 0} where
  pub further_ok : (result : Result (Unit {0}) Stop) (old new : SessionState R) → new.until ≡ old.until → IfOk result (λ _. old.cpu.slots.live.steps < new.cpu.slots.live.steps) → IfOk result (λ _. GoesFurther old new)
  further_ok (Ok done) old new same more = inl (same, more)
  further_ok (Err why) old new same more = tt

  pub further_adopted : (result : Result (Unit {0}) Stop) (old mid new : SessionState R) → mid.until ≡ old.until → mid.options ≡ old.options → IfOk result (λ _. IsAdoptedLater mid new) → IfOk result (λ _. GoesFurther old new)
  further_adopted (Ok done) old mid new same options later =
      inr (record { past = omega (arith, later.past, same); most = let items : mid.options.max_items ≡ old.options.max_items = ap (λ o. o.max_items) options in let keeps : mid.options.keep ≡ old.options.keep = ap (λ o. o.keep) options in omega (arith, later.most, items, keeps) })
  further_adopted (Err why) old mid new same options later = tt

  pub fails_under : {image : Image} {began : Since} {seen : Seen} {cause : Cause} {session : SessionState R} {first second : Rules} → first ≡ second → IsFailing first image began seen cause session → IsFailing second image began seen cause session
  fails_under {image = image} {began = began} {seen = seen} {cause = cause} {session = session} {first = first} same = subst (λ (rules : Rules). IsFailing rules image began seen cause session) same
