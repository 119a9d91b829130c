-- What a turn makes of a session that follows: its guest ran to an event.
use Rattle.guest_cpu.proofs.RunLemmas.{runs_write}
use Rattle.std.specs.declared.alloc.AllocError.{AllocError}
use Rattle.session_history.specs.declared.ends.SessionBreak.TheVariants as session_break
use Rattle.session_history.specs.declared.ends.Stop.TheVariants as stop
use Rattle.session_state.proofs.ending.TurnLemmas.{Ran, ran_as}
use Rattle.session_following.proofs.Terms.{Bool, List, None, Option, [], ap, append-nil, arith, cond, drop, inl, length, ltb, refl, subst, sym, take, ℕ, ◌++◌, ◌+◌, ◌∙◌, ◌∷◌, ◌≡◌, ◌≤◌, Result, ◌≢◌, Send, LinkEvent, Grew, Phases, Tells, Told, Seen, Choice, Heap, Env, IsOpened, Ledger, Image, Limits, Override, Path, env_at, Event, CpuState, live_of, with_live, standing_of, RunsWriting, Writes, Before, items_in, nothing_before, IsSendable, Rules, Noted, heard_alone, Handed, plan_of, HasSameSide, rules_in, IsCounted, rules_by, SessionState, env_of, Since, Unfollowed, plan_up_to, rules_after, HasJustBegun, held_count, with_held, before_moved, before_sent, IsFollowing, followed_before, rules_following, OtherAnswer, IsMissing, Agree, IsOther, IsUnfollowed, IsUnfollowedBy, Follows, HasRunOn, held_back, marked}
use Rattle.session_following.specs.declared.unfollowed.Unfollowed.TheVariants as unfollowed
use Rattle.session_following.proofs.Following.{sent_following, went_following, whole_following}
use Rattle.session_following.proofs.Holding.{following_holding}
use Rattle.session_following.proofs.Moving.{moved_before, sent_before}

module _ {R : Type 0} where
  -- its options and its rule stay, and how many items more have to be taken before a reply is passed
  pub record HasSameBase (old new : SessionState R) : Type 0 where
    pub options : new.options ≡ old.options
    pub rule : new.cpu.rule ≡ old.cpu.rule
    pub hold : new.hold ≡ old.hold

  -- what came before it, and how many items more have to be taken before a reply is passed, is told beside all that
  pub past_begun : {rules : Rules} {image : Image} {began : Since} {phases : Phases} {session : SessionState R} (came : Before) (hold : ℕ) → HasJustBegun rules image began phases session → HasJustBegun rules image began phases (record session { before = came; hold = hold })
  past_begun came hold f =
      let a = f.answers in
      let g = f.goes in
      let k = f.saved in
      record {
        sound = f.sound;
        answers = record { low = a.low; recorded = a.recorded; choices = a.choices; unnoted = a.unnoted; taken = a.taken; steps = a.steps };
        goes = record { lives = g.lives; guest = g.guest; bounded = g.bounded; few = g.few; within = g.within; items = g.items; events = g.events; phases_are = g.phases_are };
        saved = record { paths = k.paths; ring = k.ring; early = k.early; requests = k.requests; in_force = k.in_force };
        replies = f.replies;
        no_trial = f.no_trial;
      }

  pub past_following : {rules : Rules} {image : Image} {handed : Handed} {events : List LinkEvent} {now : Path} {began : Since} {phases : Phases} {session : SessionState R} (came : Before) (hold : ℕ) → IsFollowing rules image handed events now began phases session
      → IsFollowing rules image handed events now began phases (record session { before = came; hold = hold })
  past_following came hold f = record { stands = past_begun came hold f.stands; env = f.env; until = f.until; some_keep = f.some_keep; before = f.before; asked = f.asked }

  -- so what it allows is told by what came before it
  pub here_then : (permits : R → Heap → ℕ → ℕ → Bool) (rules : Rules) (handed : Handed) (events later : List LinkEvent) (now to : Path) {old new : SessionState R} → HasSameBase old new → rules_by permits old ≡ rules_following rules handed events now → new.before ≡ followed_before rules.limits handed later to
      → rules_by permits new ≡ rules_following rules handed later to
  here_then permits rules handed events later now to {old = old} {new = new} same is before =
      (λ i. rules_in (same.options i) new.before (same.hold i) (permits (same.rule i)))
      ∙ (ap (λ (r : Rules). rules_after r new.before) is ∙ ap (rules_after rules) before)

  -- how its guest runs in the environment in force, by its plan
  pub ran_to : (permits : R → Heap → ℕ → ℕ → Bool) {env : Env} {rules : Rules} {image : Image} {handed : Handed} {events : List LinkEvent} {now : Path} {began : Since} {phases : Phases} {old inside : SessionState R} (cpu : CpuState R) (result : Result Event AllocError)
      → (rules_by permits old).limits ≡ rules.limits → env ≡ env_of old → inside ≡ old → IsFollowing rules image handed events now began phases old → Ran permits env inside cpu result
      → RunsWriting rules.limits (items_in (rules_following rules handed events now).bounds []) (plan_up_to rules.limits.base (plan_of rules.limits.keep handed.episodes) now.state.machine.taken) old.cpu.base now old.cpu.written result (live_of cpu)
  ran_to permits {env = env} {rules = rules} {handed = handed} {events = events} {now = now} {old = old} cpu result limits force same f ran =
      let plan : List Override = plan_up_to rules.limits.base (plan_of rules.limits.keep handed.episodes) now.state.machine.taken in
      let base : old.options.base ≡ rules.limits.base = ap (λ (l : Limits). l.base) limits in
      let in_force : env_at old.options.base plan now.state.machine.taken ≡ env =
      subst (λ (e : Env). env_at e plan now.state.machine.taken ≡ cond (ltb now.state.machine.taken old.until) old.env e) (sym base) (f.stands.saved.in_force.in_force now.state.machine.taken (omega arith))
      ∙ (ap (λ (n : ℕ). cond (ltb n old.until) old.env old.options.base) (sym f.stands.answers.taken) ∙ sym force) in
      subst (λ (l : Limits). RunsWriting l (items_in (rules_following rules handed events now).bounds []) plan old.cpu.base now old.cpu.written result (live_of cpu)) limits
      (runs_write (rules_by permits old).limits (items_in (rules_following rules handed events now).bounds []) plan env old.cpu.base now (live_of old.cpu) (live_of cpu) result f.stands.goes.lives in_force
      f.stands.goes.guest (ran_as permits env old cpu result (subst (λ (s : SessionState R). Ran permits env s cpu result) same ran)))

  -- It isn't released where its run stands, for this cause.
  pub unfollowed_by : {rules : Rules} {image : Image} {handed : Handed} {events : List LinkEvent} {now : Path} {told : Told} {seen : Seen} {phases : Phases} {before noted later : Noted} {old new : SessionState R} {counted : ℕ} (last : List LinkEvent) (why : Unfollowed) → rules.bounds.before ≡ nothing_before
      → IsFollowing (held_back rules) image handed events now (marked before noted) phases old → later.choices ≡ noted.choices → Grew before.episodes later.episodes [] → new.recorded ≡ old.recorded → new.choices ≡ old.choices → new.taken ≡ old.taken → new.steps ≡ old.steps
      → Tells told seen.told (heard_alone (events ++ last)) → IsUnfollowedBy rules image handed seen.coming events last now why → (why ≢ unfollowed.Stops (stop.Breaks session_break.Memory) → counted ≡ now.steps) → IsUnfollowed rules image handed told seen before later counted new why
  unfollowed_by {rules = rules} {image = image} {handed = handed} {events = events} {now = now} {before = before} {noted = noted} {later = later} {old = old} {new = new} last why alone held noted_same episodes recorded choices taken steps heard cause counted =
      let f = following_holding rules.hold held in
      let a = f.stands.answers in
      record {
        events = events;
        last = last;
        now = now;
        ran = whole_following rules image handed events now alone now f.stands.sound.carries.served;
        not_before = f.before;
        asked = f.asked;
        heard = heard;
        cause = cause;
        low = subst (λ (n : ℕ). n ≤ length now.choices) (sym recorded) a.low;
        noted =
            subst (λ (o : Option (List Choice)). Grew before.choices o (take new.recorded now.choices)) (sym noted_same)
            (subst (λ (n : ℕ). Grew before.choices noted.choices (take n now.choices)) (sym recorded) a.recorded);
        episodes = episodes;
        choices = choices ∙ (a.choices ∙ ap (λ (n : ℕ). drop n now.choices) (sym recorded));
        taken = taken ∙ a.taken;
        steps = steps ∙ a.steps;
        counted_all = counted;
      }

  pub unfollowed_of : {rules here : Rules} {image : Image} {handed : Handed} {told : Told} {was seen : Seen} {before noted later : Noted} {missing : List ℕ} {old new : SessionState R} {counted : ℕ} (last : List LinkEvent) (why : Unfollowed) (s : Follows rules here image handed told was before noted missing old)
      → later.choices ≡ noted.choices → Grew before.episodes later.episodes [] → new.recorded ≡ old.recorded → new.choices ≡ old.choices → new.taken ≡ old.taken → new.steps ≡ old.steps → Tells told seen.told (heard_alone (s.events ++ last)) → IsUnfollowedBy rules image handed seen.coming s.events last s.now why
      → (why ≢ unfollowed.Stops (stop.Breaks session_break.Memory) → counted ≡ s.now.steps) → IsUnfollowed rules image handed told seen before later counted new why
  unfollowed_of last why s = unfollowed_by last why s.alone s.follows

  -- Memory ran out, and nothing came.
  pub memory_of : {rules here : Rules} {image : Image} {handed : Handed} {told : Told} {seen : Seen} {before noted : Noted} {missing : List ℕ} {old new : SessionState R} {counted : ℕ} (s : Follows rules here image handed told seen before noted missing old)
      → new.recorded ≡ old.recorded → new.choices ≡ old.choices → new.taken ≡ old.taken → new.steps ≡ old.steps → IsUnfollowed rules image handed told seen before noted counted new (unfollowed.Stops (stop.Breaks session_break.Memory))
  memory_of {told = told} {seen = seen} s recorded choices taken steps =
      unfollowed_of [] (unfollowed.Stops (stop.Breaks session_break.Memory)) s refl s.episodes recorded choices taken steps (subst (λ (all : List LinkEvent). Tells told seen.told (heard_alone all)) (sym (append-nil s.events)) s.heard) (inl refl) (λ other. absurd (other refl))

-- the frame and the side of a session whose guest ran on
module _ {R : Type 0} where
  -- all but the replies, the answers of the allocator, the counts, and what a release changes is the same
  abbrev pub IsMovedFrom : SessionState R → SessionState R → Type 0
  IsMovedFrom old new = new ≡ record old { replies = new.replies; choices = new.choices; taken = new.taken; steps = new.steps; before = new.before; hold = new.hold }

  pub side_of : {was old new : SessionState R} → old ≡ record was { cpu = old.cpu } → old.cpu ≡ with_live (live_of old.cpu) was.cpu → IsMovedFrom old new → HasSameSide was new
  side_of {was = was} {old = old} {new = new} first cpu same =
      let is : new.cpu ≡ old.cpu = ap (λ (s : SessionState R). s.cpu) same in
      record {
        recorded = ap (λ (s : SessionState R). s.recorded) same ∙ ap (λ (s : SessionState R). s.recorded) first;
        log = ap (λ (s : SessionState R). s.log) same ∙ ap (λ (s : SessionState R). s.log) first;
        events = ap (λ (s : SessionState R). s.events) same ∙ ap (λ (s : SessionState R). s.events) first;
        cpu = is ∙ (cpu ∙ ap (λ (c : CpuState R). with_live (live_of c) was.cpu) (sym is));
        env = ap (λ (s : SessionState R). s.env) same ∙ ap (λ (s : SessionState R). s.env) first;
        until = ap (λ (s : SessionState R). s.until) same ∙ ap (λ (s : SessionState R). s.until) first;
        options = ap (λ (s : SessionState R). s.options) same ∙ ap (λ (s : SessionState R). s.options) first;
      }

  base_of : {old new : SessionState R} → IsMovedFrom old new → new.hold ≡ old.hold → HasSameBase old new
  base_of same hold = record { options = ap (λ (s : SessionState R). s.options) same; rule = ap (λ (s : SessionState R). s.cpu.rule) same; hold = hold }

module _ {R : Type 0} {rules here : Rules} {image : Image} {handed : Handed} {told : Told} {seen : Seen} {before noted : Noted} {missing : List ℕ} {happened : Event} {old : SessionState R} (h : HasRunOn rules here image handed told seen before noted missing happened old) where
  wrote_to : (new : SessionState R) → new.cpu ≡ old.cpu → Writes rules.limits (items_in (rules_following (held_back rules) handed h.stood.events h.stood.now).bounds []) h.was.cpu.base h.stood.now h.was.cpu.written h.runs.ran.now new.cpu.written
  wrote_to new is = subst (λ (c : CpuState R). Writes rules.limits (items_in (rules_following (held_back rules) handed h.stood.events h.stood.now).bounds []) h.was.cpu.base h.stood.now h.was.cpu.written h.runs.ran.now c.written) (sym is) h.runs.wrote

  stands_to : (new : SessionState R) → new.cpu ≡ old.cpu → new.cpu.slots.live ≡ standing_of h.runs.ran.now
  stands_to new is = ap (λ (c : CpuState R). c.slots.live) is ∙ sym h.runs.ran.stands

-- what came before it, where it stood
before_is : {R : Type 0} (permits : R → Heap → ℕ → ℕ → Bool) {rules : Rules} {image : Image} {handed : Handed} {told : Told} {seen : Seen} {before noted : Noted} {missing : List ℕ} {happened : Event} {old : SessionState R} (h : HasRunOn rules (rules_by permits old) image handed told seen before noted missing happened old)
    → old.before ≡ followed_before rules.limits handed h.stood.events h.stood.now
before_is permits h = ap (λ (r : Rules). r.bounds.before) h.stood.here_is

module _ {R : Type 0} (permits : R → Heap → ℕ → ℕ → Bool) {rules : Rules} {image : Image} {handed : Handed} {told : Told} {seen : Seen} {before noted : Noted} {missing : List ℕ} {happened : Event} {old new : SessionState R} (alone : rules.bounds.before ≡ nothing_before)
    (h : HasRunOn rules (rules_by permits old) image handed told seen before noted missing happened old) where
  -- It went on there, used these answers of the allocator and sent nothing.
  pub moved_turn : (more : List Choice) → IsMovedFrom old new → new.hold ≡ old.hold → new.replies ≡ old.replies → new.choices ≡ old.choices ++ more → IsCounted new → new.before ≡ before_moved old.before old.cpu.slots.live more → h.runs.ran.now.choices ≡ h.stood.now.choices ++ more
      → h.runs.ran.now.state.sends ≡ h.stood.now.state.sends → h.runs.ran.now.state.ended ≡ None
      → IsFollowing (held_back rules) image handed h.stood.events h.runs.ran.now (marked before noted) seen.phases new × (rules_by permits new ≡ rules_following (held_back rules) handed h.stood.events h.runs.ran.now)
  moved_turn more same hold replies chosen counted came used sent lives =
      let cpu : new.cpu ≡ old.cpu = ap (λ (s : SessionState R). s.cpu) same in (
        went_following more alone h.stood.follows (side_of h.same h.cpu same) (replies ∙ ap (λ (s : SessionState R). s.replies) h.same) used (chosen ∙ ap (λ (s : SessionState R). s.choices ++ more) h.same) sent counted h.runs.ran.goes (wrote_to h new cpu) lives (stands_to h new cpu),
        here_then permits (held_back rules) handed h.stood.events h.stood.events h.stood.now h.runs.ran.now {old = old} {new = new} (base_of same hold) h.stood.here_is
            (came ∙ (ap (λ (b : Before). before_moved b old.cpu.slots.live more) (before_is permits h) ∙ moved_before rules.limits handed h.stood.events h.stood.now h.runs.ran.now old.cpu.slots.live (sym h.runs.ran.stands) more sent used h.runs.ran.goes.taken)),
      )

  -- It follows still, where what it used agrees with the record.
  pub follows_on : (more : List Choice) → IsMovedFrom old new → new.hold ≡ old.hold → new.replies ≡ old.replies → new.choices ≡ old.choices ++ more → IsCounted new → new.before ≡ before_moved old.before old.cpu.slots.live more → h.runs.ran.now.choices ≡ h.stood.now.choices ++ more
      → h.runs.ran.now.state.sends ≡ h.stood.now.state.sends → h.runs.ran.now.state.ended ≡ None → Agree handed.choices (h.stood.now.choices ++ more) → Follows rules (rules_by permits new) image handed told seen before noted missing new
  follows_on more same hold replies chosen counted came used sent lives agree =
      let went = moved_turn more same hold replies chosen counted came used sent lives in
      record {
        alone = alone;
        hold_is = h.stood.hold_is ∙ sym (ap (λ (s : SessionState R). s.options.hold) same ∙ ap (λ (s : SessionState R). s.options.hold) h.same);
        events = h.stood.events;
        now = h.runs.ran.now;
        follows = went.0;
        here_is = went.1;
        heard = h.stood.heard;
        episodes = h.stood.episodes;
        agree = subst (λ (all : List Choice). Agree handed.choices all) (sym used) agree;
        missing_are = subst (λ (all : List Send). IsMissing handed.counts all missing) (sym sent) h.stood.missing_are;
      }

  -- Memory ran out behind the event: it answers for the run before it.
  pub memory_run : {counted : ℕ} → new.recorded ≡ old.recorded → new.choices ≡ old.choices → new.taken ≡ old.taken → new.steps ≡ old.steps → IsUnfollowed rules image handed told seen before noted counted new (unfollowed.Stops (stop.Breaks session_break.Memory))
  memory_run recorded choices taken steps =
      memory_of h.stood (recorded ∙ ap (λ (s : SessionState R). s.recorded) h.same) (choices ∙ ap (λ (s : SessionState R). s.choices) h.same) (taken ∙ ap (λ (s : SessionState R). s.taken) h.same) (steps ∙ ap (λ (s : SessionState R). s.steps) h.same)

  -- It used an answer of the allocator that isn't the record's.
  pub other_run : {step : ℕ} (more : List Choice) → IsMovedFrom old new → new.hold ≡ old.hold → new.replies ≡ old.replies → new.choices ≡ old.choices ++ more → IsCounted new → new.before ≡ before_moved old.before old.cpu.slots.live more → h.runs.ran.now.choices ≡ h.stood.now.choices ++ more
      → h.runs.ran.now.state.sends ≡ h.stood.now.state.sends → h.runs.ran.now.state.ended ≡ None → IsOther handed.choices (h.stood.now.choices ++ more) → new.steps ≡ step + 1 → IsUnfollowed rules image handed told seen before noted new.cpu.slots.live.steps new (unfollowed.Mismatch step)
  other_run {step = step} more same hold replies chosen counted came used sent lives other steps =
      let went = moved_turn more same hold replies chosen counted came used sent lives in
      let to : Path = h.runs.ran.now in
      let differs : IsOther handed.choices to.choices = subst (λ (all : List Choice). IsOther handed.choices all) (sym used) other in
      let answers = went.0.stands.answers in
      unfollowed_by [] (unfollowed.Mismatch step) alone went.0 refl h.stood.episodes refl refl refl refl (subst (λ (all : List LinkEvent). Tells told seen.told (heard_alone all)) (sym (append-nil h.stood.events)) h.stood.heard)
      (OtherAnswer differs.0 differs.1, (refl, sym answers.steps ∙ steps)) (λ any. sym counted.steps ∙ answers.steps)

  -- It sent, and follows still: its ledger has the send, and as much of it as clients have is passed.
  pub sends_on : {conn : ℕ} {bytes : List ℕ} {lacking : List ℕ} → IsMovedFrom old new → new.hold ≡ old.hold → new.choices ≡ old.choices → IsCounted new
      → new.replies ≡ with_held old.replies (record { conn = conn; bytes = bytes; taken = h.stood.now.state.machine.taken }) (held_count handed.counts h.stood.now.state.sends (record { conn = conn; bytes = bytes; taken = h.stood.now.state.machine.taken }))
      → new.before ≡ before_sent old.before old.cpu.slots.live (record { conn = conn; bytes = bytes; taken = h.stood.now.state.machine.taken }) (held_count handed.counts h.stood.now.state.sends (record { conn = conn; bytes = bytes; taken = h.stood.now.state.machine.taken }))
      → h.runs.ran.now.choices ≡ h.stood.now.choices → h.runs.ran.now.state.sends ≡ h.stood.now.state.sends ++ record { conn = conn; bytes = bytes; taken = h.stood.now.state.machine.taken } ∷ [] → h.runs.ran.now.state.ended ≡ None → IsOpened old.replies conn
      → IsSendable (record { conn = conn; bytes = bytes; taken = h.stood.now.state.machine.taken }) → IsMissing handed.counts (h.stood.now.state.sends ++ record { conn = conn; bytes = bytes; taken = h.stood.now.state.machine.taken } ∷ []) lacking
      → Follows rules (rules_by permits new) image handed told seen before noted lacking new
  sends_on {conn = conn} {bytes = bytes} {lacking = lacking} same hold chosen counted how came used sent lives opened sendable lacks =
      let send : Send = record { conn = conn; bytes = bytes; taken = h.stood.now.state.machine.taken } in
      let cpu : new.cpu ≡ old.cpu = ap (λ (s : SessionState R). s.cpu) same in
      let replies : old.replies ≡ h.was.replies = ap (λ (s : SessionState R). s.replies) h.same in
      record {
        alone = alone;
        hold_is = h.stood.hold_is ∙ sym (ap (λ (s : SessionState R). s.options.hold) same ∙ ap (λ (s : SessionState R). s.options.hold) h.same);
        events = h.stood.events;
        now = h.runs.ran.now;
        follows =
            sent_following send alone h.stood.follows (side_of h.same h.cpu same) used (chosen ∙ ap (λ (s : SessionState R). s.choices) h.same) sent counted (subst (λ (l : Ledger). IsOpened l conn) replies opened) sendable
            (how ∙ ap (λ (l : Ledger). with_held l send (held_count handed.counts h.stood.now.state.sends send)) replies) h.runs.ran.goes (wrote_to h new cpu) lives (stands_to h new cpu);
        here_is =
            here_then permits (held_back rules) handed h.stood.events h.stood.events h.stood.now h.runs.ran.now {old = old} {new = new} (base_of same hold) h.stood.here_is
            (came ∙ (ap (λ (b : Before). before_sent b old.cpu.slots.live send (held_count handed.counts h.stood.now.state.sends send)) (before_is permits h) ∙ sent_before rules.limits handed h.stood.events h.stood.now h.runs.ran.now old.cpu.slots.live (sym h.runs.ran.stands) send sent used h.runs.ran.goes.taken));
        heard = h.stood.heard;
        episodes = h.stood.episodes;
        agree = subst (λ (all : List Choice). Agree handed.choices all) (sym used) h.stood.agree;
        missing_are = subst (λ (all : List Send). IsMissing handed.counts all lacking) (sym sent) lacks;
      }
