-- Where a session that follows is released: an ordinary session begins there, with all that was followed before it.
use Rattle.guest_cpu.specs.declared.event.Event.TheVariants as step
use Rattle.std.proofs.lemmas.List.Elements.{All-head, All-tail}
use Rattle.session_history.specs.declared.ends.SessionBreak.{SessionBreak}
use Rattle.session_history.specs.declared.ends.SessionBreak.TheVariants as session_break
use Rattle.session_history.specs.declared.ends.Stop.TheVariants as stop
use Rattle.session_state.proofs.ending.EndLemmas.{served_off}
use Rattle.session_state.proofs.ending.LeavingLemmas.{left_by}
use Rattle.session_following.proofs.Terms.{Bool, List, None, Option, Some, [], ap, append-nil, arith, drop, inl, inr, length, refl, subst, sym, take, true, ℕ, ◌+◌, ◌<◌, ◌∙◌, ◌∷◌, ◌≡◌, ◌≤◌, ◌⊎◌, last_or, All, Err, IfSome, IsSome, ◌≢◌, Item, Send, LinkEvent, Grew, Phases, Tells, Told, Seen, Choice, Heap, Env, Image, AsksFor, Limits, Override, Path, Served, origin, CpuState, standing_of, Standing, Writes, Stop, served_on, Before, items_in, nothing_before, Rules, Episode, Try, Noted, asks_under_all, heard_alone, rules_behind, AtExit, AtFailure, AtRequest, Handed, HasReached, IsPastFailure, Stand, adopted_try, plan_of, IsInForce, TellsMore, taken_all, IsTrimmed, LeavesBy, keeping_of, rules_in, AreTables, Telling, BreaksPassing, IsCounted, StopsBy, TrimsAt, rules_by, SessionState, EndsWithin, IsGoing, Since, told_since, Unfollowed, plan_up_to, rules_after, HasJustBegun, before_moved, before_released, rules_following, EndsAfter, IsFollowedBy, IsMissing, Agree, IsJudgedAt, kind_of, IsUnfollowed, IsUnfollowedBy, TookOver, Follows, HasReachedOn, HasRunOn, IsReleased, IsReleasedAtExit, held_back, holding, marked}
use Rattle.session_following.proofs.Following.{released_following, whole_following}
use Rattle.session_following.proofs.Holding.{following_holding}
use Rattle.session_following.proofs.Moving.{moved_before}
use Rattle.session_following.proofs.Released.{exited_following, newest_past}
use Rattle.session_following.specs.declared.judging.StandKind.TheVariants as kind
use Rattle.session_following.proofs.PlanLemmas.{goes_to}
use Rattle.session_following.proofs.Reaching.{not_on}
use Rattle.session_following.proofs.Rebased.{just_going}
use Rattle.session_following.proofs.Turning.{IsMovedFrom, past_begun, side_of}
use Rattle.session_following.proofs.Meets.{since_following}

-- a watch that isn't looked at tells no table more
tables_none : (rules : Rules) (tables : Option (List (List Try))) → TellsMore tables tables (AreTables rules [] [] [])
tables_none rules None = refl
tables_none rules (Some tables) = ([], ap Some (sym (append-nil tables)), tt)

module _ {R : Type 0} (permits : R → Heap → ℕ → ℕ → Bool) (rules : Rules) (handed : Handed) where
  -- what it allows then
  here_released : (events : List LinkEvent) (now to : Path) (old new : SessionState R) → rules_by permits old ≡ rules_following (held_back rules) handed events now → new.options ≡ old.options → new.cpu.rule ≡ old.cpu.rule → new.hold ≡ rules.hold → new.before ≡ (rules_behind rules handed events to).bounds.before
      → rules_by permits new ≡ rules_behind rules handed events to
  here_released events now to old new is options rule hold came =
      (λ i. rules_in (options i) new.before (hold i) (permits (rule i))) ∙ (ap (λ (r : Rules). holding (rules_after r new.before) rules.hold) is ∙ ap (rules_after rules) came)

module _ {R : Type 0} (permits : R → Heap → ℕ → ℕ → Bool) {rules : Rules} {image : Image} {handed : Handed} {told : Told} {seen : Seen} {before noted : Noted} where
  -- It is released where its run has reached what was handed over.
  pub released_on : {missing : List ℕ} {old new : SessionState R} {env : Env} {until : ℕ} → rules.bounds.before ≡ nothing_before → (s : Follows rules (rules_by permits old) image handed told seen before noted missing old) → (stand : Stand rules.limits (plan_of rules.limits.keep handed.episodes) s.now)
      → HasReached rules.limits handed s.now stand → IsInForce old.options.base (plan_of old.options.keep handed.episodes) s.now.state.machine.taken env until
      → EndsWithin rules.limits until s.now → new ≡ record old { env = env; until = until; before = new.before; hold = rules.hold } → new.before ≡ before_released old.before (plan_of old.options.keep handed.episodes)
      → IsReleased rules (rules_by permits new) image handed told seen before noted new
  released_on {old = old} {new = new} {env = env} {until = until} alone s stand reached in_force past same came =
      let f = following_holding rules.hold s.follows in
      let keeps : old.options.keep ≡ rules.limits.keep = ap (λ (x : Rules). x.limits.keep) s.here_is in
      let forced = subst (λ (l : Limits). IsInForce l.base (plan_of l.keep handed.episodes) s.now.state.machine.taken env until) (ap (λ (x : Rules). x.limits) s.here_is) in_force in
      let r = released_following alone f stand reached forced in
      record {
        events = s.events;
        released = s.now;
        followed = r.0;
        heard = s.heard;
        episodes = s.episodes;
        here_is =
            here_released permits rules handed s.events s.now s.now old new s.here_is (ap (λ (t : SessionState R). t.options) same) (ap (λ (t : SessionState R). t.cpu.rule) same) (ap (λ (t : SessionState R). t.hold) same)
            (came ∙ ap (λ (keep : ℕ). before_released old.before (plan_of keep handed.episodes)) keeps ∙ ap (λ (b : Before). before_released b (plan_of rules.limits.keep handed.episodes)) (ap (λ (x : Rules). x.bounds.before) s.here_is));
        begun = subst (λ (t : SessionState R). HasJustBegun (rules_behind rules handed s.events s.now) image (marked before noted) seen.phases t) (sym same) (past_begun new.before rules.hold r.1);
        past = subst (λ (t : SessionState R). EndsWithin rules.limits t.until s.now) (sym same) past;
      }

-- Where its guest ended itself: the run up to there, and what the session answers for.
module _ {R : Type 0} (permits : R → Heap → ℕ → ℕ → Bool) {rules : Rules} {image : Image} {handed : Handed} {told : Told} {seen : Seen} {before noted : Noted} {missing : List ℕ} {code : ℕ} {old new : SessionState R}
    (h : HasRunOn rules (rules_by permits old) image handed told seen before noted missing (step.Exits code) old) (same : IsMovedFrom old new) (replies : new.replies ≡ old.replies) (chosen : new.choices ≡ old.choices) (counted : IsCounted new) where
  abbrev pub to : Path
  to = h.runs.ran.now

  -- it stands at its exit
  pub exit_stands : IsSome to.state.ended
  exit_stands = subst (λ (o : Option ℕ). IsSome o) (sym h.runs.ran.comes.1) refl

  -- where it is judged by the counts of the session
  pub judged_exit : IsJudgedAt rules.limits (items_in rules.bounds (heard_alone h.stood.events)) handed to (AtExit exit_stands) missing kind.Exit new.taken new.steps (new.recorded + length new.choices) true
  judged_exit =
      let a = h.stood.follows.stands.answers in
      let live : new.cpu.slots.live ≡ standing_of to = ap (λ (s : SessionState R). s.cpu.slots.live) same ∙ sym h.runs.ran.stands in
      let recorded : new.recorded ≡ h.was.recorded = ap (λ (s : SessionState R). s.recorded) same ∙ ap (λ (s : SessionState R). s.recorded) h.same in
      let choices : new.choices ≡ h.was.choices = chosen ∙ ap (λ (s : SessionState R). s.choices) h.same in
      let count = taken_all h.was.recorded h.stood.now.choices a.choices a.low in
      record {
        kind_is = refl;
        taken_are = sym (counted.taken ∙ ap (λ (s : Standing). s.guest.machine.taken) live);
        steps_are = sym (counted.steps ∙ ap (λ (s : Standing). s.steps) live);
        chosen_are = omega (arith, count, recorded, ap length choices, ap length h.runs.ran.comes.0.choices);
        missing_are = subst (λ (all : List Send). IsMissing handed.counts all missing) (sym h.runs.ran.comes.0.sends) h.stood.missing_are;
        agree = subst (λ (all : List Choice). Agree handed.choices all) (sym h.runs.ran.comes.0.choices) h.stood.agree;
        is_stuck = λ any. tt;
        at_end = λ any. refl;
      }

  -- It isn't released there.
  pub unfollowed_exit : (why : Unfollowed) → IsUnfollowedBy rules image handed seen.coming h.stood.events [] to why → IsUnfollowed rules image handed told seen before noted new.cpu.slots.live.steps new why
  unfollowed_exit why cause =
      let f = following_holding rules.hold h.stood.follows in
      let s = h.stood in
      let a = f.stands.answers in
      let plan : List Override = plan_of rules.limits.keep handed.episodes in
      let under : List Override = plan_up_to rules.limits.base plan s.now.state.machine.taken in
      let items : List Item = items_in (rules_following rules handed s.events s.now).bounds [] in
      let heard : List Item = items_in rules.bounds (heard_alone s.events) in
      let still = h.runs.ran.goes.taken in
      let served : Served rules.limits items under (origin image) to = served_on rules.limits items under (origin image) s.now to f.stands.sound.carries.served h.runs.ran.goes.served in
      let whole : Served rules.limits heard plan (origin image) to =
      whole_following rules image handed s.events s.now s.alone to (subst (λ (n : ℕ). Served rules.limits items (plan_up_to rules.limits.base plan n) (origin image) to) (sym still) served) in
      let to_now = whole_following rules image handed s.events s.now s.alone s.now f.stands.sound.carries.served in
      let live : new.cpu.slots.live ≡ standing_of to = ap (λ (t : SessionState R). t.cpu.slots.live) same ∙ sym h.runs.ran.stands in
      let recorded : new.recorded ≡ h.was.recorded = ap (λ (t : SessionState R). t.recorded) same ∙ ap (λ (t : SessionState R). t.recorded) h.same in
      let choices : new.choices ≡ h.was.choices = chosen ∙ ap (λ (t : SessionState R). t.choices) h.same in
      let used : to.choices ≡ s.now.choices = h.runs.ran.comes.0.choices in
      record {
        events = s.events;
        last = [];
        now = to;
        ran = whole;
        not_before = not_on rules.limits heard image handed s.now to f.before to_now (goes_to rules.limits heard plan (origin image) s.now to to_now whole h.runs.ran.goes.later) still;
        asked = f.asked;
        heard = subst (λ (all : List LinkEvent). Tells told seen.told (heard_alone all)) (sym (append-nil s.events)) s.heard;
        cause = cause;
        low = let few = a.low in omega (arith, few, recorded, ap length used);
        noted = subst (λ (all : List Choice). Grew before.choices noted.choices (take new.recorded all)) (sym used) (subst (λ (n : ℕ). Grew before.choices noted.choices (take n s.now.choices)) (sym recorded) a.recorded);
        episodes = s.episodes;
        choices = choices ∙ (a.choices ∙ (λ i. drop (sym recorded i) (sym used i)));
        taken = counted.taken ∙ ap (λ (t : Standing). t.guest.machine.taken) live;
        steps = counted.steps ∙ ap (λ (t : Standing). t.steps) live;
        counted_all = λ any. ap (λ (t : Standing). t.steps) live;
      }

  -- It is released there.
  pub exit_on : new.hold ≡ rules.hold → new.before ≡ before_released (before_moved old.before old.cpu.slots.live []) (plan_of old.options.keep handed.episodes) → HasReached rules.limits handed to (AtExit exit_stands) → IsReleasedAtExit rules (rules_by permits new) image handed told seen before noted code new
  exit_on hold came reached =
      let s = h.stood in
      let cpu : new.cpu ≡ old.cpu = ap (λ (t : SessionState R). t.cpu) same in
      let keeps : old.options.keep ≡ rules.limits.keep = ap (λ (r : Rules). r.limits.keep) s.here_is in
      let ends = λ (tables : Option (List (List Try))). exited_following {began = told_since seen.told before noted tables tables 0} {seen = seen} {new = new} {code = code} s.alone (since_following refl refl (following_holding rules.hold s.follows)) refl refl s.episodes
      (tables_none (rules_behind rules handed s.events to) tables) (side_of h.same h.cpu same) (replies ∙ ap (λ (t : SessionState R). t.replies) h.same) (chosen ∙ ap (λ (t : SessionState R). t.choices) h.same) counted h.runs.ran.goes h.runs.ran.comes.0
      (subst (λ (c : CpuState R). Writes rules.limits (items_in (rules_following rules handed s.events s.now).bounds []) h.was.cpu.base s.now h.was.cpu.written to c.written) (sym cpu) h.runs.wrote) h.runs.ran.comes.1
      (ap (λ (c : CpuState R). c.slots.live) cpu ∙ sym h.runs.ran.stands) exit_stands reached in
      record {
        events = s.events;
        released = to;
        followed = (ends None).0;
        heard = s.heard;
        here_is =
            here_released permits rules handed s.events s.now to old new s.here_is (ap (λ (t : SessionState R). t.options) same) (ap (λ (t : SessionState R). t.cpu.rule) same) hold
            (came
            ∙ ap (λ (keep : ℕ). before_released (before_moved old.before old.cpu.slots.live []) (plan_of keep handed.episodes)) keeps
            ∙ ap (λ (b : Before). before_released b (plan_of rules.limits.keep handed.episodes))
            (ap (λ (b : Before). before_moved b old.cpu.slots.live []) (ap (λ (r : Rules). r.bounds.before) s.here_is)
            ∙ moved_before rules.limits handed s.events s.now to old.cpu.slots.live (sym h.runs.ran.stands) [] h.runs.ran.comes.0.sends (h.runs.ran.comes.0.choices ∙ sym (append-nil s.now.choices)) h.runs.ran.goes.taken));
        ends = λ tables. (ends tables).1;
      }

module _ {R : Type 0} where
  -- a session that is released has just begun, since its link told this
  begun_since : {rules : Rules} {image : Image} {told : Told} {before noted : Noted} (tables : Option (List (List Try))) {phases : Phases} {session : SessionState R} → HasJustBegun rules image (marked before noted) phases session
      → HasJustBegun rules image (told_since told before noted tables tables 0) phases session
  begun_since tables f = record {
    sound = f.sound;
    answers = record { low = f.answers.low; recorded = f.answers.recorded; choices = f.answers.choices; unnoted = f.answers.unnoted; taken = f.answers.taken; steps = f.answers.steps };
    goes = f.goes;
    saved = f.saved;
    replies = f.replies;
    no_trial = f.no_trial;
  }

  -- so it goes on as an ordinary session
  pub released_goes : {rules here : Rules} {image : Image} {handed : Handed} {told : Told} {seen : Seen} {before noted : Noted} {session : SessionState R} (tables : Option (List (List Try))) → (r : IsReleased rules here image handed told seen before noted session)
      → IsGoing here image (told_since seen.told before noted tables tables 0) seen session
  released_goes {rules = rules} {image = image} {handed = handed} {seen = seen} {before = before} {noted = noted} {session = session} tables r =
      subst (λ (x : Rules). IsGoing x image (told_since seen.told before noted tables tables 0) seen session) (sym r.here_is)
      (just_going (begun_since tables r.begun) r.past refl refl r.episodes (tables_none (rules_behind rules handed r.events r.released) tables))

  -- Where the link failed as it passed what was due, or memory ran out, it is told so.
  pub took_off : {rules here : Rules} {image : Image} {handed : Handed} {told : Told} {there seen : Seen} {before noted : Noted} {old new : SessionState R} {counted : ℕ} (tables : Option (List (List Try))) (why : Stop) → (r : IsReleased rules here image handed told there before noted old)
      → StopsBy here image (told_since there.told before noted tables tables 0) seen new why → BreaksPassing (Err why) → IsTrimmed new → counted ≡ new.steps → TookOver rules image handed (keeping_of new) told there seen before noted counted tables tables new why
  took_off tables (stop.Ends end) r stops passing trimmed counted = absurd passing
  took_off {rules = rules} {image = image} {handed = handed} {there = there} {seen = seen} {before = before} {noted = noted} {new = new} tables (stop.Breaks why) r stops passing trimmed counted =
      let began : Since = told_since there.told before noted tables tables 0 in
      let next : Rules = rules_behind rules handed r.events r.released in
      let off = subst (λ (x : Rules). StopsBy x image began seen new (stop.Breaks why)) r.here_is stops in
      let both = served_off (λ (telling : Telling). LeavesBy next image before.unnoted noted.unnoted telling new (stop.Breaks why)) {rules = next} {image = image} began {first = there} {seen = seen} {session = new} {why = why} off.0 off.1 (omega (arith, counted))
      (left_by before.unnoted noted.unnoted off.0.telling why (trims_passing why trimmed passing) off.0.holds off.0.handled) in
      record { events = r.events; released = r.released; followed = r.followed; heard = r.heard; watched = both.0; leaves = both.1 }
    where
      trims_passing : (w : SessionBreak) → IsTrimmed new → BreaksPassing (Err (stop.Breaks w)) → TrimsAt before.unnoted noted.unnoted new (stop.Breaks w)
      trims_passing session_break.ReadFault t passes = absurd passes
      trims_passing session_break.WriteFault t passes = t
      trims_passing session_break.FileFault t passes = absurd passes
      trims_passing session_break.Memory t passes = inl t

-- what holds of all holds of the last one
all_last : (P : Episode → Type 0) (first : Option Episode) (episodes : List Episode) → IfSome first P → All P episodes → IfSome (last_or first episodes) P
all_last P first [] one all = one
all_last P first (episode ∷ episodes) one all = all_last P (Some episode) episodes (All-head P episode episodes all) (All-tail P episode episodes all)

followed_last : (taken : ℕ) (o : Option Episode) → IfSome o (λ (e : Episode). IsSome (adopted_try e.tries)) → IfSome o (λ (e : Episode). e.point ≤ taken) → IsFollowedBy taken o
followed_last taken None adopted past = tt
followed_last taken (Some episode) adopted past = (adopted, past)

-- where the environment ends that is in force then
ends_past : (rules : Rules) (now : Path) (until : ℕ) (o : Option Episode) → 1 ≤ rules.limits.keep → EndsAfter rules.limits.keep o until → IfSome o (λ (e : Episode). (e.point < now.state.machine.taken) ⊎ ((e.point ≤ now.state.machine.taken) × AsksFor rules.limits [] now now.state.machine.taken))
    → EndsWithin rules.limits until now
ends_past rules now until None some is past = inl (omega (arith, some, is))
ends_past rules now until (Some episode) some is past =
    elim past [
      | inl before ↦ inl (omega (arith, is, before))
      | inr at_request ↦ newest_past rules until episode.point now is at_request.0 at_request.1
    ]

if_last : (P Q : Episode → Type 0) (o : Option Episode) → ((e : Episode) → P e → Q e) → IfSome o P → IfSome o Q
if_last P Q None so holds = tt
if_last P Q (Some e) so holds = so e holds

module _ {R : Type 0} where
  -- It is past the last failure, where it has reached what was handed over, by its stand.
  past_stand : {rules here : Rules} {image : Image} {handed : Handed} {told : Told} {seen : Seen} {before noted : Noted} {missing : List ℕ} {session : SessionState R} (s : Follows rules here image handed told seen before noted missing session) (stand : Stand rules.limits (plan_of rules.limits.keep handed.episodes) s.now) → kind_of stand ≢ kind.Exit → (e : Episode)
      → IsPastFailure stand e → (e.point < s.now.state.machine.taken) ⊎ ((e.point ≤ s.now.state.machine.taken) × AsksFor rules.limits [] s.now s.now.state.machine.taken)
  past_stand {rules = rules} {handed = handed} s (AtRequest asks) lives e past = inr (past, asks_under_all rules.limits (plan_of rules.limits.keep handed.episodes) [] s.now s.now.state.machine.taken asks)
  past_stand s (AtExit ended) lives e past = absurd (lives refl)
  past_stand s (AtFailure cause fails) lives e past = inl past

  pub released_followed : {rules here : Rules} {image : Image} {handed : Handed} {told : Told} {seen : Seen} {before noted : Noted} {missing : List ℕ} {session : SessionState R} → (r : HasReachedOn rules here image handed told seen before noted missing session)
      → All (λ (e : Episode). IsSome (adopted_try e.tries)) handed.episodes → IsFollowedBy session.taken (last_or None handed.episodes)
  released_followed {rules = rules} {handed = handed} {session = session} r adopted =
      followed_last session.taken (last_or None handed.episodes) (all_last (λ (e : Episode). IsSome (adopted_try e.tries)) None handed.episodes tt adopted)
      (if_last (IsPastFailure r.stand) (λ (e : Episode). e.point ≤ session.taken) (last_or None handed.episodes) (λ e past. low e (past_stand r.stands r.stand r.lives e past)) r.reached.past)
    where
      low : (e : Episode) → (e.point < r.stands.now.state.machine.taken) ⊎ ((e.point ≤ r.stands.now.state.machine.taken) × AsksFor rules.limits [] r.stands.now r.stands.now.state.machine.taken) → e.point ≤ session.taken
      low e (inl before) = omega (arith, before, r.stands.follows.stands.answers.taken)
      low e (inr at_request) = omega (arith, at_request.0, r.stands.follows.stands.answers.taken)

  pub released_past : (permits : R → Heap → ℕ → ℕ → Bool) {rules : Rules} {image : Image} {handed : Handed} {told : Told} {seen : Seen} {before noted : Noted} {missing : List ℕ} {session : SessionState R} {until : ℕ} → (r : HasReachedOn rules (rules_by permits session) image handed told seen before noted missing session) → EndsAfter session.options.keep (last_or None handed.episodes) until
      → EndsWithin rules.limits until r.stands.now
  released_past permits {rules = rules} {handed = handed} {session = session} {until = until} r ends =
      let keeps : session.options.keep ≡ rules.limits.keep = ap (λ (x : Rules). x.limits.keep) r.stands.here_is in
      ends_past rules r.stands.now until (last_or None handed.episodes) r.stands.follows.some_keep (subst (λ (keep : ℕ). EndsAfter keep (last_or None handed.episodes) until) keeps ends)
      (if_last (IsPastFailure r.stand) (λ (e : Episode). (e.point < r.stands.now.state.machine.taken) ⊎ ((e.point ≤ r.stands.now.state.machine.taken) × AsksFor rules.limits [] r.stands.now r.stands.now.state.machine.taken)) (last_or None handed.episodes)
      (λ e past. past_stand r.stands r.stand r.lives e past) r.reached.past)
