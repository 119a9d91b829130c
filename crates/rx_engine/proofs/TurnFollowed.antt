-- What the guest of a session that follows makes of it in one turn: it ran to an event.
use Rattle.guest_cpu.specs.declared.event.Event.{Event}
use Rattle.guest_cpu.specs.declared.event.Event.TheVariants as step
use Rattle.guest_cpu.specs.Writing.{RunsWriting}
use Rattle.session_history.specs.declared.ends.SessionBreak.TheVariants as session_break
use Rattle.session_history.specs.declared.ends.Stop.TheVariants as stop
use Rattle.std.specs.Prelude.{Err, List, None, Ok, Option, [], ◌*◌, ◌^◌}
use Rattle.session_following.specs.declared.turned.Turned.TheVariants as turned
use Rattle.session_following.specs.declared.unfollowed.Unfollowed.TheVariants as unfollowed
use Rattle.session_following.specs.Missing.{IsMissing}
use Rattle.session_following.specs.Standing.{HasJustBegun}
use Rattle.rx_base.proofs.Budgets.{few_in_all}
use Rattle.rx_engine.proofs.Terms.{AllocError, ap, append-nil, arith, inl, refl, subst, sym, ℕ, ◌+◌, ◌<◌, ◌∙◌, ◌≡◌, ◌≤◌, Bool, IfOk, Result, false, true, ◌≢◌, MAX_ITEMS, Send, Phases, Told, Seen, Choice, Heap, Env, Ledger, is_open, Image, Cause, AsksFor, FailsBy, Path, CpuState, live_of, with_live, Standing, Stop, Before, items_in, Rules, Noted, Shown, Unnoted, AsksForMore, Handed, plan_of, known_same, chosen_serves, memory_serves, unnoted_serves, Ran, ran_oldest, gives_same, trimmed_still, still_takes, KeepsOldest, rules_in, HasSameOpen, IsCounted, IsUnnoted, LinkServes, MayServe, NotesServe, rules_by, SessionState, env_of, Since, Turned, Unfollowed, moved_turn, ran_to, rules_following, plan_up_to, Agree, before_moved, IsUnfollowed, UnnotedBy, AsksOn, FailsOn, Follows, HasRunOn, IfFollows, KeepsTurning, TurnsTo, held_back, turn_as}

-- where its guest ran to
module _ {R : Type 0} (permits : R → Heap → ℕ → ℕ → Bool) {rules : Rules} {image : Image} {handed : Handed} {told : Told} {seen : Seen} {before noted : Noted} {missing : List ℕ} {env : Env} {old inside : SessionState R} {cpu : CpuState R}
    (force : env ≡ env_of old) (same : inside ≡ old) (kept : cpu ≡ with_live (live_of cpu) inside.cpu) (s : Follows rules (rules_by permits old) image handed told seen before noted missing old) where
  -- what it allows stays
  pub ran_rules : rules_by permits (record inside { cpu = cpu }) ≡ rules_by permits old
  ran_rules = λ i. rules_in (ap (λ (t : SessionState R). t.options) same i) (ap (λ (t : SessionState R). t.before) same i) (ap (λ (t : SessionState R). t.hold) same i) (permits ((ap (λ (c : CpuState R). c.rule) kept ∙ ap (λ (t : SessionState R). t.cpu.rule) same) i))

  pub runs_to : (result : Result Event AllocError) → Ran permits env inside cpu result
      → RunsWriting rules.limits (items_in (rules_following (held_back rules) handed s.events s.now).bounds []) (plan_up_to rules.limits.base (plan_of rules.limits.keep handed.episodes) s.now.state.machine.taken) old.cpu.base s.now old.cpu.written result (live_of cpu)
  runs_to result ran = ran_to permits cpu result (ap (λ (r : Rules). r.limits) s.here_is) force same s.follows ran

  pub run_on : {found happened : Event} → found ≡ happened → Ran permits env inside cpu (Ok found) → HasRunOn rules (rules_by permits (record inside { cpu = cpu })) image handed told seen before noted missing happened (record inside { cpu = cpu })
  run_on {happened = happened} is ran =
      subst (λ (r : Rules). HasRunOn rules r image handed told seen before noted missing happened (record inside { cpu = cpu })) (sym ran_rules)
      (record {
        was = old;
        stood = s;
        same = ap (λ (t : SessionState R). record t { cpu = cpu }) same;
        cpu = kept ∙ ap (λ (t : SessionState R). with_live (live_of cpu) t.cpu) same;
        runs = runs_to (Ok happened) (subst (λ (e : Event). Ran permits env inside cpu (Ok e)) is ran);
      })

  -- no instruction was undone, and the session answers for no more of them
  pub ran_least : (result : Result Event AllocError) → Ran permits env inside cpu result → (old.steps ≤ cpu.slots.live.steps) × (old.cpu.slots.live.steps ≤ cpu.slots.live.steps)
  ran_least result ran =
      let runs = (runs_to result ran).ran in
      let from : old.cpu.slots.live.steps ≡ s.now.steps = ap (λ (t : Standing). t.steps) s.follows.stands.goes.guest in
      let answers : old.steps ≡ s.now.steps = s.follows.stands.answers.steps in
      let there : runs.now.steps ≡ cpu.slots.live.steps = ap (λ (t : Standing). t.steps) runs.stands in
      let later = runs.goes.later in
      (omega (arith, answers, there, later), omega (arith, from, there, later))

  -- and where it sent or asked the allocator it has done more of them
  more_than : (happened : Event) (runs : RunsWriting rules.limits (items_in (rules_following (held_back rules) handed s.events s.now).bounds []) (plan_up_to rules.limits.base (plan_of rules.limits.keep handed.episodes) s.now.state.machine.taken) old.cpu.base s.now old.cpu.written (Ok happened) (live_of cpu))
      → s.now.steps < runs.ran.now.steps → old.cpu.slots.live.steps < cpu.slots.live.steps
  more_than happened runs more =
      let from : old.cpu.slots.live.steps ≡ s.now.steps = ap (λ (t : Standing). t.steps) s.follows.stands.goes.guest in
      let there : runs.ran.now.steps ≡ cpu.slots.live.steps = ap (λ (t : Standing). t.steps) runs.ran.stands in
      omega (arith, from, there, more)

  pub sent_more : {conn : ℕ} {bytes : List ℕ} {found : Event} → found ≡ step.Emits conn bytes → Ran permits env inside cpu (Ok found) → old.cpu.slots.live.steps < cpu.slots.live.steps
  sent_more {conn = conn} {bytes = bytes} is ran =
      let runs = runs_to (Ok (step.Emits conn bytes)) (subst (λ (e : Event). Ran permits env inside cpu (Ok e)) is ran) in
      more_than (step.Emits conn bytes) runs runs.ran.comes.6

  pub chose_more : {choice : Choice} {found : Event} → found ≡ step.Chooses choice → Ran permits env inside cpu (Ok found) → old.cpu.slots.live.steps < cpu.slots.live.steps
  chose_more {choice = choice} is ran =
      let runs = runs_to (Ok (step.Chooses choice)) (subst (λ (e : Event). Ran permits env inside cpu (Ok e)) is ran) in
      more_than (step.Chooses choice) runs runs.ran.comes.3

-- at its request, and at its failure, where it goes on
module _ {R : Type 0} (permits : R → Heap → ℕ → ℕ → Bool) {rules : Rules} {image : Image} {handed : Handed} {told : Told} {seen : Seen} {before noted : Noted} {missing : List ℕ} {happened : Event} {ran new : SessionState R}
    (h : HasRunOn rules (rules_by permits ran) image handed told seen before noted missing happened ran)
    (is : new ≡ record ran { taken = ran.cpu.slots.live.guest.machine.taken; steps = ran.cpu.slots.live.steps; before = before_moved ran.before ran.cpu.slots.live [] }) where
  moves : h.runs.ran.now.choices ≡ h.stood.now.choices → h.runs.ran.now.state.sends ≡ h.stood.now.state.sends → h.runs.ran.now.state.ended ≡ None → Follows rules (rules_by permits new) image handed told seen before noted missing new
  moves used sent lives =
      let went =
      moved_turn permits h.stood.alone h []
      (λ i. record (is i) { replies = new.replies; choices = new.choices; taken = new.taken; steps = new.steps; before = new.before; hold = new.hold })
      (ap (λ (t : SessionState R). t.hold) is) (ap (λ (t : SessionState R). t.replies) is) (ap (λ (t : SessionState R). t.choices) is ∙ sym (append-nil ran.choices))
      (record { taken = ap (λ (t : SessionState R). t.taken) is ∙ sym (ap (λ (t : SessionState R). t.cpu.slots.live.guest.machine.taken) is); steps = ap (λ (t : SessionState R). t.steps) is ∙ sym (ap (λ (t : SessionState R). t.cpu.slots.live.steps) is) })
      (ap (λ (t : SessionState R). t.before) is) (used ∙ sym (append-nil h.stood.now.choices)) sent lives in
      record {
        alone = h.stood.alone;
        hold_is = h.stood.hold_is ∙ sym (ap (λ (t : SessionState R). t.options.hold) is ∙ ap (λ (t : SessionState R). t.options.hold) h.same);
        events = h.stood.events;
        now = h.runs.ran.now;
        follows = went.0;
        here_is = went.1;
        heard = h.stood.heard;
        episodes = h.stood.episodes;
        agree = subst (λ (all : List Choice). Agree handed.choices all) (sym used) h.stood.agree;
        missing_are = subst (λ (all : List Send). IsMissing handed.counts all missing) (sym sent) h.stood.missing_are;
      }

module _ {R : Type 0} (permits : R → Heap → ℕ → ℕ → Bool) {rules : Rules} {image : Image} {handed : Handed} {told : Told} {seen : Seen} {before noted : Noted} {missing : List ℕ} {ran new : SessionState R}
    (is : new ≡ record ran { taken = ran.cpu.slots.live.guest.machine.taken; steps = ran.cpu.slots.live.steps; before = before_moved ran.before ran.cpu.slots.live [] }) where
  pub asks_on : HasRunOn rules (rules_by permits ran) image handed told seen before noted missing step.Asks ran → AsksOn rules (rules_by permits new) image handed told seen before noted missing new
  unfolding moves
  asks_on h =
      let comes = h.runs.ran.comes in
      let still = h.runs.ran.goes.taken in
      let plan = plan_of rules.limits.keep handed.episodes in
      let to : Path = h.runs.ran.now in
      record {
        stands = moves permits h is comes.0.choices comes.0.sends comes.1.lives;
        asks = subst (λ (n : ℕ). AsksFor rules.limits (plan_up_to rules.limits.base plan n) to n) (sym still) comes.1;
      }

  pub fails_on : {cause : Cause} → HasRunOn rules (rules_by permits ran) image handed told seen before noted missing (step.Failed cause) ran → FailsOn rules (rules_by permits new) image handed told seen before noted missing new
  unfolding moves
  fails_on {cause = cause} h =
      let comes = h.runs.ran.comes in
      let still = h.runs.ran.goes.taken in
      let plan = plan_of rules.limits.keep handed.episodes in
      let to : Path = h.runs.ran.now in
      record {
        stands = moves permits h is comes.0.choices comes.0.sends comes.1.lives;
        cause = cause;
        fails = subst (λ (n : ℕ). FailsBy rules.limits (plan_up_to rules.limits.base plan n) to cause) (sym still) comes.1;
      }

module _ {R : Type 0} where
  -- its counts are those of its guest
  begun_counted : {rules : Rules} {image : Image} {began : Since} {phases : Phases} {session : SessionState R} → HasJustBegun rules image began phases session → IsCounted session
  begun_counted f = record {
    taken = f.answers.taken ∙ sym (ap (λ (t : Standing). t.guest.machine.taken) f.goes.guest);
    steps = f.answers.steps ∙ sym (ap (λ (t : Standing). t.steps) f.goes.guest);
  }

  pub follows_counted : {rules here : Rules} {image : Image} {handed : Handed} {told : Told} {seen : Seen} {before noted : Noted} {missing : List ℕ} {session : SessionState R} → Follows rules here image handed told seen before noted missing session → IsCounted session
  follows_counted s = begun_counted s.follows.stands

  pub turned_counted : (rules here : Rules) (image : Image) (handed : Handed) (told : Told) (seen : Seen) (before noted : Noted) (missing : List ℕ) (session : SessionState R) (result : Result Turned Unfollowed) → TurnsTo rules here image handed told seen before noted missing session result
      → IfOk result (λ _. IsCounted session)
  turned_counted rules here image handed told seen before noted missing session (Ok turned.GoesOn) f = begun_counted f.follows.stands
  turned_counted rules here image handed told seen before noted missing session (Ok turned.Released) r = begun_counted r.begun
  turned_counted rules here image handed told seen before noted missing session (Ok (turned.Exits code)) r =
      let e = r.ends None in
      record {
        taken = e.answers.taken ∙ sym (ap (λ (t : Standing). t.guest.machine.taken) e.live);
        steps = e.answers.steps ∙ sym (ap (λ (t : Standing). t.steps) e.live);
      }
  turned_counted rules here image handed told seen before noted missing session (Err why) u = tt

-- the link wasn't called, nor were the notes
pub turned_serves : {seen : Seen} {ledger : Ledger} (result : Result Turned Unfollowed) → MayServe seen ledger → ((why : Stop) → result ≡ Err (unfollowed.Stops why) → why ≡ stop.Breaks session_break.Memory) → LinkServes seen seen ledger (turn_as result)
turned_serves (Ok turn) may memory = chosen_serves (Ok tt) may tt
turned_serves (Err (unfollowed.Mismatch at)) may memory = record {
  takes = may.takes;
  gives = may.gives;
  known = known_same refl;
  once = tt;
  cause = record { takes = omega arith; gives = omega arith; read_fault = λ is. absurd (let never : ⊥ = cc in never); write_fault = λ is. absurd (let never : ⊥ = cc in never) };
}
turned_serves (Err (unfollowed.Short conn)) may memory = record {
  takes = may.takes;
  gives = may.gives;
  known = known_same refl;
  once = tt;
  cause = record { takes = omega arith; gives = omega arith; read_fault = λ is. absurd (let never : ⊥ = cc in never); write_fault = λ is. absurd (let never : ⊥ = cc in never) };
}
turned_serves {seen = seen} {ledger = ledger} (Err (unfollowed.Stops why)) may memory =
    subst (λ (w : Stop). LinkServes {X = Unit {0}} seen seen ledger (Err w)) (sym (memory why refl)) (memory_serves may.gives.gives_still)

turned_unnoted : (result : Result Turned Unfollowed) → ((why : Stop) → result ≡ Err (unfollowed.Stops why) → why ≡ stop.Breaks session_break.Memory) → IsUnnoted (turn_as result)
turned_unnoted (Ok turn) memory = tt
turned_unnoted (Err (unfollowed.Mismatch at)) memory = tt
turned_unnoted (Err (unfollowed.Short conn)) memory = tt
turned_unnoted (Err (unfollowed.Stops why)) memory = subst (λ (w : Stop). IsUnnoted (Err w)) (sym (memory why refl)) tt

pub turned_notes : {shown : Shown} (result : Result Turned Unfollowed) → ((why : Stop) → result ≡ Err (unfollowed.Stops why) → why ≡ stop.Breaks session_break.Memory) → NotesServe shown shown (turn_as result)
turned_notes result memory = unnoted_serves (turn_as result) (turned_unnoted result memory)

pub turned_none : (old : Option Unnoted) (choices : List Choice) (result : Result Turned Unfollowed) → ((why : Stop) → result ≡ Err (unfollowed.Stops why) → why ≡ stop.Breaks session_break.Memory) → UnnotedBy old old choices (turn_as result)
turned_none old choices (Ok turn) memory = refl
turned_none old choices (Err (unfollowed.Mismatch at)) memory = refl
turned_none old choices (Err (unfollowed.Short conn)) memory = refl
turned_none old choices (Err (unfollowed.Stops why)) memory = subst (λ (w : Stop). UnnotedBy old old choices (Err w)) (sym (memory why refl)) (inl refl)

-- what holds where it goes on and where it stops
pub if_turned : (result : Result Turned Unfollowed) {P : Type 0} → P → IfOk result (λ _. P)
if_turned (Ok turn) p = p
if_turned (Err why) p = tt

pub if_follows : (result : Result Turned Unfollowed) {P : Type 0} → P → IfFollows result P
if_follows (Ok turned.GoesOn) p = p
if_follows (Ok turned.Released) p = tt
if_follows (Ok (turned.Exits code)) p = tt
if_follows (Err why) p = tt

pub never_follows : (P : Type 0) (result : Result Turned Unfollowed) → result ≢ Ok turned.GoesOn → IfFollows result P
never_follows P (Ok turned.GoesOn) never = absurd (never refl)
never_follows P (Ok turned.Released) never = tt
never_follows P (Ok (turned.Exits code)) never = tt
never_follows P (Err why) never = tt

-- more than one that is no less
pub later_follows : (result : Result Turned Unfollowed) {low mid : ℕ} (high : ℕ) → low ≤ mid → IfFollows result (mid < high) → IfFollows result (low < high)
later_follows (Ok turned.GoesOn) high less more = omega (arith, less, more)
later_follows (Ok turned.Released) high less more = tt
later_follows (Ok (turned.Exits code)) high less more = tt
later_follows (Err why) high less more = tt

-- Where it stops and events may be taken still, that is all.
pub stopped_still : {R : Type 0} {rules : Rules} {image : Image} {handed : Handed} {told : Told} {seen : Seen} {before noted : Noted} {session : SessionState R} (here : Rules) (missing : List ℕ) (result : Result Turned Unfollowed) (why : Unfollowed) → seen.takes ≡ true
    → TurnsTo rules here image handed told seen before noted missing session result → result ≡ Err why
    → (u : IsUnfollowed rules image handed told seen before noted session.cpu.slots.live.steps session why) × (seen.takes ≡ false → AsksForMore rules image handed u.events)
stopped_still {rules = rules} {image = image} {handed = handed} {told = told} {seen = seen} {before = before} {noted = noted} {session = session} here missing result why takes turns is =
    let u = subst (TurnsTo rules here image handed told seen before noted missing session) is turns in
    (u, λ none. still_takes _ takes none)

module _ {R : Type 0} {old mid new : SessionState R} where
  -- Neither link nor notes were called, and all is kept but the replies and what is counted.
  pub keeps_step : {seen : Seen} {shown : Shown} (rules here : Rules) (image : Image) (handed : Handed) (told : Told) (before noted : Noted) (missing : List ℕ) (result : Result Turned Unfollowed) → MayServe seen old.replies
      → KeepsOldest old mid → mid.options ≡ old.options → mid.cpu.rule ≡ old.cpu.rule → mid.replies ≡ old.replies → KeepsOldest mid new → new.options ≡ mid.options → new.cpu ≡ mid.cpu → HasSameOpen mid.replies new.replies
      → ((why : Stop) → result ≡ Err (unfollowed.Stops why) → why ≡ stop.Breaks session_break.Memory) → TurnsTo rules here image handed told seen before noted missing new result → IfFollows result (old.cpu.slots.live.steps < mid.cpu.slots.live.steps)
      → KeepsTurning seen seen shown shown old new result
  keeps_step {seen = seen} {shown = shown} rules here image handed told before noted missing result may oldest options rule replies later options_then cpu opened memory turns further =
      let serves : MayServe seen new.replies = record {
        takes = may.takes;
        gives = gives_same (λ conn. opened conn ∙ ap (λ (l : Ledger). is_open l.connections conn) replies) may.gives;
      } in
      record {
        link = turned_serves result serves memory;
        notes = turned_notes result memory;
        unnoted = turned_none shown.told.unnoted new.choices result memory;
        options = options_then ∙ options;
        rule = ap (λ (c : CpuState R). c.rule) cpu ∙ rule;
        keeping = later.keeping ∙ oldest.keeping;
        trimmed = λ trims. if_turned result (trimmed_still later (trimmed_still oldest trims));
        marked = turned_counted rules here image handed told seen before noted missing new result turns;
        later = subst (λ (c : CpuState R). IfFollows result (old.cpu.slots.live.steps < c.slots.live.steps)) (sym cpu) further;
      }

-- where its counts are those of its guest, and it went on
module _ {R : Type 0} {old mid : SessionState R} where
  pub moved_oldest : {inside : SessionState R} {cpu : CpuState R} {taken steps : ℕ} {came : Before} → inside ≡ old → cpu ≡ with_live (live_of cpu) inside.cpu → mid ≡ record inside { cpu = cpu; taken = taken; steps = steps; before = came } → KeepsOldest old mid
  moved_oldest {inside = inside} {cpu = cpu} same kept is =
      let first = ran_oldest {old = old} {inside = inside} {after = record inside { cpu = cpu }} {cpu = cpu} same kept refl in
      subst (λ (s : SessionState R). KeepsOldest old s) (sym is) (record { oldest = first.oldest; first = first.first; recorded = first.recorded; sends = first.sends; keeping = first.keeping })

-- Its guest has done few instructions: so many come between two items, and so many items.
pub follows_fits : {R : Type 0} {rules here : Rules} {image : Image} {handed : Handed} {told : Told} {seen : Seen} {before noted : Noted} {missing : List ℕ} {session : SessionState R} → here.limits.budget ≤ 2 ^ 36 → here.bounds.max_items ≤ MAX_ITEMS → Follows rules here image handed told seen before noted missing session
    → session.cpu.slots.live.steps < 1152921504606846976
follows_fits {rules = rules} {here = here} budget items s =
    let now : Path = s.now in
    let same_budget : here.limits.budget ≡ rules.limits.budget = ap (λ (r : Rules). r.limits.budget) s.here_is in
    let same_items : here.bounds.max_items ≡ rules.bounds.max_items = ap (λ (r : Rules). r.bounds.max_items) s.here_is in
    let most = s.follows.stands.goes.few in
    let few : now.state.machine.taken ≤ MAX_ITEMS = omega (arith, most, items, same_items) in
    let product : now.state.machine.taken * (rules.limits.budget + 1) < 2 ^ 57 = few_in_all now.state.machine.taken rules.limits.budget few (omega (arith, budget, same_budget)) in
    let live = ap (λ (t : Standing). t.steps) s.follows.stands.goes.guest in
    let since = s.follows.stands.goes.bounded.since in
    let steps = s.follows.stands.goes.bounded.steps in
    omega (arith, live, since, steps, product, budget, same_budget)
