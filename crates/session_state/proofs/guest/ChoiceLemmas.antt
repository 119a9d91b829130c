-- What no trial needs any more is noted and given up, while the guest waits for an item.
use Rattle.recovery.specs.Forgetting.{CanForget, Forgets}
use Rattle.session_history.specs.declared.ends.Stop.TheVariants as stop
use Rattle.run_history.proofs.Repeats.{repeated_keeps}
use Rattle.session_state.proofs.Lemmas.{held_of, note_at_none, account_of, still_takes, answers_as, broken_noting, goes_kept, notes_unhanded, received_is, waits_as, taken_all, tables_here, told_unwatched, note_ends, note_handed}
use Rattle.session_state.proofs.Terms.{Bool, Err, List, None, Option, Some, ap, arith, cond, drop, false, length, length-append, length-drop, map, refl, subst, sym, take, true, ℕ, ◌+◌, ◌-◌, ◌∙◌, ◌≡◌, ◌≤◌, take-add, drop-drop, none-some, same_Some, is_some, option_map, slice_get, Item, grew_more, Grew, Seen, Choice, Log, Ledger, Image, State, after, Grant, Limits, Override, Path, Served, env_at, grant, guest_of, listed, longer, origin, planned_next, served_next, serves, SessionBreak, SessionEnd, Rules, Noted, Shown, noted, episode_of, can_forget, AreBehind, SessionState, FailsAtChoices, IsNoteFault, IsEnding, IsWaitingFor, Since, entries, WaitsBy}

-- a run used no more answers of the allocator than it has instructions
record IsFew (first second : Path) : Type 0 where
  few : length second.choices + first.steps ≤ length first.choices + second.steps

listed_one : (chosen : Option Choice) → length (listed chosen) ≤ 1
listed_one None = omega arith
listed_one (Some choice) = omega arith

few_one : (limits : Limits) (items : List Item) (plan : List Override) (first second : Path) → planned_next limits items plan first ≡ Some second → IsFew first second
unfolding served_next
few_one limits items plan first second goes = of (is_some first.state.ended) goes
  where
    grown : (granted : Option Grant) (state : State) → longer first granted state ≡ second → IsFew first second
    grown None state is = record { few = let steps : first.steps + 1 ≡ second.steps = ap (λ (p : Path). p.steps) is in let choices : length first.choices ≡ length second.choices = ap (λ (p : Path). length p.choices) is in omega (arith, steps, choices) }
    grown (Some granted) state is =
        let steps : first.steps + 1 ≡ second.steps = ap (λ (p : Path). p.steps) is in
        record { few = omega (arith, steps, ap (λ (p : Path). length p.choices) is, length-append first.choices (listed granted.chosen), listed_one granted.chosen) }

    of_next : (granted : Option Grant) (state : Option State) → option_map (longer first granted) state ≡ Some second → IsFew first second
    of_next granted None is = absurd (none-some second is)
    of_next granted (Some state) is = grown granted state (same_Some (longer first granted state) second is)

    of : (ended : Bool) → cond ended None (option_map (longer first (grant (env_at limits.base plan first.state.machine.taken) (guest_of first))) (after first.state (serves limits (env_at limits.base plan first.state.machine.taken) (slice_get items first.state.machine.taken) (guest_of first)))) ≡ Some second
        → IsFew first second
    of true is = absurd (none-some second is)
    of false is = of_next (grant (env_at limits.base plan first.state.machine.taken) (guest_of first)) (after first.state (serves limits (env_at limits.base plan first.state.machine.taken) (slice_get items first.state.machine.taken) (guest_of first))) is

pub few_choices : {limits : Limits} {items : List Item} {plan : List Override} (image : Image) {path : Path} → Served limits items plan (origin image) path → length path.choices ≤ path.steps
few_choices {limits = limits} {items = items} {plan = plan} image {path = path} served =
    let all : IsFew (origin image) path =
    repeated_keeps (planned_next limits items plan) IsFew (λ x. record { few = omega arith }) (λ x y z first second. record { few = let one = first.few in let other = second.few in omega (arith, one, other) }) (few_one limits items plan) served.more (origin image) path
    served.ran in
    let none : length (origin image).choices ≡ 0 = refl in
    let start : (origin image).steps ≡ 0 = refl in
    omega (arith, all.few, none, start)

module _ {R : Type 0} where
  -- noting failed
  pub waits_unnoted : {rules : Rules} {image : Image} (began : Since) (shown now : Shown) {seen : Seen} {session : SessionState R} {why : SessionBreak} → IsWaitingFor rules image (record began { noted = shown.told }) seen session → seen.takes ≡ true
      → IsNoteFault why → now.told.choices ≡ shown.told.choices → now.told.episodes ≡ shown.told.episodes → FailsAtChoices shown.told.unnoted now.told.unnoted session.choices
      → WaitsBy rules image (record began { noted = now.told }) seen session (Err (stop.Breaks why))
  waits_unnoted {rules = rules} began shown now {session = session} {why = why} w takes note choices episodes fails =
      let h = w.hearing in (
        broken_noting {began = record began { noted = now.told }} (note_ends rules (account_of h.story) why note) (note_handed rules (account_of h.story) _ why refl note) (held_of h.saved) (λ is. absurd (note_at_none why note is))
            {before = began.noted_before} {noted = shown.told} (told_unwatched h.told) (tables_here rules h.story (stop.Breaks why) began.tables_before began.tables h.told.tables)
            (notes_unhanded {began = record began { noted = shown.told }} h.told.episodes h.answers note choices episodes fails) (λ some. absurd (omega (arith, some))) h.answers.taken h.answers.steps,
        λ none. still_takes _ takes none,
      )

  -- the answers of the allocator up to a number are noted
  pub waits_noted : {rules : Rules} {image : Image} (began : Since) (before now : Noted) {seen : Seen} {old : SessionState R} {safe : ℕ} {left : List Choice}
      (w : IsWaitingFor rules image (record began { noted = before }) seen old) → AreBehind safe w.hearing.saved.paths → safe ≤ length w.hearing.story.survivor.now.choices → old.recorded ≤ safe
      → Grew before.choices now.choices (take (safe - old.recorded) old.choices) → now.episodes ≡ before.episodes → now.unnoted ≡ before.unnoted → left ≡ drop (safe - old.recorded) old.choices
      → IsWaitingFor rules image (record began { noted = now }) seen (record old { recorded = safe; choices = left })
  waits_noted began before now {old = old} {safe = safe} w behind low more grew alike same rest =
      let h = w.hearing in
      let all : List Choice = h.story.survivor.now.choices in
      let count : old.recorded + (safe - old.recorded) ≡ safe = omega (arith, more) in
      let grown : Grew before.choices now.choices (take (safe - old.recorded) (drop old.recorded all)) = subst (λ (cs : List Choice). Grew before.choices now.choices (take (safe - old.recorded) cs)) h.answers.choices grew in
      waits_as w
      (record {
        serving = h.told.serving;
        way = h.told.way;
        tells = h.told.tells;
        counted = h.told.counted;
        recovered = h.told.recovered;
        episodes = subst (λ e. Grew began.noted_before.episodes e (map episode_of h.story.recoveries)) (sym alike) h.told.episodes;
        tables = h.told.tables;
      })
      (record {
        low = low;
        recorded =
            subst (Grew began.noted_before.choices now.choices) (sym (take-add old.recorded (safe - old.recorded) all) ∙ ap (λ n. take n all) count)
            (grew_more began.noted_before.choices before.choices now.choices (take old.recorded all) (take (safe - old.recorded) (drop old.recorded all)) h.answers.recorded grown);
        choices = rest ∙ ap (drop (safe - old.recorded)) h.answers.choices ∙ (drop-drop (safe - old.recorded) old.recorded all ∙ ap (λ n. drop n all) count);
        unnoted = same ∙ h.answers.unnoted;
        taken = h.answers.taken;
        steps = h.answers.steps;
      }) (goes_kept refl h.goes.items refl h.goes)
      (record { paths = h.saved.paths; ring = h.saved.ring; early = behind; requests = h.saved.requests; in_force = h.saved.in_force }) h.past h.passed

  -- how many are left to note
  pub waits_left : {rules : Rules} {image : Image} {began : Since} {seen : Seen} {session : SessionState R} {safe : ℕ} (w : IsWaitingFor rules image began seen session) → safe ≤ length w.hearing.story.survivor.now.choices
      → safe - session.recorded ≤ length session.choices
  waits_left {session = session} w low =
      let h = w.hearing in
      omega (arith, ap length h.answers.choices ∙ length-drop session.recorded h.story.survivor.now.choices, low)

  -- what is asked for before what no trial needs is given up
  pub waits_forgets : {rules : Rules} {image : Image} {began : Since} {seen : Seen} {session : SessionState R} → IsWaitingFor rules image began seen session → CanForget session.cpu session.log session.replies
  waits_forgets {rules = rules} {image = image} {session = session} w =
      let h = w.hearing in
      can_forget h.saved.ring h.passed.replies h.passed.no_trial (let taken = h.told.serving.carries.taken in let all = received_is h.goes.items in omega (arith, taken, all))

  -- and it waits on
  pub waits_forgot : {rules : Rules} {image : Image} {began : Since} {seen : Seen} {old : SessionState R} {log : Log} {replies : Ledger} (w : IsWaitingFor rules image began seen old)
      → Forgets rules image (entries w.hearing.story) w.hearing.story.survivor.plan w.hearing.story.survivor.now w.hearing.saved.paths old.cpu log replies → replies.trial ≡ None
      → IsWaitingFor rules image began seen (record old { log = log; replies = replies })
  waits_forgot w forgets none =
      let h = w.hearing in
      waits_as w h.told (answers_as refl refl refl refl h.answers) (goes_kept refl forgets.items refl h.goes)
      (record { paths = h.saved.paths; ring = forgets.ring; early = h.saved.early; requests = h.saved.requests; in_force = h.saved.in_force }) h.past (record { replies = forgets.replies; no_trial = none; done = h.passed.done })

  -- the number of all answers of the allocator at an end is one of 64 bits
  pub ending_few : {rules : Rules} {image : Image} {began : Since} {seen : Seen} {session : SessionState R} {end : SessionEnd} → IsEnding rules image began seen session end → session.recorded + length session.choices ≤ session.steps
  ending_few {image = image} {session = session} e =
      let all = few_choices image e.told.serving.carries.served in
      let count = taken_all session.recorded e.story.survivor.now.choices e.answers.choices e.answers.low in
      let steps = e.answers.steps in
      omega (arith, all, count, steps)

  -- where the notes told nothing when the session began, they may tell anything now
  pub waits_untold : {rules : Rules} {image : Image} {began : Since} {seen : Seen} {session : SessionState R} {told : Noted} → IsWaitingFor rules image began seen session
      → IsWaitingFor rules image (record began { noted_before = noted None None told.unnoted; noted = told }) seen session
  waits_untold {told = told} w =
      let h = w.hearing in
      waits_as w (record { serving = h.told.serving; way = h.told.way; tells = h.told.tells; counted = h.told.counted; recovered = h.told.recovered; episodes = tt; tables = h.told.tables })
      (record { low = h.answers.low; recorded = tt; choices = h.answers.choices; unnoted = refl; taken = h.answers.taken; steps = h.answers.steps }) h.goes h.saved h.past h.passed
