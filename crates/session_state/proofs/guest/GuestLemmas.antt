-- What an event of the guest makes of a session.
use Rattle.session_history.specs.declared.ends.Stop.TheVariants as stop
use Rattle.item_log.specs.Log as logs
use Rattle.item_log.proofs.Shown.{shown_items}
use Rattle.session_history.specs.declared.ends.SessionBreak.TheVariants as session_break
use Rattle.session_history.specs.declared.ends.SessionEnd.TheVariants as session_end
use Rattle.guest_cpu.specs.declared.event.Event.TheVariants as event
use Rattle.session_state.proofs.Terms.{List, None, Ok, [], ap, append-nil, arith, drop, inl, inr, length, length-append, map, refl, subst, sym, take, true, ℕ, ◌++◌, ◌+◌, ◌<◌, ◌∙◌, ◌∷◌, ◌≡◌, ◌≤◌, drop-append-le, take-append-le, ◌≢◌, Send, Entry, LinkEvent, grew_nothing, Grew, Phases, Tells, Told, Seen, Choice, items_of, Log, Ledger, Image, Cause, AsksFor, Path, Served, live_of, GoesOn, IsSilent, standing_of, Standing, RunsWriting, Writes, SessionBreak, SessionEnd, serving_account, EndsBy, HandedLast, StandsAt, Bounds, events_of, items_in, received, KeepsItems, KeepsReplies, Rules, gone_on, is_open, IsPassed, Stands, starting_path, Episode, Noted, OneEpisode, failed_with, steps_later, episode_of, HasHandled, Keeping, stands_of, steps_of, TellsMore, SessionState, AllAnswered, AreAllTables, FailsAtChoices, GivesUpBy, HasNoted, IsNoteFault, RanOn, spent, HoldsCheckpoints, IsAtRequest, IsReadFault, keeping_of, AnswersFor, EndsWithin, GoesWith, HasMissed, HasNotedMore, HasPassed, HasPassedDue, HasUnanswered, IsBetween, IsBrokenOff, IsEnding, IsFailing, IsGoing, IsLatestBefore, IsLatestDone, IsTold, IsWaitingFor, KeepsCheckpoints, Since, Story, entries, moment, unwatched, IsCounted}
use Rattle.session_state.proofs.guest.NoteLemmas.{grew_same}
use Rattle.session_state.proofs.standing.StoryLemmas.{on_story, told_on, account_of, journal_of_story, moves_none}
use Rattle.session_state.proofs.recovering.TableLemmas.{told_unwatched, tables_here}
use Rattle.session_state.proofs.standing.CheckpointLemmas.{HasSameSide, past_on, saved_on}
use Rattle.session_state.proofs.standing.HeldLemmas.{held_of, requests_on, rings_held, unless_gave_up}
use Rattle.recovery.proofs.Running.{may_send_by}

-- without trials nothing was counted for them
pub none_lost : {lost : ℕ} → lost ≡ lost + steps_of []
none_lost = let none : steps_of [] ≡ 0 = refl in omega (arith, none)

-- a log received as many items as its journal has
pub received_is : {bounds : Bounds} {entries : List Entry} {log : Log} → KeepsItems bounds entries log → logs.received log ≡ received bounds entries
received_is {bounds = bounds} {entries = entries} {log = log} keeps = (shown_items bounds.framing (events_of bounds entries) log keeps.shows).0 ∙ ap (λ (events : List LinkEvent). length (items_of bounds.framing events)) (sym keeps.all_heeded)

-- what is recorded of a run's answers of the allocator stays recorded where it uses more
module _ {X : Type 0} where
  answers_low : (before : List X) {after : List X} (more : List X) {now was : ℕ} → now ≡ was → after ≡ before ++ more → was ≤ length before → now ≤ length after
  answers_low before more same goes low = let long = ap length goes ∙ length-append before more in omega (arith, same, long, low)

  answers_front : (before : List X) {after : List X} (more : List X) {now was : ℕ} → now ≡ was → after ≡ before ++ more → was ≤ length before → take now after ≡ take was before
  answers_front before {after = after} more {was = was} same goes low = ap (λ n. take n after) same ∙ (ap (take was) goes ∙ take-append-le was before more low)

  answers_behind : (before : List X) {after : List X} (more : List X) {now was : ℕ} → now ≡ was → after ≡ before ++ more → was ≤ length before → drop was before ++ more ≡ drop now after
  answers_behind before {after = after} more {was = was} same goes low = sym (drop-append-le was before more low) ∙ (sym (ap (drop was) goes) ∙ sym (ap (λ n. drop n after) same))

  pub none_more : {xs ys : List X} → xs ≡ ys → xs ≡ ys ++ []
  none_more {ys = ys} same = same ∙ sym (append-nil ys)

pub none_used : {first second : Path} → IsSilent first second → second.choices ≡ first.choices ++ []
none_used {first = first} silent = silent.choices ∙ sym (append-nil first.choices)

pub none_noted : {noted : Noted} → HasNotedMore noted noted [] []
none_noted {noted = noted} = record { choices_more = grew_nothing noted.choices; episodes_more = grew_nothing noted.episodes; unnoted_same = refl }

-- the survivor takes no item: it is still in the received ones
pub still_received : {rules : Rules} {image : Image} {began : Since} {now : Told} {story : Story} (to : Path) → IsTold rules image began now story → to.state.machine.taken ≡ story.survivor.now.state.machine.taken
    → to.state.machine.taken ≤ received rules.bounds (entries story)
still_received {rules = rules} {story = story} to told same = subst (λ taken. taken ≤ received rules.bounds (entries story)) (sym same) told.serving.carries.taken

-- a survivor that sent nothing has passed what it had
pub has_passed : {rules : Rules} {story : Story} {old new : Ledger} {to : Path} → HasPassed rules story old → new ≡ old → to.state.sends ≡ story.survivor.now.state.sends → HasPassed rules (on_story story to) new
has_passed {rules = rules} {story = story} {old = old} {to = to} passed same none = record {
  replies = subst (λ (ledger : Ledger). KeepsReplies rules.bounds (entries story) None to.state.sends ledger) (sym same) (subst (λ all. KeepsReplies rules.bounds (entries story) None all old) (sym none) passed.replies);
  no_trial = ap (λ (ledger : Ledger). ledger.trial) same ∙ passed.no_trial;
  done = subst (λ all. IsLatestDone rules (moment story) all) (sym none) passed.done;
}

-- what was due is passed still, where the survivor sent nothing and took no item
pub due_still : (rules : Rules) (story : Story) (to : Path) → to.state.sends ≡ story.survivor.now.state.sends → to.state.machine.taken ≡ story.survivor.now.state.machine.taken → HasPassedDue rules story → HasPassedDue rules (on_story story to)
due_still rules story to none same due =
    subst
    (λ (all : List Send). (send : Send) (stands : Stands all send) → is_open rules.bounds (entries story) send.conn ≡ true → send.taken + rules.hold ≤ to.state.machine.taken → IsPassed rules.bounds (entries story) all send stands)
    (sym none) (λ send stands still early. due send stands still (subst (λ n. send.taken + rules.hold ≤ n) same early))

-- a session that was broken off, and that answers for all that was counted
pub all_answered : {rules : Rules} {image : Image} {keeping : Keeping} {story : Story} {lost : ℕ} → (starting_path rules image).steps + spent story.recoveries ≡ lost + story.survivor.begun.steps
    → HasUnanswered rules image keeping (record { account = account_of story; recoveries = story.recoveries; walk = None }) lost
all_answered counts = record { rest = AllAnswered; is = tt; counted = let none : steps_of [] ≡ 0 = refl in omega (arith, none, counts) }

module _ {R : Type 0} where
  -- so are the replies
  pub record HasSameParts (old new : SessionState R) : Type 0 where
    pub side : HasSameSide old new
    pub replies : new.replies ≡ old.replies

  -- it answers for the same run
  pub answers_as : {began : Since} {story : Story} {old new : SessionState R} → new.recorded ≡ old.recorded → new.choices ≡ old.choices → new.taken ≡ old.taken → new.steps ≡ old.steps → AnswersFor began story old → AnswersFor began story new
  answers_as {began = began} {story = story} recorded choices taken steps answers = record {
    low = subst (λ n. n ≤ length story.survivor.now.choices) (sym recorded) answers.low;
    recorded = subst (λ n. Grew began.noted_before.choices began.noted.choices (take n story.survivor.now.choices)) (sym recorded) answers.recorded;
    choices = choices ∙ (answers.choices ∙ ap (λ n. drop n story.survivor.now.choices) (sym recorded));
    unnoted = answers.unnoted;
    taken = taken ∙ answers.taken;
    steps = steps ∙ answers.steps;
  }

  -- it answers for a run that its guest is, and that used these answers of the allocator more
  pub answers_for : {began : Since} {story : Story} {old session : SessionState R} {to : Path} (more : List Choice) → AnswersFor began story old → session.recorded ≡ old.recorded → to.choices ≡ story.survivor.now.choices ++ more
      → session.choices ≡ old.choices ++ more → IsCounted session → session.cpu.slots.live ≡ standing_of to → AnswersFor began (on_story story to) session
  answers_for {began = began} {story = story} more answers recorded goes chosen counted stands = record {
    low = answers_low story.survivor.now.choices more recorded goes answers.low;
    recorded = subst (Grew began.noted_before.choices began.noted.choices) (sym (answers_front story.survivor.now.choices more recorded goes answers.low)) answers.recorded;
    choices = chosen ∙ (ap (λ cs. cs ++ more) answers.choices ∙ answers_behind story.survivor.now.choices more recorded goes answers.low);
    unnoted = answers.unnoted;
    taken = counted.taken ∙ ap (λ (s : Standing). s.guest.machine.taken) stands;
    steps = counted.steps ∙ ap (λ (s : Standing). s.steps) stands;
  }

  -- a guest that went on is the survivor that goes on
  pub goes_with : {rules : Rules} {story : Story} {old new : SessionState R} {phases : Phases} {to : Path} → GoesWith rules story old phases → new.log ≡ old.log → new.events ≡ old.events
      → GoesOn rules.limits (items_in rules.bounds (entries story)) story.survivor.plan story.survivor.now to → to.state.ended ≡ None → new.cpu.slots.live ≡ standing_of to → GoesWith rules (on_story story to) new phases
  goes_with {rules = rules} {story = story} {to = to} with log events goes lives guest = record {
    lives = lives;
    guest = guest;
    bounded = goes.bounded lives with.bounded;
    few = subst (λ taken. taken ≤ rules.bounds.max_items) (sym goes.taken) with.few;
    within = λ conn may. with.within conn (may_send_by story.survivor.now.state.machine to.state.machine conn goes.connections may);
    items = subst (KeepsItems rules.bounds (entries story)) (sym log) with.items;
    events = events ∙ with.events;
    phases_are = with.phases_are;
  }

  -- another session whose guest stands there too
  pub goes_kept : {rules : Rules} {story : Story} {old new : SessionState R} {phases : Phases} → new.cpu.slots.live ≡ old.cpu.slots.live → KeepsItems rules.bounds (entries story) new.log → new.events ≡ old.events → GoesWith rules story old phases → GoesWith rules story new phases
  goes_kept live items events goes =
      record { lives = goes.lives; guest = live ∙ goes.guest; bounded = goes.bounded; few = goes.few; within = goes.within; items = items; events = events ∙ goes.events; phases_are = goes.phases_are }

  -- so it waits, where it knows all else of that story
  pub waits_as : {rules : Rules} {image : Image} {began to : Since} {seen : Seen} {old new : SessionState R} (w : IsWaitingFor rules image began seen old) → IsTold rules image to seen.told w.hearing.story → AnswersFor to w.hearing.story new
      → GoesWith rules w.hearing.story new seen.phases → KeepsCheckpoints rules image w.hearing.story new → EndsWithin rules.limits new.until w.hearing.story.survivor.now → HasPassed rules w.hearing.story new.replies → IsWaitingFor rules image to seen new
  waits_as w told answers goes saved past passed =
      record { hearing = record { story = w.hearing.story; told = told; answers = answers; goes = goes; saved = saved; past = past; passed = passed; asks = w.hearing.asks; latest = w.hearing.latest }; due = w.due }

  -- where the survivor goes on, used these answers of the allocator and sent nothing, the session goes on
  pub going_on : {rules : Rules} {image : Image} {began : Since} {seen : Seen} {old new : SessionState R} (g : IsGoing rules image began seen old) {to : Path} (more : List Choice) → HasPassedDue rules g.story → HasSameParts old new
      → to.choices ≡ g.story.survivor.now.choices ++ more → new.choices ≡ old.choices ++ more → IsCounted new
      → GoesOn rules.limits (items_in rules.bounds (entries g.story)) g.story.survivor.plan g.story.survivor.now to → Writes rules.limits (items_in rules.bounds (entries g.story)) old.cpu.base g.story.survivor.now old.cpu.written to new.cpu.written
      → to.state.ended ≡ None → new.cpu.slots.live ≡ standing_of to → to.state.sends ≡ g.story.survivor.now.state.sends → IsGoing rules image began seen new
  going_on {rules = rules} g {to = to} more due same used chosen counted goes wrote lives stands none =
      record {
        story = on_story g.story to;
        told = told_on g.told due g.passed.done goes.served (moves_none g.story.survivor.now to goes.taken none) (still_received to g.told goes.taken);
        answers = answers_for more g.answers same.side.recorded used chosen counted stands;
        goes = goes_with g.goes same.side.log same.side.events goes lives stands;
        saved =
            saved_on same.side (ap (λ (ledger : Ledger). ledger.first) same.replies) goes.served wrote (let still = goes.taken in omega (arith, still))
            (requests_on goes.served goes.taken g.saved.requests) g.saved;
        past = past_on goes.served (let still = goes.taken in omega (arith, still)) same.side.until g.past;
        passed = has_passed g.passed same.replies none;
        latest = subst (IsLatestBefore rules (moment g.story)) (sym goes.taken) g.latest;
      }

  -- an ask was answered
  pub chooses_between : {rules : Rules} {image : Image} {began : Since} {seen : Seen} {choice : Choice} {old new : SessionState R} (b : IsBetween rules image began seen old) → HasSameParts old new → new.choices ≡ old.choices ++ choice ∷ []
      → IsCounted new → RunsWriting rules.limits (items_in rules.bounds (entries b.going.story)) b.going.story.survivor.plan old.cpu.base b.going.story.survivor.now old.cpu.written (Ok (event.Chooses choice)) (live_of new.cpu) → IsBetween rules image began seen new
  unfolding going_on
  chooses_between {rules = rules} {choice = choice} b same chosen counted writing =
      let runs = writing.ran in
      let comes = runs.comes in
      record {
        going =
            going_on b.going (choice ∷ []) b.due same comes.0 chosen counted runs.goes writing.wrote comes.2 (sym runs.stands) comes.1;
        due = due_still rules b.going.story runs.now comes.1 runs.goes.taken b.due;
      }

  -- it waits for an item
  pub asks_waits : {rules : Rules} {image : Image} {began : Since} {seen : Seen} {old new : SessionState R} (b : IsBetween rules image began seen old) → HasSameParts old new → new.choices ≡ old.choices → IsCounted new
      → RunsWriting rules.limits (items_in rules.bounds (entries b.going.story)) b.going.story.survivor.plan old.cpu.base b.going.story.survivor.now old.cpu.written (Ok event.Asks) (live_of new.cpu) → IsWaitingFor rules image began seen new
  unfolding going_on
  asks_waits {rules = rules} b same chosen counted writing =
      let runs = writing.ran in
      let story : Story = b.going.story in
      let to : Path = runs.now in
      let asks : AsksFor rules.limits story.survivor.plan to story.survivor.now.state.machine.taken = runs.comes.1 in
      let silent : IsSilent story.survivor.now to = runs.comes.0 in
      let going = going_on b.going [] b.due same (none_used silent) (none_more chosen) counted runs.goes writing.wrote asks.lives (sym runs.stands) silent.sends in
      record {
        hearing = record {
          story = going.story;
          told = going.told;
          answers = going.answers;
          goes = going.goes;
          saved = going.saved;
          past = going.past;
          passed = going.passed;
          asks = subst (AsksFor rules.limits story.survivor.plan to) (sym runs.goes.taken) asks;
          latest = λ last is. let before = going.latest last is in omega (arith, before);
        };
        due = due_still rules story to silent.sends runs.goes.taken b.due;
      }

  -- a session whose survivor has come to an end, and sent nothing on the way
  comes_ending : {rules : Rules} {image : Image} {began : Since} {seen : Seen} {old new : SessionState R} (g : IsGoing rules image began seen old) {to : Path} {end : SessionEnd} → HasPassedDue rules g.story → HasSameParts old new
      → new.choices ≡ old.choices → IsCounted new → GoesOn rules.limits (items_in rules.bounds (entries g.story)) g.story.survivor.plan g.story.survivor.now to
      → Writes rules.limits (items_in rules.bounds (entries g.story)) old.cpu.base g.story.survivor.now old.cpu.written to new.cpu.written → IsSilent g.story.survivor.now to → new.cpu.slots.live ≡ standing_of to
      → StandsAt rules (entries g.story) seen.coming (gone_on g.story.survivor to) end → GivesUpBy None end
      → (IsAtRequest end → HasHandled rules image (keeping_of new) g.story.earlier (entries g.story) g.story.recoveries (gone_on g.story.survivor to) (to.state.machine.taken + 1) (stands_of new.cpu.slots.saved)) → IsEnding rules image began seen new end
  comes_ending {rules = rules} {image = image} {began = began} {new = new} g {to = to} {end = end} due same chosen counted goes wrote silent stands cause gave_up at_request =
      let passed = has_passed {to = to} g.passed same.replies silent.sends in
      record {
        story = on_story g.story to;
        walk = None;
        lost = began.lost;
        lost_is = none_lost;
        told = told_unwatched (told_on g.told due g.passed.done goes.served (moves_none g.story.survivor.now to goes.taken silent.sends) (still_received to g.told goes.taken));
        tables = tables_here rules (on_story g.story to) (stop.Ends end) began.tables_before began.tables g.told.tables;
        noted = began.noted;
        last_noted = none_noted;
        answers = answers_for [] g.answers same.side.recorded (none_used silent) (none_more chosen) counted stands;
        received_are = ap (λ (log : Log). logs.received log) same.side.log ∙ received_is g.goes.items;
        replies = passed.replies;
        no_trial = passed.no_trial;
        closed = λ send stands closing owed. passed.done send stands owed;
        holds = held_of (saved_on same.side (ap (λ (ledger : Ledger). ledger.first) same.replies) goes.served wrote (let still = goes.taken in omega (arith, still))
            (requests_on goes.served goes.taken g.saved.requests) g.saved);
        handled = at_request;
        live = unless_gave_up end (new.cpu.slots.live ≡ standing_of to) stands;
        stands = cause;
        walked = tt;
        gave_up = gave_up;
      }

  -- it ended itself
  pub exits_ending : {rules : Rules} {image : Image} {began : Since} {seen : Seen} {code : ℕ} {old new : SessionState R} (b : IsBetween rules image began seen old) → HasSameParts old new → new.choices ≡ old.choices
      → IsCounted new → RunsWriting rules.limits (items_in rules.bounds (entries b.going.story)) b.going.story.survivor.plan old.cpu.base b.going.story.survivor.now old.cpu.written (Ok (event.Exits code)) (live_of new.cpu)
      → IsEnding rules image began seen new (session_end.Exited code)
  exits_ending b same chosen counted writing =
      let runs = writing.ran in
      comes_ending b.going b.due same chosen counted runs.goes writing.wrote runs.comes.0 (sym runs.stands) runs.comes.1 tt (λ is. absurd is)

  -- it fails at its next instruction
  pub fails_failing : {rules : Rules} {image : Image} {began : Since} {seen : Seen} {cause : Cause} {old new : SessionState R} (b : IsBetween rules image began seen old) → HasSameParts old new → new.choices ≡ old.choices → IsCounted new
      → RunsWriting rules.limits (items_in rules.bounds (entries b.going.story)) b.going.story.survivor.plan old.cpu.base b.going.story.survivor.now old.cpu.written (Ok (event.Failed cause)) (live_of new.cpu) → IsFailing rules image began seen cause new
  unfolding going_on
  fails_failing {rules = rules} b same chosen counted writing =
      let runs = writing.ran in
      let silent : IsSilent b.going.story.survivor.now runs.now = runs.comes.0 in
      record {
        going = going_on b.going [] b.due same (none_used silent) (none_more chosen) counted runs.goes writing.wrote runs.comes.1.lives (sym runs.stands) silent.sends;
        due = due_still rules b.going.story runs.now silent.sends runs.goes.taken b.due;
        fails = runs.comes.1;
      }

  -- what is noted of a session that stands so, and that no call of its notes broke off: all of these episodes
  abbrev pub notes_here : {began : Since} {story : Story} {session : SessionState R} {why : SessionBreak} (told : List Episode) {all : List Episode} → Grew began.noted_before.episodes began.noted.episodes told → AnswersFor began story session
      → all ≡ told ++ [] → HasNoted began.noted_before began.noted (stop.Breaks why) story.survivor.now.choices all session.recorded session.choices
  notes_here told grew answers all = record {
    low = answers.low;
    tail_is = answers.choices;
    all_recorded = tt;
    choices_noted = answers.recorded;
    told = told;
    missing = [];
    all_told = sym all;
    handed = inl (answers.unnoted, refl);
    episodes_noted = grew;
  }

  -- so it is where noting answers of the allocator failed
  abbrev pub notes_unhanded : {began : Since} {now : Noted} {story : Story} {session : SessionState R} {why : SessionBreak} {all : List Episode} → Grew began.noted_before.episodes began.noted.episodes all → AnswersFor began story session
      → IsNoteFault why → now.choices ≡ began.noted.choices → now.episodes ≡ began.noted.episodes → FailsAtChoices began.noted.unnoted now.unnoted session.choices
      → HasNoted began.noted_before now (stop.Breaks why) story.survivor.now.choices all session.recorded session.choices
  notes_unhanded {began = began} {now = now} {story = story} {session = session} {all = all} grew answers note choices episodes fails = record {
    low = answers.low;
    tail_is = answers.choices;
    all_recorded = tt;
    choices_noted = grew_same began.noted_before.choices (take session.recorded story.survivor.now.choices) answers.recorded choices;
    told = all;
    missing = [];
    all_told = append-nil all;
    handed = inr (note, inl (subst (λ u. FailsAtChoices u now.unnoted session.choices) answers.unnoted fails, refl));
    episodes_noted = grew_same began.noted_before.episodes all grew episodes;
  }

  -- and where noting the last episode failed
  abbrev pub notes_missed : {began : Since} {now : Noted} {story : Story} {session : SessionState R} {why : SessionBreak} (told : List Episode) (episode : Episode) {all : List Episode} → Grew began.noted_before.episodes began.noted.episodes told → AnswersFor began story session
      → all ≡ told ++ episode ∷ [] → IsNoteFault why → HasMissed began.noted now episode → HasNoted began.noted_before now (stop.Breaks why) story.survivor.now.choices all session.recorded session.choices
  notes_missed {began = began} {story = story} {session = session} told episode grew answers all note missed = record {
    low = answers.low;
    tail_is = answers.choices;
    all_recorded = tt;
    choices_noted = grew_same began.noted_before.choices (take session.recorded story.survivor.now.choices) answers.recorded missed.choices_same;
    told = told;
    missing = episode ∷ [];
    all_told = sym all;
    handed = inr (note, inr (record { episode = episode; only = refl; handed = missed.handed ∙ ap (λ u. failed_with u (OneEpisode episode)) answers.unnoted }));
    episodes_noted = grew_same began.noted_before.episodes told grew missed.episodes_same;
  }

-- a session that is broken off where it stood
module _ {R : Type 0} {rules : Rules} {image : Image} {began : Since} {seen : Seen} {session : SessionState R} {story : Story} {why : SessionBreak} (ends : EndsBy rules (account_of story) (stop.Breaks why)) (handed : HandedLast rules (account_of story) seen why)
    (held : HoldsCheckpoints rules image story.earlier (entries story) story.recoveries story.survivor session)
    (at_request : IsReadFault why → HasHandled rules image (keeping_of session) story.earlier (entries story) story.recoveries story.survivor (story.survivor.now.state.machine.taken + 1) (stands_of session.cpu.slots.saved)) where
  -- It has noted so much. What its story was told beside that may be told otherwise. At want of memory more may be counted, for which it doesn't answer.
  abbrev pub broken_counting : {before noted : Noted} {earlier : ℕ} → IsTold rules image (unwatched (record began { noted_before = before; noted = noted; lost = earlier })) seen.told story → (why ≢ session_break.Memory → earlier ≡ began.lost)
      → (why ≡ session_break.Memory → HasUnanswered rules image (keeping_of session) (record { account = account_of story; recoveries = story.recoveries; walk = None }) began.lost)
      → TellsMore began.tables_before began.tables (AreAllTables rules story None (stop.Breaks why))
      → (notes : HasNoted began.noted_before began.noted (stop.Breaks why) story.survivor.now.choices (map episode_of story.recoveries) session.recorded session.choices) → (0 < length notes.missing → story.since ≡ []) → session.taken ≡ story.survivor.now.state.machine.taken → session.steps ≡ story.survivor.now.steps
      → IsBrokenOff rules image began seen session why
  broken_counting told same unanswered tables notes unnoted taken steps = record {
    telling = record { account = account_of story; recoveries = story.recoveries; walk = None };
    is = record {
      ended = record { account = serving_account rules image story.earlier story.survivor story.since None told.serving; comes = tt; pieces = tt; ends = ends };
      recovered = told.recovered;
      ringed = rings_held held;
      walked = tt;
      gave_up = tt;
    };
    none_came = refl;
    tells = subst (Tells began.told seen.told) (sym (journal_of_story story)) told.tells;
    handed = handed;
    holds = held;
    handled = at_request;
    notes = record {
      low = notes.low;
      tail_is = notes.tail_is;
      all_recorded = notes.all_recorded;
      choices_noted = notes.choices_noted;
      told = notes.told;
      missing = notes.missing;
      all_told = notes.all_told ∙ sym (append-nil (map episode_of story.recoveries));
      handed = notes.handed;
      episodes_noted = notes.episodes_noted;
    };
    unnoted = λ some. ((refl, refl, refl), unnoted some);
    tables = tables;
    taken = taken;
    steps = steps;
    counted = λ others. let none : steps_of [] ≡ 0 = refl in let counts = told.counted in omega (arith, none, counts, same others);
    unanswered = unanswered;
    later = steps_later rules.limits (items_in rules.bounds (entries story)) story.survivor.plan story.survivor.begun story.survivor.now told.way;
  }

  abbrev pub broken_noting : {before noted : Noted} → IsTold rules image (unwatched (record began { noted_before = before; noted = noted })) seen.told story → TellsMore began.tables_before began.tables (AreAllTables rules story None (stop.Breaks why))
      → (notes : HasNoted began.noted_before began.noted (stop.Breaks why) story.survivor.now.choices (map episode_of story.recoveries) session.recorded session.choices) → (0 < length notes.missing → story.since ≡ []) → session.taken ≡ story.survivor.now.state.machine.taken → session.steps ≡ story.survivor.now.steps
      → IsBrokenOff rules image began seen session why
  broken_noting {before = before} {noted = noted} told = broken_counting {before = before} {noted = noted} {earlier = began.lost} told (λ others. refl) (λ memory. all_answered {story = story} told.counted)

  abbrev pub broken_off : IsTold rules image began seen.told story → AnswersFor began story session → IsBrokenOff rules image began seen session why
  broken_off told answers =
      broken_noting {before = began.noted_before} {noted = began.noted} (told_unwatched told) (tables_here rules story (stop.Breaks why) began.tables_before began.tables told.tables)
      (notes_here (map episode_of story.recoveries) told.episodes answers (sym (append-nil (map episode_of story.recoveries)))) (λ some. absurd (omega (arith, some))) answers.taken answers.steps

module _ {R : Type 0} where
  -- memory ran out behind a run of its survivor, for which it doesn't answer
  pub broken_running : {rules : Rules} {image : Image} {began : Since} {seen : Seen} {session : SessionState R} {story : Story} {lost : ℕ} (to : Path) → IsTold rules image began seen.told story → AnswersFor began story session
      → HoldsCheckpoints rules image story.earlier (entries story) story.recoveries story.survivor session → Served rules.limits (items_in rules.bounds (entries story)) story.survivor.plan story.survivor.now to
      → story.survivor.now.steps ≤ to.steps → lost + story.survivor.now.steps ≡ began.lost + to.steps → IsBrokenOff rules image (record began { lost = lost }) seen session session_break.Memory
  broken_running {rules = rules} {began = began} {story = story} {lost = lost} to told answers held served later counts =
      broken_counting {began = record began { lost = lost }} {why = session_break.Memory} tt (λ some. absurd (some refl)) held (λ is. absurd is) {before = began.noted_before} {noted = began.noted} {earlier = began.lost} (told_unwatched told) (λ others. absurd (others refl))
      (λ memory. record { rest = RanOn to; is = served; counted = let none : steps_of [] ≡ 0 = refl in let all = told.counted in omega (arith, none, all, later, counts) })
      (tables_here rules story (stop.Breaks session_break.Memory) began.tables_before began.tables told.tables)
      (notes_here {began = began} (map episode_of story.recoveries) told.episodes answers (sym (append-nil (map episode_of story.recoveries)))) (λ some. absurd (omega (arith, some))) answers.taken answers.steps
