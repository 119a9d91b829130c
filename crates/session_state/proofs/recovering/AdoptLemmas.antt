-- What a failure makes of a session: it goes on as a trial, or gives up.
use Rattle.session_history.specs.declared.ends.Stop.TheVariants as stop
use Rattle.std.proofs.lemmas.List.Sums.{sum_by-append}
use Rattle.session_history.specs.declared.ends.SessionBreak.TheVariants as session_break
use Rattle.session_history.specs.declared.ends.SessionEnd.TheVariants as session_end
use Rattle.trials.specs.EpisodeLaws.{GoesOnAs}
use Rattle.trials.proofs.Recovered.{recovery_adopts}
use Rattle.recovery.specs.Walking.{HasBegun}
use Rattle.session_state.proofs.Lemmas.{held_by, held_of, note_at_none, rings_of, account_of, journal_of_story, owes_nothing, answers_as, broken_counting, broken_noting, none_lost, none_noted, notes_here, notes_missed, received_is, TellsOne, tables_given_up, tables_here, tables_memory, tables_then, told_unwatched, note_ends, note_handed}
use Rattle.session_state.proofs.Terms.{List, None, Option, Some, [], ap, append-nil, arith, drop, inl, inr, length, map, refl, subst, suc, sym, take, zero, ℕ, ◌++◌, ◌+◌, ◌-◌, ◌<◌, ◌^◌, ◌∙◌, ◌∷◌, ◌≡◌, ◌≤◌, ◌⊎◌, map-append, none-some, option_map, sum, MAX_ITEMS, Entry, grew_more, Grew, Tells, Told, Seen, Choice, Env, Log, Image, Cause, Fails, Wants, AsksFor, FailsBy, Limits, Override, Path, CpuState, Standing, SessionBreak, served_same, entries_of-then, serving_account, serving_adopts, events_of, heeded, items_in, KeepsItems, KeepsPhases, KeepsReplies, LeavesNothing, Rules, Survivor, entries_of, opens, first_survivor, Episode, Try, Noted, noted, asks_under_all, steps_later, recovered_then, AreChained, AreRecovered, IsRecovery, Recovery, adopted_by, episode_of, Trial, survivor_in, table, Recovered, Adopted, handled_adopts, has_ring, stands_up_to, ring_fails, HasHandled, HasRing, Keeping, keeping_by, stands_of, HasAdoptedRun, HasRecovery, HasToRecover, KeepsSlots, LeavesRun, LeavesSession, recovery_of, AreBehind, IsInForce, KeepsRing, Failure, Held, taken_in, steps_of, TellsMore, TellsTable, SessionState, held_in, AllAnswered, AreTables, HasGivenUp, IsNoteFault, TriedOn, Walk, spent, walk_behind, HoldsCheckpoints, keeping_of, AnswersFor, HasMissed, HasNotedMore, IsBrokenOff, IsEnding, IsFailing, IsGoing, IsTold, Since, Story, entries, unwatched, Adopting, AdoptsTo, end_of}

-- what was spent with one recovery more
spent_more : (recoveries : List Recovery) (recovery : Recovery) → spent (recoveries ++ recovery ∷ []) ≡ spent recoveries + ((recovery.survivor.now.steps - recovery.survivor.begun.steps) + steps_of recovery.trials)
spent_more recoveries recovery =
    let f : Recovery → ℕ = λ (r : Recovery). (r.survivor.now.steps - r.survivor.begun.steps) + steps_of r.trials in
    omega (arith, ap sum (map-append f recoveries (recovery ∷ [])) ∙ sum_by-append (λ x. x) (map f recoveries) (map f (recovery ∷ [])))

-- the story behind a recovery that adopted a trial
abbrev pub adopted_story : Rules → Story → Recovery → Trial → Story
adopted_story rules story recovery trial = record {
  earlier = story.earlier ++ record { survivor = story.survivor; entries = story.since } ∷ [];
  recoveries = story.recoveries ++ recovery ∷ [];
  survivor = adopted_by rules recovery trial;
  since = [];
}

-- it has the same entries
same_entries : (rules : Rules) (story : Story) (recovery : Recovery) (trial : Trial) → entries (adopted_story rules story recovery trial) ≡ entries story
same_entries rules story recovery trial =
    append-nil (entries_of (story.earlier ++ record { survivor = story.survivor; entries = story.since } ∷ []))
    ∙ entries_of-then story.earlier (record { survivor = story.survivor; entries = story.since })

-- it is told, where so many instructions were counted
told_adopted : {rules : Rules} {image : Image} {began : Since} {now : Told} {story : Story} {recovery : Recovery} {trial : Trial} {lost : ℕ} {noted : Noted} {tables : Option (List (List Try))} → IsTold rules image began now story → LeavesNothing rules (entries_of story.earlier) story.since story.survivor → recovery.survivor ≡ story.survivor → IsRecovery rules image (entries story) recovery
    → survivor_in recovery.trials ≡ Some trial → lost + trial.path.steps ≡ began.lost + story.survivor.now.steps + steps_of recovery.trials → Grew began.noted.episodes noted.episodes (episode_of recovery ∷ [])
    → TellsOne rules (entries story) recovery began.tables tables → IsTold rules image (record began { lost = lost; noted = noted; tables = tables }) now (adopted_story rules story recovery trial)
told_adopted {rules = rules} {image = image} {began = began} {now = now} {story = story} {recovery = recovery} {trial = trial} {noted = noted} {tables = tables} told leaves is was found counts grew one =
    let g : GoesOnAs rules image (entries story) recovery trial = recovery_adopts rules image (entries story) recovery trial was found in
    let early : trial.path.state.machine.taken ≤ story.survivor.now.state.machine.taken = subst (λ (s : Survivor). trial.path.state.machine.taken ≤ s.now.state.machine.taken) is g.early in
    let more : spent (story.recoveries ++ recovery ∷ []) ≡ spent story.recoveries + ((story.survivor.now.steps - story.survivor.begun.steps) + steps_of recovery.trials) =
    spent_more story.recoveries recovery ∙ ap (λ (s : Survivor). spent story.recoveries + ((s.now.steps - s.begun.steps) + steps_of recovery.trials)) is in
    let first = recovered_then rules image [] (first_survivor rules image) story.earlier story.recoveries recovery story.since trial
    (subst (λ (s : Survivor). AreRecovered rules image [] (first_survivor rules image) story.earlier story.recoveries s) (sym is) told.recovered) was found in
    record {
      serving =
          serving_adopts rules image story.earlier story.survivor story.since (adopted_by rules recovery trial).plan trial.path told.serving leaves g.ran (omega (arith, early, told.serving.carries.taken)) g.covers g.feasible;
      way = served_same rules.limits (items_in rules.bounds (entries (adopted_story rules story recovery trial))) (adopted_by rules recovery trial).plan trial.path;
      tells = subst (Tells began.told now) (sym (same_entries rules story recovery trial)) told.tells;
      counted = omega (arith, more, steps_later rules.limits (items_in rules.bounds (entries story)) story.survivor.plan story.survivor.begun story.survivor.now told.way, told.counted, counts);
      recovered =
          subst
          (λ (s : Survivor). AreRecovered rules image [] (first_survivor rules image) (story.earlier ++ record { survivor = s; entries = story.since } ∷ []) (story.recoveries ++ recovery ∷ []) (adopted_by rules recovery trial)) is first;
      episodes =
          subst (Grew began.noted_before.episodes noted.episodes) (sym (map-append episode_of story.recoveries (recovery ∷ [])))
          (grew_more began.noted_before.episodes began.noted.episodes noted.episodes (map episode_of story.recoveries) (episode_of recovery ∷ []) told.episodes grew);
      tables = tables_then rules story recovery began.tables_before began.tables tables told.tables one;
    }

-- a run that fails doesn't stand at its request
pub asks_or_fails : {limits : Limits} {plan : List Override} {path : Path} {cause : Cause} {item : ℕ} → AsksFor limits [] path item → FailsBy limits plan path cause → ⊥
asks_or_fails {limits = limits} {plan = plan} {path = path} {cause = cause} {item = item} asks fails =
    let never : Wants ≡ Fails cause = sym (asks_under_all limits [] plan path item asks).asks ∙ fails.fails in absurd (cc)

-- what was counted, by other words for the counts
pub counts_seen : (lost began : ℕ) {steps live old seen : ℕ} (before after : ℕ) → lost + steps + before ≡ began + old + after → steps ≡ live → old ≡ seen → lost + live + before ≡ began + seen + after
counts_seen lost began before after counts is same = omega (arith, counts, is, same)

-- checkpoints that stand still have used so many answers of the allocator
behind_drop : (count index : ℕ) (ring : List Path) → AreBehind count ring → AreBehind count (drop index ring)
behind_drop count zero ring behind = behind
behind_drop count (suc index) [] behind = behind
behind_drop count (suc index) (newest ∷ older) behind = behind_drop count index older behind.1

module _ {R : Type 0} where
  -- the session behind a walk,
  abbrev pub walked : SessionState R → Held R → SessionState R
  walked old held = record old { cpu = held.cpu; log = held.log; replies = held.replies; recorded = held.recorded; choices = held.choices }

  -- and behind an adoption
  abbrev pub goes_as : SessionState R → Held R → Env → ℕ → SessionState R
  goes_as old held env until = record (walked old held) { env = env; until = until; taken = held.cpu.slots.live.guest.machine.taken; steps = held.cpu.slots.live.steps }

  -- A recovery changes neither the items nor how many answers of the allocator are recorded, nor how checkpoints are kept.
  pub record KeepsBeside (old : SessionState R) (new : Held R) : Type 0 where
    pub log : new.log ≡ old.log
    pub recorded : new.recorded ≡ old.recorded
    pub keeping : keeping_by old.options.every new.cpu.slots ≡ keeping_of old

  -- a session that is seen in another way fails still
  pub failing_moved : {rules : Rules} {image : Image} {began : Since} {seen : Seen} {cause : Cause} {s t : SessionState R} → s ≡ t → IsFailing rules image began seen cause s → IsFailing rules image began seen cause t
  failing_moved {rules = rules} {image = image} {began = began} {seen = seen} {cause = cause} same = subst (λ (s : SessionState R). IsFailing rules image began seen cause s) same

  -- the point of a failure by another word for it
  pub adopting_at : {rules : Rules} {image : Image} {began : Since} {seen : Seen} {cause : Cause} {session : SessionState R} {recovered : Recovered} {one other : ℕ} → one ≡ other
      → Adopting rules image began seen one cause session recovered → Adopting rules image began seen other cause session recovered
  adopting_at {rules = rules} {image = image} {began = began} {seen = seen} {cause = cause} {session = session} {recovered = recovered} same =
      subst (λ n. Adopting rules image began seen n cause session recovered) same

  -- a session that is seen in another way goes on so still
  pub adopting_in : {rules : Rules} {image : Image} {began : Since} {seen : Seen} {point : ℕ} {cause : Cause} {recovered : Recovered} {s t : SessionState R} → s ≡ t → Adopting rules image began seen point cause s recovered
      → Adopting rules image began seen point cause t recovered
  adopting_in {rules = rules} {image = image} {began = began} {seen = seen} {point = point} {cause = cause} {recovered = recovered} same = subst (λ (s : SessionState R). Adopting rules image began seen point cause s recovered) same

module _ {R : Type 0} {rules : Rules} {image : Image} {began : Since} {seen : Seen} {cause : Cause} {old : SessionState R} where
  -- the failure of a session,
  abbrev pub failure_of : IsFailing rules image began seen cause old → Failure
  failure_of f = record { rules = rules; image = image; entries = entries f.going.story; plan = f.going.story.survivor.plan; failed = f.going.story.survivor.now; ring = f.going.saved.paths }

  -- the recovery behind it, by its trials,
  abbrev recovery_behind : IsFailing rules image began seen cause old → List Trial → Recovery
  recovery_behind f trials = recovery_of (failure_of f) f.going.story.survivor.begun cause trials

  -- and the story then, by the one that is adopted
  abbrev story_behind : IsFailing rules image began seen cause old → List Trial → Trial → Story
  story_behind f trials trial = adopted_story rules f.going.story (recovery_behind f trials) trial

  -- the table that was told of it is that of its recovery
  table_of : (f : IsFailing rules image began seen cause old) (trials : List Trial) (tables : Option (List (List Try))) → TellsTable (failure_of f) old.taken began.tables tables
      → TellsOne rules (entries f.going.story) (recovery_behind f trials) began.tables tables
  table_of f trials tables = subst (λ n. TellsTable (failure_of f) n began.tables tables) f.going.answers.taken

module _ {R : Type 0} {rules : Rules} {image : Image} {began : Since} {seen : Seen} {cause : Cause} {old : SessionState R} (f : IsFailing rules image began seen cause old) where
  -- what is asked for before a recovery
  pub to_recover : rules.limits.budget ≤ 2 ^ 36 → 1 ≤ rules.limits.keep → rules.bounds.max_items ≤ MAX_ITEMS → HasToRecover (record { point = old.taken; cause = cause; pc = old.cpu.slots.live.guest.machine.pc }) (failure_of f) (held_in old)
  to_recover budget keep items =
      let g = f.going in
      record {
        failed = record { has = ring_fails g.saved.ring items g.goes.items g.passed.replies g.told.serving.carries; point_is = sym g.answers.taken; few_steps = budget; some_keep = keep };
        ring = g.saved.ring;
        chose = g.answers.choices;
        early = g.saved.early;
        fails = f.fails;
        pc_is = sym (ap (λ (s : Standing). s.guest.machine.pc) g.goes.guest);
      }

  -- a failure comes at no request: the requests before it were handled
  failed_requests : {keeping : Keeping} → keeping ≡ keeping_of old
      → HasHandled rules image keeping f.going.story.earlier (entries f.going.story) f.going.story.recoveries f.going.story.survivor f.going.story.survivor.now.state.machine.taken (stands_of old.cpu.slots.saved)
  failed_requests same =
      subst (λ (k : Keeping). HasHandled rules image k f.going.story.earlier (entries f.going.story) f.going.story.recoveries f.going.story.survivor f.going.story.survivor.now.state.machine.taken (stands_of old.cpu.slots.saved)) (sym same)
      (elim f.going.saved.requests [
        | inl h ↦ h
        | inr there ↦ absurd (asks_or_fails there.0 f.fails)
      ])

  -- they left its checkpoints
  failed_ring : HasRing (stands_of old.cpu.slots.saved) f.going.saved.paths
  failed_ring = has_ring old.cpu.slots.saved f.going.saved.paths f.going.saved.ring.saved

  -- and it owed nothing
  failed_owes : LeavesNothing rules (entries_of f.going.story.earlier) f.going.story.since f.going.story.survivor
  failed_owes = owes_nothing rules f.going.story f.due f.going.passed.done

  -- memory ran out: the session answers for the run that failed
  pub adopt_breaks : {new : Held R} {lost before after : ℕ} {tables : Option (List (List Try))} → new.cpu.slots.saved ≡ old.cpu.slots.saved → new.choices ≡ old.choices → KeepsBeside old new
      → HasBegun (failure_of f) f.going.story.survivor.now.state.machine.taken (table f.going.saved.paths) before after → lost + old.steps + before ≡ began.lost + old.steps + after → (tables ≡ began.tables) ⊎ TellsTable (failure_of f) old.taken began.tables tables
      → IsBrokenOff rules image (record began { lost = lost; tables = tables }) seen (walked old new) session_break.Memory
  adopt_breaks {new = new} {lost = lost} {tables = tables} stay chose rest b counts looked =
      let story : Story = f.going.story in
      let k = f.going.saved.ring in
      let told = f.going.told in
      let answers = answers_as {new = walked old new} rest.recorded chose refl refl f.going.answers in
      let all : List Episode = map episode_of story.recoveries in
      broken_counting {began = record began { lost = lost; tables = tables }} {session = walked old new} {why = session_break.Memory} tt (λ some. absurd (some refl))
      (held_by rules image story.earlier (entries story) story.recoveries story.survivor old (walked old new) stay rest.keeping (held_of f.going.saved)) (λ is. absurd is) {before = began.noted_before} {noted = began.noted} {earlier = began.lost} (told_unwatched told) (λ others. absurd (others refl))
      (λ memory. record {
        rest = TriedOn cause f.going.saved.paths b.unfinished;
        is = record {
          some = k.some;
          stands = stands_of old.cpu.slots.saved;
          handled = failed_requests rest.keeping;
          ringed = failed_ring;
          fails = f.fails;
          chained = k.chained;
          checkpoints = k.are;
          begins = b.begins;
          owes_nothing = failed_owes;
        };
        counted = let none : steps_of [] ≡ 0 = refl in let all = told.counted in let tried = b.counted in omega (arith, none, all, tried, counts);
      })
      (elim looked [
        | inl same ↦ tables_here rules story (stop.Breaks session_break.Memory) began.tables_before tables (subst (λ (t : Option (List (List Try))). TellsMore began.tables_before t (AreTables rules [] story.earlier story.recoveries)) (sym same) told.tables)
        | inr more ↦ tables_memory rules story (recovery_behind f []) began.tables_before began.tables tables told.tables (table_of f [] tables more)
      ])
      (notes_here {began = began} all told.episodes answers (sym (append-nil all))) (λ some. absurd (omega (arith, some))) answers.taken answers.steps

  -- behind a failure the number is higher, up to which an environment is in force
  pub adopted_later : (old.until < old.taken + rules.limits.keep) × (old.taken ≤ rules.bounds.max_items)
  adopted_later =
      let g = f.going in
      let taken : old.taken ≡ g.story.survivor.now.state.machine.taken = g.answers.taken in
      let past : old.until < g.story.survivor.now.state.machine.taken + rules.limits.keep = elim g.past [
        | inl past ↦ past
        | inr there ↦ absurd (asks_or_fails there.1 f.fails)
      ] in
      (omega (arith, taken, past), omega (arith, taken, g.goes.few))

-- no trial survived: of the session the guest changed alone
module _ {R : Type 0} {rules : Rules} {image : Image} {began : Since} {seen : Seen} {cause : Cause} {old : SessionState R} (f : IsFailing rules image began seen cause old) (cpu : CpuState R) {trials : List Trial} (lost : ℕ) (tables : Option (List (List Try)))
    (slots : cpu.slots.saved ≡ old.cpu.slots.saved) (keeping : keeping_by old.options.every cpu.slots ≡ keeping_of old) (was : IsRecovery rules image (entries f.going.story) (recovery_behind f trials)) (none : survivor_in trials ≡ None)
    (counts : lost ≡ began.lost + steps_of trials) (one : TellsOne rules (entries f.going.story) (recovery_behind f trials) began.tables tables) where
  given_up : HasGivenUp rules image (keeping_by old.options.every cpu.slots) f.going.story (record { cause = cause; ring = f.going.saved.paths; trials = trials })
  given_up = record {
    some = f.going.saved.ring.some;
    stands = stands_of old.cpu.slots.saved;
    handled = failed_requests f keeping;
    ringed = failed_ring f;
    recovers = was;
    none = none;
    owes_nothing = failed_owes f;
  }

  abbrev held_on : HoldsCheckpoints rules image f.going.story.earlier (entries f.going.story) f.going.story.recoveries f.going.story.survivor (record old { cpu = cpu })
  held_on = held_by rules image f.going.story.earlier (entries f.going.story) f.going.story.recoveries f.going.story.survivor old (record old { cpu = cpu }) slots keeping (held_of f.going.saved)

  -- it gives up
  gives_up : (noted : Noted) → HasNotedMore began.noted noted [] (episode_of (recovery_behind f trials) ∷ []) → IsEnding rules image (record began { lost = lost; noted = noted; tables = tables }) seen (record old { cpu = cpu }) (session_end.GaveUp old.taken cause)
  gives_up noted more =
      let g = f.going in
      let walk : Walk = record { cause = cause; ring = g.saved.paths; trials = trials } in
      record {
        story = g.story;
        walk = Some walk;
        lost = began.lost;
        lost_is = counts;
        noted = began.noted;
        last_noted = more;
        told = told_unwatched g.told;
        tables = tables_given_up rules g.story walk (stop.Ends (session_end.GaveUp old.taken cause)) began.tables_before began.tables tables g.told.tables one;
        answers = record { low = g.answers.low; recorded = g.answers.recorded; choices = g.answers.choices; unnoted = g.answers.unnoted; taken = g.answers.taken; steps = g.answers.steps };
        received_are = received_is g.goes.items;
        replies = g.passed.replies;
        no_trial = g.passed.no_trial;
        closed = λ send stands closing owed. g.passed.done send stands owed;
        holds = held_on;
        handled = λ is. absurd is;
        live = tt;
        stands = (f.fails, sym g.answers.taken);
        walked = given_up;
        gave_up = refl;
      }

  -- and the episode isn't noted
  gave_up_unnoted : (fault : SessionBreak) → IsNoteFault fault → (noted : Noted) → HasMissed began.noted noted (episode_of (recovery_behind f trials)) → IsBrokenOff rules image (record began { lost = lost; noted = noted; tables = tables }) seen (record old { cpu = cpu }) fault
  gave_up_unnoted fault note noted missed =
      let story : Story = f.going.story in
      let told = f.going.told in
      let walk : Walk = record { cause = cause; ring = f.going.saved.paths; trials = trials } in
      record {
        telling = record { account = account_of story; recoveries = story.recoveries; walk = Some walk };
        is = record {
          ended = record { account = serving_account rules image story.earlier story.survivor story.since None told.serving; comes = tt; pieces = tt; ends = note_ends rules (account_of story) fault note };
          recovered = told.recovered;
          ringed = rings_of given_up.handled;
          walked = given_up;
          gave_up = tt;
        };
        none_came = refl;
        tells = subst (Tells began.told seen.told) (sym (journal_of_story story)) told.tells;
        handed = note_handed rules (account_of story) seen fault refl note;
        holds = held_on;
        handled = λ is. absurd (note_at_none fault note is);
        notes = notes_missed {began = began} {session = record old { cpu = cpu }} (map episode_of story.recoveries) (episode_of (walk_behind story.survivor walk)) told.episodes (answers_as refl refl refl refl f.going.answers) refl note missed;
        unnoted = λ some. ((refl, refl, refl), tt);
        tables = tables_given_up rules story walk (stop.Breaks fault) began.tables_before began.tables tables told.tables one;
        taken = f.going.answers.taken;
        steps = f.going.answers.steps;
        counted = λ others. let before = told.counted in omega (arith, before, counts);
        unanswered = λ memory. record { rest = AllAnswered; is = tt; counted = let before = told.counted in omega (arith, before, counts) };
        later = steps_later rules.limits (items_in rules.bounds (entries story)) story.survivor.plan story.survivor.begun story.survivor.now told.way;
      }

-- a trial was adopted
module _ {R : Type 0} {rules : Rules} {image : Image} {began : Since} {seen : Seen} {cause : Cause} {old : SessionState R} (f : IsFailing rules image began seen cause old) {trials : List Trial} {trial : Trial} {adopted : Adopted} {new : Held R} (lost : ℕ) (tables : Option (List (List Try)))
    (was : IsRecovery rules image (entries f.going.story) (recovery_behind f trials)) (found : survivor_in trials ≡ Some trial) (run : HasAdoptedRun (failure_of f) (recovery_behind f trials) trial adopted new) (left : LeavesSession (Some adopted) (held_in old) new) (rest : KeepsBeside old new)
    (counts : lost + trial.path.steps ≡ began.lost + f.going.story.survivor.now.steps + steps_of trials) (one : TellsOne rules (entries f.going.story) (recovery_behind f trials) began.tables tables) where
  same_items : KeepsItems rules.bounds (entries (story_behind f trials trial)) new.log
  same_items = subst (λ (at : List Entry × Log). KeepsItems rules.bounds at.0 at.1) (λ i. (sym (same_entries rules f.going.story (recovery_behind f trials) trial) i, sym rest.log i)) f.going.goes.items

  -- what stands then
  adopted_requests : HasHandled rules image (keeping_by old.options.every new.cpu.slots) (story_behind f trials trial).earlier (entries (story_behind f trials trial)) (story_behind f trials trial).recoveries (story_behind f trials trial).survivor trial.path.state.machine.taken (stands_of new.cpu.slots.saved)
  adopted_requests =
      handled_adopts (record { survivor = f.going.story.survivor; entries = f.going.story.since }) (recovery_behind f trials) adopted.index refl (failed_requests f rest.keeping) (failed_ring f) found run.from (stands_up_to adopted.index old.cpu.slots.saved left.slots.1)

  -- the session holds the checkpoints up to its own
  adopted_held : HoldsCheckpoints rules image (story_behind f trials trial).earlier (entries (story_behind f trials trial)) (story_behind f trials trial).recoveries (story_behind f trials trial).survivor (goes_as old new adopted.env (old.taken + rules.limits.keep))
  adopted_held = record {
    paths = drop adopted.index f.going.saved.paths;
    some = run.ring.some;
    chained = subst (λ es. AreChained rules.limits (items_in rules.bounds es) (adopted_by rules (recovery_behind f trials) trial).plan image trial.path (drop adopted.index f.going.saved.paths)) (sym (same_entries rules f.going.story (recovery_behind f trials) trial)) run.ring.chained;
    are = run.ring.are;
    saved = run.ring.saved;
    requests = inl adopted_requests;
  }

  -- it answers for the run that it adopted, of which the first answers of the allocator are those that are noted
  adopted_answers : (noted : Noted) (tables : Option (List (List Try))) → Grew began.noted.choices noted.choices [] → noted.unnoted ≡ began.noted.unnoted
      → AnswersFor (record began { lost = lost; noted = noted; tables = tables }) (story_behind f trials trial) (goes_as old new adopted.env (old.taken + rules.limits.keep))
  adopted_answers noted tables grew unnoted =
      let answers = f.going.answers in
      let failed : List Choice = f.going.story.survivor.now.choices in
      record {
        low = run.low;
        recorded =
            subst (Grew began.noted_before.choices noted.choices) (append-nil (take old.recorded failed) ∙ (ap (λ n. take n failed) (sym rest.recorded) ∙ sym run.front))
            (grew_more began.noted_before.choices began.noted.choices noted.choices (take old.recorded failed) [] answers.recorded grew);
        choices = run.chose;
        unnoted = unnoted ∙ answers.unnoted;
        taken = ap taken_in run.stands;
        steps = ap (λ (s : Standing). s.steps) run.stands;
      }

  -- it goes on as a trial that asks for the next item
  adopts_going : adopted.code ≡ None → (noted : Noted) → HasNotedMore began.noted noted [] (episode_of (recovery_behind f trials) ∷ []) → IsGoing rules image (record began { lost = lost; noted = noted; tables = tables }) seen (goes_as old new adopted.env (old.taken + rules.limits.keep))
  adopts_going asks noted more =
      let g = f.going in
      let story : Story = g.story in
      let recovery : Recovery = recovery_behind f trials in
      let next : Story = story_behind f trials trial in
      let same : entries next ≡ entries story = same_entries rules story recovery trial in
      let lives : trial.path.state.ended ≡ None = sym run.code_is ∙ asks in
      let at_point : AsksFor rules.limits [] trial.path story.survivor.now.state.machine.taken = run.asks lives in
      let point : old.taken ≡ story.survivor.now.state.machine.taken = g.answers.taken in
      let taken : trial.path.state.machine.taken ≡ story.survivor.now.state.machine.taken = at_point.taken in
      let few : story.survivor.now.state.machine.taken ≤ rules.bounds.max_items = g.goes.few in
      record {
        story = next;
        told = told_adopted g.told (failed_owes f) refl was found counts more.episodes_more one;
        answers = adopted_answers noted tables more.choices_more more.unnoted_same;
        goes = record {
          lives = lives;
          guest = run.stands;
          bounded = run.goes.bounded lives;
          few = omega (arith, taken, few);
          within = λ conn may. ap (λ es. opens conn (heeded rules.bounds (events_of rules.bounds es))) same ∙ run.goes.within conn may;
          items = same_items;
          events = g.goes.events ∙ ap (λ es. length (events_of rules.bounds es)) (sym same);
          phases_are = subst (λ (es : List Entry). KeepsPhases rules.bounds es seen.phases) (sym same) g.goes.phases_are;
        };
        saved = record {
          paths = drop adopted.index g.saved.paths;
          ring = subst (λ es. KeepsRing rules image es (adopted_by rules recovery trial).plan trial.path (drop adopted.index g.saved.paths) new.cpu new.log new.replies) (sym same) run.ring;
          early = behind_drop new.recorded adopted.index g.saved.paths (subst (λ n. AreBehind n g.saved.paths) (sym rest.recorded) g.saved.early);
          requests = inl adopted_requests;
          in_force = subst (λ (at : ℕ × ℕ). IsInForce rules.limits.base (adopted_by rules recovery trial).plan at.0 adopted.env (at.1 + rules.limits.keep)) (λ i. (sym taken i, sym point i)) run.in_force;
        };
        past = inr (omega (arith, point, taken), subst (AsksFor rules.limits [] trial.path) (sym taken) at_point);
        passed = record {
          replies = subst (λ es. KeepsReplies rules.bounds es None trial.path.state.sends new.replies) (sym same) run.replies;
          no_trial = left.bytes.no_trial;
          done = λ send stands due. absurd due;
        };
        latest = λ last found. absurd (none-some last found);
      }

  -- the trial ended itself
  adopts_ending : {code : ℕ} → adopted.code ≡ Some code → (noted : Noted) → HasNotedMore began.noted noted [] (episode_of (recovery_behind f trials) ∷ [])
      → IsEnding rules image (record began { lost = lost; noted = noted; tables = tables }) seen (goes_as old new adopted.env (old.taken + rules.limits.keep)) (session_end.Exited code)
  adopts_ending {code = code} exits noted more =
      let next : Story = story_behind f trials trial in
      let same : entries next ≡ entries f.going.story = same_entries rules f.going.story (recovery_behind f trials) trial in
      let then = told_adopted f.going.told (failed_owes f) refl was found counts more.episodes_more one in
      record {
        story = next;
        walk = None;
        lost = lost;
        lost_is = none_lost;
        noted = noted;
        last_noted = none_noted;
        told = told_unwatched then;
        tables = tables_here rules next (stop.Ends (session_end.Exited code)) began.tables_before tables then.tables;
        answers = adopted_answers noted tables more.choices_more more.unnoted_same;
        received_are = received_is same_items;
        replies = subst (λ es. KeepsReplies rules.bounds es None trial.path.state.sends new.replies) (sym same) run.replies;
        no_trial = left.bytes.no_trial;
        closed = λ send stands closing owed. absurd owed;
        holds = adopted_held;
        handled = λ is. absurd is;
        live = run.stands;
        stands = sym run.code_is ∙ exits;
        walked = tt;
        gave_up = tt;
      }

  -- by its code
  adopts_to : (code : Option ℕ) → adopted.code ≡ code → (noted : Noted) → HasNotedMore began.noted noted [] (episode_of (recovery_behind f trials) ∷ [])
      → AdoptsTo rules image (record began { lost = lost; noted = noted; tables = tables }) seen (goes_as old new adopted.env (old.taken + rules.limits.keep)) (option_map session_end.Exited code)
  adopts_to None is noted more = adopts_going is noted more
  adopts_to (Some code) is noted more = adopts_ending is noted more

  -- its episode isn't noted: the session is broken off as the trial
  adopted_unnoted : (fault : SessionBreak) → IsNoteFault fault → (now : Noted) → HasMissed began.noted now (episode_of (recovery_behind f trials)) → IsBrokenOff rules image (record began { lost = lost; noted = now; tables = tables }) seen (goes_as old new adopted.env (old.taken + rules.limits.keep)) fault
  adopted_unnoted fault note now missed =
      let story : Story = f.going.story in
      let told = f.going.told in
      let recovery : Recovery = recovery_behind f trials in
      let next : Story = story_behind f trials trial in
      let answers = adopted_answers began.noted began.tables (none_noted {noted = began.noted}).choices_more refl in
      let nobody : Noted = noted None None None in
      let then = told_adopted {began = unwatched (record began { noted_before = nobody; noted = nobody })}
      (record { serving = told.serving; way = told.way; tells = told.tells; counted = told.counted; recovered = told.recovered; episodes = tt; tables = refl }) (failed_owes f) refl was found counts tt refl in
      broken_noting {began = record began { lost = lost; noted = now; tables = tables }} (note_ends rules (account_of next) fault note) (note_handed rules (account_of next) seen fault refl note) adopted_held (λ is. absurd (note_at_none fault note is))
      {before = nobody} {noted = nobody} then (tables_here rules next (stop.Breaks fault) began.tables_before tables (tables_then rules story recovery began.tables_before began.tables tables told.tables one))
      (notes_missed (map episode_of story.recoveries) (episode_of recovery) told.episodes answers (map-append episode_of story.recoveries (recovery ∷ [])) note missed) (λ some. refl) answers.taken answers.steps

module _ {R : Type 0} {rules : Rules} {image : Image} {began : Since} {seen : Seen} {cause : Cause} {old : SessionState R} (f : IsFailing rules image began seen cause old) {recovered : Recovered} {new : Held R} {before after : ℕ}
    (h : HasRecovery (failure_of f) f.going.story.survivor.begun cause recovered (held_in old) new before after) where
  -- none survived
  pub adopt_none : {lost : ℕ} {tables : Option (List (List Try))} → LeavesSession recovered.adopted (held_in old) new → KeepsBeside old new → recovered.adopted ≡ None → lost + old.steps + before ≡ began.lost + old.steps + after → TellsTable (failure_of f) old.taken began.tables tables
      → Adopting rules image (record began { lost = lost; tables = tables }) seen old.taken cause (walked old new) recovered
  adopt_none {lost = lost} {tables = tables} left rest is counts told =
      let leaves = subst (LeavesRun (failure_of f) (recovery_behind f h.trials) (held_in old) new) is h.leaves in
      let slots : new.cpu.slots.saved ≡ old.cpu.slots.saved = subst (λ (a : Option Adopted). KeepsSlots a old.cpu new.cpu) is left.slots in
      let counted = h.counted in
      let spent : lost ≡ began.lost + steps_of h.trials = omega (arith, counted, counts) in
      let one = table_of f h.trials tables told in
      subst (λ (held : Held R). Adopting rules image (record began { lost = lost; tables = tables }) seen old.taken cause (walked old held) recovered)
      (sym (leaves.1 ∙ ap (λ trial. record (held_in old) { cpu = new.cpu; replies = record old.replies { trial = trial } }) (sym f.going.passed.no_trial)))
      (record {
        goes = λ noted more.
            subst (AdoptsTo rules image (record began { lost = lost; noted = noted; tables = tables }) seen (record old { cpu = new.cpu })) (sym (ap (end_of old.taken cause) is))
            (gives_up f new.cpu lost tables slots rest.keeping h.recovers leaves.0 spent one noted (subst (λ (e : Episode). HasNotedMore began.noted noted [] (e ∷ [])) h.episode_is more));
        breaks = λ fault note noted missed. gave_up_unnoted f new.cpu lost tables slots rest.keeping h.recovers leaves.0 spent one fault note noted (subst (HasMissed began.noted noted) h.episode_is missed);
      })

  pub adopt_some : {adopted : Adopted} {lost : ℕ} {tables : Option (List (List Try))} → LeavesSession recovered.adopted (held_in old) new → KeepsBeside old new → recovered.adopted ≡ Some adopted → lost + new.cpu.slots.live.steps + before ≡ began.lost + old.steps + after
      → TellsTable (failure_of f) old.taken began.tables tables → Adopting rules image (record began { lost = lost; tables = tables }) seen old.taken cause (goes_as old new adopted.env (old.taken + rules.limits.keep)) recovered
  adopt_some {adopted = adopted} {lost = lost} {tables = tables} left rest is counts told =
      let leaves = subst (LeavesRun (failure_of f) (recovery_behind f h.trials) (held_in old) new) is h.leaves in
      let run = leaves.2 in
      let stays : LeavesSession (Some adopted) (held_in old) new = subst (λ (a : Option Adopted). LeavesSession a (held_in old) new) is left in
      let all : lost + leaves.0.path.steps ≡ began.lost + f.going.story.survivor.now.steps + steps_of h.trials = omega (arith, h.counted, counts, ap (λ (s : Standing). s.steps) run.stands, f.going.answers.steps) in
      let one = table_of f h.trials tables told in
      record {
        goes = λ noted more.
            subst (AdoptsTo rules image (record began { lost = lost; noted = noted; tables = tables }) seen (goes_as old new adopted.env (old.taken + rules.limits.keep))) (sym (ap (end_of old.taken cause) is))
            (adopts_to f lost tables h.recovers leaves.1 run stays rest all one adopted.code refl noted (subst (λ (e : Episode). HasNotedMore began.noted noted [] (e ∷ [])) h.episode_is more));
        breaks = λ fault note noted missed. adopted_unnoted f lost tables h.recovers leaves.1 run stays rest all one fault note noted (subst (HasMissed began.noted noted) h.episode_is missed);
      }

  -- the run that is adopted has no more instructions than were counted
  pub adopt_least : {adopted : Adopted} → recovered.adopted ≡ Some adopted → new.cpu.slots.live.steps + before ≤ after + old.steps
  adopt_least is =
      let leaves = subst (LeavesRun (failure_of f) (recovery_behind f h.trials) (held_in old) new) is h.leaves in
      omega (arith, leaves.2.enough, h.counted, ap (λ (s : Standing). s.steps) leaves.2.stands, f.going.answers.steps)
