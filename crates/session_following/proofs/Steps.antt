-- What a step makes of a session that has just begun: its guest ran on; an event of its link came; or a method of an ordinary session was called.
use Rattle.links.specs.declared.journal.Entry.TheVariants as entry
use Rattle.session_following.proofs.Terms.{List, None, Option, Some, [], ap, append-nil, arith, length, length-append, refl, subst, sym, ◌++◌, ◌∙◌, ◌∷◌, ◌≡◌, Item, Entry, LinkEvent, Phases, Tells, Told, Seen, Choice, Image, Override, Path, Served, origin, GoesOn, standing_of, Writes, served_on, served_same, served_with, events_of, items_in, KeepsItems, KeepsPhases, Chapter, Rules, entries_of, first_survivor, starting_path, Try, Recovery, Brings, TellsMore, HasSameRun, answers_still, goes_then, opens_still, saved_then, answers_for, goes_with, HasSameSide, saved_on, requests_on, AreTables, IsCounted, SessionState, AnswersFor, GoesWith, IsGoing, IsHearing, IsTold, KeepsCheckpoints, Since, Story, entries, HasJustBegun, begun_story, story_alone}
use Rattle.session_following.proofs.Rebased.{StandsThere}

module _ {R : Type 0} where
  -- nothing yet
  pub itself_there : {rules : Rules} {image : Image} {began : Since} {phases : Phases} {session : SessionState R} → HasJustBegun rules image began phases session → StandsThere rules image began phases (first_survivor rules image) [] session
  itself_there {rules = rules} {image = image} f = record {
    plan = refl;
    begun = refl;
    served = f.sound.carries.served;
    way = served_same rules.limits (items_in rules.bounds []) rules.bounds.before.plan (starting_path rules image);
    taken = f.sound.carries.taken;
    more = [];
    brings = sym (append-nil (items_in rules.bounds []));
    answers = f.answers;
    goes = f.goes;
    paths = f.saved.paths;
    ring = f.saved.ring;
    early = f.saved.early;
    requests = f.saved.requests;
  }

  -- its guest ran on to there, and used these answers of the allocator
  pub ran_there : {rules : Rules} {image : Image} {began : Since} {phases : Phases} {old new : SessionState R} {to : Path} (more : List Choice) → HasJustBegun rules image began phases old → HasSameSide old new → new.replies.first ≡ old.replies.first
      → to.choices ≡ (starting_path rules image).choices ++ more → new.choices ≡ old.choices ++ more → IsCounted new → GoesOn rules.limits (items_in rules.bounds []) rules.bounds.before.plan (starting_path rules image) to
      → Writes rules.limits (items_in rules.bounds []) old.cpu.base (starting_path rules image) old.cpu.written to new.cpu.written → to.state.ended ≡ None → new.cpu.slots.live ≡ standing_of to
      → StandsThere rules image began phases (record { plan = rules.bounds.before.plan; begun = starting_path rules image; now = to }) [] new
  ran_there {rules = rules} {image = image} {to = to} more f side first used chosen counted goes wrote lives stands =
      let saved = saved_on {story = begun_story rules image} {to = to} side first goes.served wrote (let still = goes.taken in omega (arith, still)) (requests_on {to = to} goes.served goes.taken f.saved.requests) f.saved in
      record {
        plan = refl;
        begun = refl;
        served = served_on rules.limits (items_in rules.bounds []) rules.bounds.before.plan (origin image) (starting_path rules image) to f.sound.carries.served goes.served;
        way = goes.served;
        taken = let few = f.sound.carries.taken in let still = goes.taken in omega (arith, few, still);
        more = [];
        brings = sym (append-nil (items_in rules.bounds []));
        answers = answers_for {story = begun_story rules image} {to = to} more f.answers side.recorded used chosen counted stands;
        goes = goes_with {story = begun_story rules image} {to = to} f.goes side.log side.events goes lives stands;
        paths = saved.paths;
        ring = saved.ring;
        early = saved.early;
        requests = saved.requests;
      }

  -- an event of its link was heard
  pub heard_there : {rules : Rules} {image : Image} {began : Since} {phases later : Phases} {old new : SessionState R} {event : LinkEvent} (more : List Item) → HasJustBegun rules image began phases old → HasSameRun old new → new.replies.first ≡ old.replies.first
      → items_in rules.bounds (entry.Took event ∷ []) ≡ items_in rules.bounds [] ++ more → KeepsItems rules.bounds (entry.Took event ∷ []) new.log → KeepsPhases rules.bounds (entry.Took event ∷ []) later → new.events ≡ length (events_of rules.bounds (entry.Took event ∷ []))
      → StandsThere rules image began later (first_survivor rules image) (entry.Took event ∷ []) new
  heard_there {rules = rules} {image = image} {event = event} more f same first brings items phases events =
      let plan : List Override = rules.bounds.before.plan in
      let path : Path = starting_path rules image in
      let opened : Brings rules [] (entry.Took event ∷ []) more = record { items = brings; opened = λ conn known. opens_still rules.bounds [] (entry.Took event ∷ []) conn refl f.goes.items.all_heeded items.all_heeded known } in
      let saved = saved_then {story = begun_story rules image} (entry.Took event ∷ []) same first opened f.saved in
      record {
        plan = refl;
        begun = refl;
        served = subst (λ (its : List Item). Served rules.limits its plan (origin image) path) (sym brings) (served_with rules.limits (items_in rules.bounds []) more plan (origin image) path f.sound.carries.served);
        way = served_same rules.limits (items_in rules.bounds (entry.Took event ∷ [])) plan path;
        taken = let few = f.sound.carries.taken in omega (arith, few, ap length brings, length-append (items_in rules.bounds []) more);
        more = more;
        brings = brings;
        answers = answers_still {story = begun_story rules image} (entry.Took event ∷ []) same f.answers;
        goes = goes_then {story = begun_story rules image} (entry.Took event ∷ []) same f.goes items events phases;
        paths = saved.paths;
        ring = saved.ring;
        early = saved.early;
        requests = saved.requests;
      }

-- Something told since, of which all is told, and nothing was: so no event came, nothing was given, and no recovery was made.
pub record IsMarked (began : Since) (now : Told) : Type 0 where
  pub told : began.told.journal ≡ Some []
  pub still : now.journal ≡ Some []
  pub tables_before : began.tables_before ≡ Some []
  pub tables : began.tables ≡ Some []

no_entries : {old now : Told} {list : List Entry} → old.journal ≡ Some [] → now.journal ≡ Some [] → Tells old now list → list ≡ []
no_entries {old = old} {now = now} {list = list} before after tells =
    sym
    (subst (λ (o : Option (List Entry)). Rattle.links.specs.Links.Grew (Some []) o list) after
    (subst (λ (o : Option (List Entry)). Rattle.links.specs.Links.Grew o now.journal list) before tells.journal))

no_tables : (rules : Rules) (earlier : List Chapter) (recoveries : List Recovery) → TellsMore (Some []) (Some []) (AreTables rules [] earlier recoveries) → (earlier ≡ []) × (recoveries ≡ [])
no_tables rules [] [] tells = (refl, refl)
no_tables rules [] (recovery ∷ recoveries) tells = absurd (of tells.0 (let same : Some [] ≡ Some tells.0 = tells.1 in let is : [] ≡ tells.0 = cc in sym is) tells.2)
  where
    of : (tables : List (List Try)) → tables ≡ [] → AreTables rules [] [] (recovery ∷ recoveries) tables → ⊥
    of [] none are = are
    of (tries ∷ tables) none are = are
no_tables rules (chapter ∷ earlier) [] tells = absurd (of tells.0 tells.2)
  where
    of : (tables : List (List Try)) → AreTables rules [] (chapter ∷ earlier) [] tables → ⊥
    of [] are = are
    of (tries ∷ tables) are = are
no_tables rules (chapter ∷ earlier) (recovery ∷ recoveries) tells = absurd (of tells.0 (let same : Some [] ≡ Some tells.0 = tells.1 in let is : [] ≡ tells.0 = cc in sym is) tells.2)
  where
    of : (tables : List (List Try)) → tables ≡ [] → AreTables rules [] (chapter ∷ earlier) (recovery ∷ recoveries) tables → ⊥
    of [] none are = are
    of (tries ∷ tables) none are = let no : length (tries ∷ tables) ≡ 0 = ap length none in omega (arith, no)

alone : (story : Story) → story.earlier ≡ [] → story.recoveries ≡ [] → story.since ≡ [] → story ≡ story_alone story.survivor []
alone story earlier recoveries since = λ i. record { earlier = earlier i; recoveries = recoveries i; survivor = story.survivor; since = since i }

-- so is its story
pub marked_story : {rules : Rules} {image : Image} {began : Since} {now : Told} {story : Story} → IsTold rules image began now story → IsMarked began now → story ≡ story_alone story.survivor []
marked_story {rules = rules} {began = began} {story = story} told mark =
    let none = no_tables rules story.earlier story.recoveries
    (subst (λ (o : Option (List (List Try))). TellsMore (Some []) o (AreTables rules [] story.earlier story.recoveries)) mark.tables
    (subst (λ (o : Option (List (List Try))). TellsMore o began.tables (AreTables rules [] story.earlier story.recoveries)) mark.tables_before told.tables)) in
    let entries_are : entries story ≡ [] = no_entries mark.told mark.still told.tells in
    alone story none.0 none.1 (sym (ap (λ (chapters : List Chapter). entries_of chapters ++ story.since) none.0) ∙ entries_are)

module _ {R : Type 0} where
  -- what an ordinary session knows, where nothing came since, and no recovery was made
  pub told_there : {rules : Rules} {image : Image} {began : Since} {now : Told} {phases : Phases} {story : Story} {session : SessionState R} → IsTold rules image began now story → IsMarked began now → AnswersFor began story session → GoesWith rules story session phases
      → KeepsCheckpoints rules image story session → StandsThere rules image began phases story.survivor [] session
  told_there {rules = rules} {image = image} {began = began} {now = now} {phases = phases} {story = story} {session = session} told mark answers goes saved =
      let is : story ≡ story_alone story.survivor [] = marked_story told mark in
      let t : IsTold rules image began now (story_alone story.survivor []) = subst (IsTold rules image began now) is told in
      let k : KeepsCheckpoints rules image (story_alone story.survivor []) session = subst (λ (s : Story). KeepsCheckpoints rules image s session) is saved in
      record {
        plan = sym t.recovered.0;
        begun = t.recovered.1;
        served = t.serving.carries.served;
        way = t.way;
        taken = t.serving.carries.taken;
        more = [];
        brings = sym (append-nil (items_in rules.bounds []));
        answers = subst (λ (s : Story). AnswersFor began s session) is answers;
        goes = subst (λ (s : Story). GoesWith rules s session phases) is goes;
        paths = k.paths;
        ring = k.ring;
        early = k.early;
        requests = k.requests;
      }

  -- a session that goes on, and one that hears
  pub going_there : {rules : Rules} {image : Image} {began : Since} {seen : Seen} {session : SessionState R} (g : IsGoing rules image began seen session) → IsMarked began seen.told → StandsThere rules image began seen.phases g.story.survivor [] session
  going_there g mark = told_there g.told mark g.answers g.goes g.saved

  pub hearing_there : {rules : Rules} {image : Image} {began : Since} {seen : Seen} {session : SessionState R} (h : IsHearing rules image began seen session) → IsMarked began seen.told → StandsThere rules image began seen.phases h.story.survivor [] session
  hearing_there h mark = told_there h.told mark h.answers h.goes h.saved
