-- A session with no recovery, whose journal has events alone, stands as one that has just begun where its run stands, with all before it that came; and one that has just begun goes on as any session.
use Rattle.session_history.proofs.Sessions.{serving_first}
use Rattle.session_following.proofs.Terms.{List, None, [], ap, arith, length, refl, subst, sym, ℕ, ◌++◌, ◌+◌, ◌<◌, ◌∙◌, ◌≡◌, ◌≤◌, ◌⊎◌, Item, Send, Entry, LinkEvent, tells_nothing, Grew, Phases, Tells, Told, Seen, Image, AsksFor, Override, Path, Served, origin, served_same, Before, events_of, items_in, received, KeepsReplies, Rules, Survivor, opens, IsSoundBefore, starting_path, timed_from, held, stands_of, AreBehind, IsInForce, KeepsRing, TellsMore, HandlesRequests, keeping_of, AreTables, spent, SessionState, AnswersFor, EndsWithin, GoesWith, HasPassedDue, IsGoing, IsTold, IsWaitingFor, Since, Story, came_before, rules_after, HasJustBegun, begun_story, story_alone}
use Rattle.session_following.proofs.Based.{SaysAs, items_after, phases_after_all, same_events, same_heeded}
use Rattle.session_following.proofs.Rings.{carries_after, ring_after}
use Rattle.session_following.proofs.Handled.{handled_after}

-- Where no more items are taken than it holds back a session owes nothing by them.
pub just_due : (rules : Rules) (story : Story) → story.survivor.now.state.machine.taken < rules.hold → HasPassedDue rules story
just_due rules story held_back send stands still early = absurd (omega (arith, held_back, early))

-- What came before a session that has just begun tells it, and nothing came since.
pub just_told : {rules : Rules} {image : Image} {began : Since} {now : Told} → IsSoundBefore rules image → began.told ≡ now → began.lost ≡ 0 → Grew began.noted_before.episodes began.noted.episodes [] → TellsMore began.tables_before began.tables (AreTables rules [] [] [])
    → IsTold rules image began now (begun_story rules image)
just_told {rules = rules} {image = image} {now = now} sound told lost episodes tables = record {
  serving = serving_first rules image sound;
  way = served_same rules.limits (items_in rules.bounds []) rules.bounds.before.plan (starting_path rules image);
  tells = subst (λ (t : Told). Tells t now []) (sym told) (tells_nothing now);
  recovered = (refl, refl);
  counted = let none : spent [] ≡ 0 = refl in omega (arith, lost, none);
  episodes = episodes;
  tables = tables;
}

module _ {R : Type 0} where
  -- What is known of a session with no recovery, beside some events that came since it began and its survivor: all but what it gave and what is next.
  pub record StandsThere (rules : Rules) (image : Image) (began : Since) (phases : Phases) (survivor : Survivor) (since : List Entry) (session : SessionState R) : Type 0 where
    pub plan : rules.bounds.before.plan ≡ survivor.plan
    pub begun : survivor.begun ≡ starting_path rules image
    pub served : Served rules.limits (items_in rules.bounds since) survivor.plan (origin image) survivor.now
    pub way : Served rules.limits (items_in rules.bounds since) survivor.plan survivor.begun survivor.now
    pub taken : survivor.now.state.machine.taken ≤ received rules.bounds since
    pub more : List Item
    pub brings : items_in rules.bounds since ≡ items_in rules.bounds [] ++ more
    pub answers : AnswersFor began (story_alone survivor since) session
    pub goes : GoesWith rules (story_alone survivor since) session phases
    pub paths : List Path
    pub ring : KeepsRing rules image since survivor.plan survivor.now paths session.cpu session.log session.replies
    pub early : AreBehind session.recorded paths
    pub requests : HandlesRequests rules image (keeping_of session) [] since [] survivor (stands_of session.cpu.slots.saved)

  -- Re-basing: what came before takes in all that came since, and what clients have of the run's sends. The plan may be another one that says the same up to here.
  pub rebased : {rules : Rules} {image : Image} {began : Since} {phases : Phases} {survivor : Survivor} {since : List Entry} {session : SessionState R} {events : List LinkEvent} {had : List Send} (counts : List (ℕ × ℕ)) (other : List Override) → StandsThere rules image began phases survivor since session
      → events ≡ events_of rules.bounds since → had ≡ held counts survivor.now.state.sends → SaysAs rules image (items_in rules.bounds since) survivor.plan other survivor.now
      → KeepsReplies (rules_after rules (came_before events had other survivor.now)).bounds [] None survivor.now.state.sends session.replies → session.replies.trial ≡ None → IsInForce rules.limits.base other survivor.now.state.machine.taken session.env session.until
      → HasJustBegun (rules_after rules (came_before events had other survivor.now)) image began phases session
  rebased {rules = rules} {image = image} {began = began} {survivor = survivor} {since = since} {session = session} {events = events} {had = had} counts other there same had_is says replies no_trial in_force =
      let now : Path = survivor.now in
      let what : Before = came_before events had other now in
      let a = there.answers in
      let g = there.goes in
      let items_are = items_after rules since what same g.items in
      record {
        sound = record {
          heeded = items_are.all_heeded;
          carries = carries_after rules image since what survivor.plan other now counts same had_is says there.served there.taken (timed_from rules.limits (items_in rules.bounds since) survivor.plan image now there.served);
        };
        answers = record { low = a.low; recorded = a.recorded; choices = a.choices; unnoted = a.unnoted; taken = a.taken; steps = a.steps };
        goes = record {
          lives = g.lives;
          guest = g.guest;
          bounded = g.bounded;
          few = g.few;
          within = λ conn may. ap (opens conn) (same_heeded rules since what same) ∙ g.within conn may;
          items = items_are;
          events = g.events ∙ ap length (sym (same_events rules since what same));
          phases_are = phases_after_all rules since what same g.phases_are;
        };
        saved = record {
          paths = there.paths;
          ring = ring_after rules image since what survivor.plan other now there.paths session.cpu session.log session.replies same says there.ring;
          early = there.early;
          requests = handled_after rules image (keeping_of session) since there.more events had survivor.plan other survivor.begun now same there.plan there.begun there.brings says there.way there.requests;
          in_force = in_force;
        };
        replies = replies;
        no_trial = no_trial;
      }

  -- It goes on as any session, since now, where it is past the failure behind which its environment was adopted.
  pub just_going : {rules : Rules} {image : Image} {began : Since} {seen : Seen} {session : SessionState R} → HasJustBegun rules image began seen.phases session → EndsWithin rules.limits session.until (starting_path rules image) → began.told ≡ seen.told → began.lost ≡ 0 → Grew began.noted_before.episodes began.noted.episodes []
      → TellsMore began.tables_before began.tables (AreTables rules [] [] []) → IsGoing rules image began seen session
  just_going {rules = rules} {image = image} {began = began} {seen = seen} f past told lost episodes tables = record {
    story = begun_story rules image;
    told = just_told f.sound told lost episodes tables;
    answers = f.answers;
    goes = f.goes;
    saved = f.saved;
    past = past;
    passed = record { replies = f.replies; no_trial = f.no_trial; done = λ send stands due. absurd due };
    latest = λ last found. absurd (let no : ⊥ = cc in no);
  }

  -- where its run asks for an item it hears
  pub just_hearing : {rules : Rules} {image : Image} {began : Since} {seen : Seen} {session : SessionState R} (f : HasJustBegun rules image began seen.phases session) → EndsWithin rules.limits session.until (starting_path rules image) → began.told ≡ seen.told → began.lost ≡ 0 → Grew began.noted_before.episodes began.noted.episodes []
      → TellsMore began.tables_before began.tables (AreTables rules [] [] []) → AsksFor rules.limits rules.bounds.before.plan (starting_path rules image) (starting_path rules image).state.machine.taken
      → (starting_path rules image).state.machine.taken < rules.hold → IsWaitingFor rules image began seen session
  just_hearing {rules = rules} {image = image} {seen = seen} f past told lost episodes tables asks held_back = record {
    hearing = record {
      story = begun_story rules image;
      told = just_told f.sound told lost episodes tables;
      answers = f.answers;
      goes = f.goes;
      saved = f.saved;
      past = past;
      passed = record { replies = f.replies; no_trial = f.no_trial; done = λ send stands due. absurd due };
      asks = asks;
      latest = λ last found. absurd (let no : ⊥ = cc in no);
    };
    due = just_due rules (begun_story rules image) held_back;
  }
