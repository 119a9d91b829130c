-- Something meets what the laws ask for.
use Rattle.session_history.proofs.Endings.{ending_account, ending_none}
use Rattle.session_history.proofs.Sessions.{serving_first}
use Rattle.follow.proofs.Terms.{Bool, List, None, Some, [], ap, arith, cond, eqb, false, length, length-append, map, refl, true, ℕ, ◌++◌, ◌∷◌, ◌≡◌, ◌≤◌, eqb-true, last_or, IfSome, sent_to, LinkEvent, Image, prefix_same, origin, served_same, IsAccount, Session, journal_of, items_in, Rules, passed_in, IsSoundBefore, first_survivor, starting_path, Episode, AreRecovered, Recovery, episode_of, AreWellPlaced, plan_of, Handed, Stand, StandsPast, IsFollowed, IsTakeover, Takeover, HasFollowed}
use Rattle.follow.proofs.Reached.{first_served}
use Rattle.follow.proofs.Runs.{same_limits}

-- a session at its start
abbrev started : Rules → Image → Session
started rules image = record { earlier = []; survivor = first_survivor rules image; since = []; came = None; ending = []; broken = [] }

-- it has an account where what came before it is sound, and no recovery
account_at_start : (rules : Rules) (image : Image) → IsSoundBefore rules image → IsAccount rules image (started rules image)
account_at_start rules image sound = ending_account rules image [] (first_survivor rules image) [] [] None (ending_none rules image [] (first_survivor rules image) [] false (serving_first rules image sound))

recovered_at_start : (rules : Rules) (image : Image) → AreRecovered rules image [] (first_survivor rules image) [] [] (first_survivor rules image)
recovered_at_start rules image = (refl, refl)

-- a takeover of all that a session may hand over, with as much for a client as was passed to it
abbrev whole : Rules → Image → List Episode → Session → List Recovery → ℕ → Takeover
whole rules image before session recoveries conn = record {
  image = image;
  rules = rules;
  before = before;
  session = session;
  recoveries = recoveries;
  handed =
      record {
        counts = (conn, length (sent_to conn (passed_in rules.bounds (journal_of session)))) ∷ [];
        episodes = before ++ map episode_of recoveries;
        choices = session.survivor.now.choices;
        finish = Some (record { steps = session.survivor.now.steps; taken = session.survivor.now.state.machine.taken });
      };
  limits = rules.limits;
  items = items_in rules.bounds (journal_of session);
}

-- it is one for each session that has an account and its recoveries, as an engine's does at each answer
takes_over : (rules : Rules) (image : Image) (before : List Episode) (session : Session) (recoveries : List Recovery) (conn : ℕ) → IsAccount rules image session → AreRecovered rules image [] (first_survivor rules image) session.earlier recoveries session.survivor
    → rules.bounds.before.plan ≡ plan_of rules.limits.keep before → AreWellPlaced before → IfSome (last_or None before) (StandsPast rules.limits rules.bounds.before.plan (starting_path rules image)) → IsTakeover (whole rules image before session recoveries conn)
takes_over rules image before session recoveries conn account recovered told placed past = record {
  account = account;
  recovered = recovered;
  told = told;
  placed = placed;
  past = past;
  handed_by =
      record {
        episodes = refl;
        choices = prefix_same session.survivor.now.choices;
        finish = (refl, refl);
        counts = λ other. of other (eqb conn other) refl;
      };
  wide = same_limits rules.limits;
  first = prefix_same (items_in rules.bounds (journal_of session));
}
  where
    of : (other : ℕ) (here : Bool) → eqb conn other ≡ here
        → cond here (length (sent_to conn (passed_in rules.bounds (journal_of session)))) 0 ≤ length (sent_to other (passed_in rules.bounds (journal_of session)))
    of other true is = omega (arith, ap (λ (to : ℕ). length (sent_to to (passed_in rules.bounds (journal_of session)))) (eqb-true conn other is))
    of other false is = omega arith

-- and the first host's run follows itself
follows_itself : (rules : Rules) (image : Image) (before : List Episode) (session : Session) (recoveries : List Recovery) (conn : ℕ) → IsTakeover (whole rules image before session recoveries conn) → IsFollowed (whole rules image before session recoveries conn) session.survivor.now
follows_itself rules image before session recoveries conn is = record {
  heard = items_in rules.bounds (journal_of session);
  first = prefix_same (items_in rules.bounds (journal_of session));
  ran = first_served (whole rules image before session recoveries conn) (origin image) session.survivor.now is is.account.served;
}

-- a second host that is handed nothing is released at the start, if its run can be judged there
abbrev nothing : Handed
nothing = record { counts = []; episodes = []; choices = []; finish = None }

released_at_start : (rules : Rules) (image : Image) → Stand rules.limits [] (origin image) → HasFollowed rules image nothing [] (origin image)
released_at_start rules image stand = record {
  ran = served_same rules.limits (items_in rules.bounds []) [] (origin image);
  stand = stand;
  reached = record { past = tt; chose = ([], refl); finished = tt; covers = λ conn. omega arith };
  first = λ path there served fewer. absurd (omega (arith, fewer));
  asked = λ front back event same. absurd (none_behind_none front back event same);
}
  where
    none_behind_none : (front back : List LinkEvent) (event : LinkEvent) → [] ≡ front ++ event ∷ back → ⊥
    none_behind_none front back event same = omega (arith, ap length same, length-append front (event ∷ back))
