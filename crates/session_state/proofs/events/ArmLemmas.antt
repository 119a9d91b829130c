-- The arms of a session: items came, a settle, a close, an end, a refusal.
use Rattle.links.specs.declared.journal.Entry.TheVariants as entry
use Rattle.links.specs.declared.journal.LinkEvent.TheVariants as event
use Rattle.session_state.proofs.Terms.{List, None, Some, [], ap, append-nil, arith, length, refl, subst, sym, ℕ, ◌<◌, ◌∙◌, ◌∷◌, ◌≡◌, ◌≤◌, same_Some, Send, Entry, LinkEvent, Phases, Seen, items_of, Ledger, Image, AreGiven, Bounds, events_of, heeded, items_in, received, KeepsReplies, Rules, opens, IsDueBy, IsMadeDue, Latest, Moment, latest, place_at, received_before, SessionState, GoesWith, HasPassed, HasPassedDue, IsBetween, IsGoing, IsHearing, IsLatestBefore, IsLatestDone, IsTold, IsWaitingFor, KeepsCheckpoints, Since, Story, entries, moment, sends, then_story}
use Rattle.session_state.proofs.events.EventLemmas.{IsNoEnd, latest-took}
use Rattle.session_state.proofs.events.HearLemmas.{HasSameRun, HasHeard, answers_still, goes_then, saved_then}
use Rattle.session_state.proofs.passing.GivenLemmas.{latest-given, items_by, events_of-story}

-- the latest event of a story with one behind it
pub latest_story : (story : Story) {e : LinkEvent} → IsNoEnd e → latest (moment (then_story story (entry.Took e ∷ []))).since ≡ Some (record { before = story.since; event = e })
latest_story story is = latest-took story.since is

-- before it as many items were received as the story has
pub before_story : (rules : Rules) (story : Story) (e : LinkEvent) {number : ℕ} → IsNoEnd e → received rules.bounds (entries story) < number → IsLatestBefore rules (moment (then_story story (entry.Took e ∷ []))) number
before_story rules story e {number = number} is low last found =
    let same : record { before = story.since; event = e } ≡ last = same_Some _ last (sym (latest_story story is) ∙ found) in
    subst (λ (l : Latest). received_before rules.bounds (place_at (moment (then_story story (entry.Took e ∷ [])))) l < number) same low

-- an event that makes nothing owed
abbrev pub IsQuiet : LinkEvent → Type 0
IsQuiet (event.Opens conn) = Unit {0}
IsQuiet (event.Piece conn bytes) = Unit {0}
IsQuiet other = ⊥

quiet_no_end : (e : LinkEvent) → IsQuiet e → IsNoEnd e
quiet_no_end (event.Opens conn) is = tt
quiet_no_end (event.Piece conn bytes) is = tt
quiet_no_end (event.Closes conn) is = tt
quiet_no_end event.Settles is = tt
quiet_no_end event.Ends is = is

quiet_made : (bounds : Bounds) (at : Moment) (conn taken before : ℕ) (e : LinkEvent) → IsQuiet e → IsMadeDue bounds (place_at at) conn taken e before → ⊥
quiet_made bounds at conn taken before (event.Opens opened) is made = made
quiet_made bounds at conn taken before (event.Piece to bytes) is made = made
quiet_made bounds at conn taken before (event.Closes closed) is made = is
quiet_made bounds at conn taken before event.Settles is made = is
quiet_made bounds at conn taken before event.Ends is made = is

done_quiet : (rules : Rules) (story : Story) (e : LinkEvent) {all : List Send} → IsQuiet e → IsLatestDone rules (moment (then_story story (entry.Took e ∷ []))) all
done_quiet rules story e is send stands due =
    let at : Moment = moment (then_story story (entry.Took e ∷ [])) in
    let made : IsDueBy rules.bounds (place_at at) send.conn send.taken (Some (record { before = story.since; event = e })) = subst (IsDueBy rules.bounds (place_at at) send.conn send.taken) (latest_story story (quiet_no_end e is)) due in
    absurd (quiet_made rules.bounds at send.conn send.taken (received_before rules.bounds (place_at at) (record { before = story.since; event = e })) e is made)

-- the latest event behind pieces
pub before_given : (rules : Rules) (story : Story) (more : List Entry) {number : ℕ} → AreGiven more → IsLatestBefore rules (moment story) number → IsLatestBefore rules (moment (then_story story more)) number
before_given rules story more given before last found = before last (sym (latest-given story.since more given) ∙ found)

module _ {R : Type 0} where
  -- items came, or none: what is due has to be passed
  pub hearing_items : {rules : Rules} {image : Image} {began : Since} {seen : Seen} (story : Story) (e : LinkEvent) {session : SessionState R} → IsQuiet e → HasHeard rules image began seen (then_story story (entry.Took e ∷ [])) session
      → received rules.bounds (entries story) ≤ story.survivor.now.state.machine.taken → KeepsReplies rules.bounds (entries (then_story story (entry.Took e ∷ []))) None (sends story) session.replies → session.replies.trial ≡ None
      → KeepsCheckpoints rules image (then_story story (entry.Took e ∷ [])) session → IsHearing rules image began seen session
  hearing_items {rules = rules} story e is heard all replies no_trial saved = record {
    story = then_story story (entry.Took e ∷ []);
    told = heard.told;
    answers = heard.answers;
    goes = heard.goes;
    saved = saved;
    past = heard.past;
    passed = record { replies = replies; no_trial = no_trial; done = done_quiet rules story e is };
    asks = heard.asks;
    latest = before_story rules story e (quiet_no_end e is) (omega (arith, all));
  }

  -- but for its replies, a session is the same
  pub same_run : {old : SessionState R} {replies : Ledger} → HasSameRun old (record old { replies = replies })
  same_run = record { cpu = refl; recorded = refl; choices = refl; taken = refl; steps = refl; first = refl; env = refl; until = refl; options = refl }

  -- guest, items and phases behind pieces
  pub goes_given : {rules : Rules} {story : Story} {old : SessionState R} {replies : Ledger} {phases later : Phases} (more : List Entry) → AreGiven more → ((conn : ℕ) → later conn ≡ phases conn) → GoesWith rules story old phases
      → GoesWith rules (then_story story more) (record old { replies = replies }) later
  goes_given {rules = rules} {story = story} more given stay goes =
      let same : events_of rules.bounds (entries (then_story story more)) ≡ events_of rules.bounds (entries story) = events_of-story rules.bounds story more given in
      goes_then more (same_run) goes (items_by same goes.items)
      (goes.events ∙ ap length (sym same)) (λ conn. stay conn ∙ (goes.phases_are conn ∙ ap (λ es. Rattle.session_history.specs.Keeping.phase_after conn es) (sym same)))

  -- the checkpoints behind pieces
  pub saved_given : {rules : Rules} {image : Image} {story : Story} {old : SessionState R} {replies : Ledger} (more : List Entry) → AreGiven more → replies.first ≡ old.replies.first → KeepsCheckpoints rules image story old
      → KeepsCheckpoints rules image (then_story story more) (record old { replies = replies })
  saved_given {rules = rules} {story = story} more given kept saved =
      let same : events_of rules.bounds (entries (then_story story more)) ≡ events_of rules.bounds (entries story) = events_of-story rules.bounds story more given in
      saved_then more (same_run) kept
      (record {
        items = ap (λ (es : List LinkEvent). items_of rules.bounds.framing (heeded rules.bounds es)) same ∙ sym (append-nil (items_in rules.bounds (entries story)));
        opened = λ conn open_before. ap (λ (es : List LinkEvent). opens conn (heeded rules.bounds es)) same ∙ open_before;
      }) saved

  -- what is due was passed: the guest waits on
  pub waits_on : {rules : Rules} {image : Image} {began : Since} {before seen : Seen} {old : SessionState R} {replies : Ledger} (h : IsHearing rules image began before old) (more : List Entry) → AreGiven more
      → ((conn : ℕ) → seen.phases conn ≡ before.phases conn) → IsTold rules image began seen.told (then_story h.story more) → HasPassed rules (then_story h.story more) replies → HasPassedDue rules (then_story h.story more) → replies.first ≡ old.replies.first
      → IsWaitingFor rules image began seen (record old { replies = replies })
  waits_on {rules = rules} h more given stay told passed due kept = record {
    hearing = record {
      story = then_story h.story more;
      told = told;
      answers = answers_still more (same_run) h.answers;
      goes = goes_given more given stay h.goes;
      saved = saved_given more given kept h.saved;
      past = h.past;
      passed = passed;
      asks = h.asks;
      latest = before_given rules h.story more given h.latest;
    };
    due = due;
  }

  -- and the session stands between two events of its guest
  pub between_on : {rules : Rules} {image : Image} {began : Since} {before seen : Seen} {old : SessionState R} {replies : Ledger} (g : IsGoing rules image began before old) (more : List Entry) → AreGiven more
      → ((conn : ℕ) → seen.phases conn ≡ before.phases conn) → IsTold rules image began seen.told (then_story g.story more) → HasPassed rules (then_story g.story more) replies → HasPassedDue rules (then_story g.story more) → replies.first ≡ old.replies.first
      → IsBetween rules image began seen (record old { replies = replies })
  between_on {rules = rules} g more given stay told passed due kept = record {
    going = record {
      story = then_story g.story more;
      told = told;
      answers = answers_still more (same_run) g.answers;
      goes = goes_given more given stay g.goes;
      saved = saved_given more given kept g.saved;
      past = g.past;
      passed = passed;
      latest = before_given rules g.story more given g.latest;
    };
    due = due;
  }
