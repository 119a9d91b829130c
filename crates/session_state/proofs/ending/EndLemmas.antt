-- The end of a session: what is left is passed, and there is an account of it all.
use Rattle.session_history.specs.declared.ends.Stop.TheVariants as stop
use Rattle.session_history.specs.Ends.{TakesAtEnd, StaysKnown}
use Rattle.links.specs.declared.journal.Entry.TheVariants as entry
use Rattle.session_history.specs.declared.ends.SessionEnd.TheVariants as session_end
use Rattle.session_state.proofs.Terms.{Bool, List, None, Option, Some, [], ap, append-nil, append_assoc, arith, false, length, map, refl, subst, sym, true, ℕ, ◌++◌, ◌+◌, ◌-◌, ◌∙◌, ◌∷◌, ◌≡◌, ◌≤◌, none-some, IfSome, option_map, Entry, tells_then, Coming, Tells, Told, Seen, but_given, Choice, Image, Cause, SessionBreak, SessionEnd, Stop, broken_account, ending_account, ending_none, ending_piece, serving_account, IsAccount, IsBroken, Session, EndsBy, HandedLast, OwesNothingAtEnd, ShowsSession, StandsAt, WasAsked, AreDuePieces, then_entries, items_in, IsDuePiece, LeavesNothing, Rules, entries_of, then_entry, Moment, OwesNothing, Ending, Serving, ending_at, starting_path, Noted, steps_later, episode_of, Keeping, steps_of, SessionState, AllAnswered, GivesUpBy, HasGivenUp, HasNoted, HasWatched, IsHandedLast, IsTelling, Telling, Walk, all_steps, episodes_of, spent, steps_unanswered, trials_of, HoldsCheckpoints, IsReadFault, keeping_of, AnswersFor, IsBrokenOff, IsEnding, IsTold, Since, Story, entries, moment, sends, then_story, IsFinishing, outcome_of}
use Rattle.session_state.proofs.recovering.TableLemmas.{tables_here, tables_fault}
use Rattle.session_state.proofs.guest.GuestLemmas.{notes_here}
use Rattle.session_state.proofs.standing.HeldLemmas.{held_given, rings_held}
use Rattle.session_state.proofs.guest.NoteLemmas.{notes_fault}
use Rattle.session_state.proofs.passing.PieceLemmas.{are_given, pieces}

-- the moment of a story that has come to its end
abbrev pub end_of : Story → Moment
end_of story = ending_at story.earlier story.since true story.survivor.now.state.machine.taken

-- the moment behind one piece more
moved_on : (P : Moment → Type 0) (story : Story) (ending : List Entry) (e : Entry) → P (then_entry (ending_at story.earlier (story.since ++ ending) true story.survivor.now.state.machine.taken) e) → P (ending_at story.earlier (story.since ++ (ending ++ e ∷ [])) true story.survivor.now.state.machine.taken)
moved_on P story ending e h = subst (λ (since : List Entry). P (ending_at story.earlier since true story.survivor.now.state.machine.taken)) (append_assoc story.since ending (e ∷ [])) h

-- several pieces
last_pieces : {rules : Rules} {image : Image} (story : Story) {ending : List Entry} (more : List Entry) → Ending rules image story.earlier story.survivor story.since ending true → AreDuePieces rules (sends story) (ending_at story.earlier (story.since ++ ending) true story.survivor.now.state.machine.taken) more
    → Ending rules image story.earlier story.survivor story.since (ending ++ more) true
last_pieces {rules = rules} {image = image} story {ending = ending} [] was due = subst (λ (es : List Entry). Ending rules image story.earlier story.survivor story.since es true) (sym (append-nil ending)) was
last_pieces {rules = rules} {image = image} story {ending = ending} (entry.Gave conn bytes false ∷ more) was due =
    let e : Entry = entry.Gave conn bytes false in
    subst (λ (es : List Entry). Ending rules image story.earlier story.survivor story.since es true) (append_assoc ending (e ∷ []) more)
    (last_pieces story more (ending_piece rules image story.earlier story.survivor story.since ending true conn bytes false was due.0) (moved_on (λ m. AreDuePieces rules (sends story) m more) story ending e due.1))
last_pieces {rules = rules} {image = image} story {ending = ending} (entry.Gave conn bytes true ∷ more) was due =
    let e : Entry = entry.Gave conn bytes true in
    subst (λ (es : List Entry). Ending rules image story.earlier story.survivor story.since es true) (append_assoc ending (e ∷ []) more)
    (last_pieces story more (ending_piece rules image story.earlier story.survivor story.since ending true conn bytes true was due.0) (moved_on (λ m. AreDuePieces rules (sends story) m more) story ending e due.1))
last_pieces story (entry.Took event ∷ more) was due = absurd due

-- a story that has come to an end, with pieces that were passed there
abbrev pub ended_account : Story → SessionEnd → List Entry → List Entry → Session
ended_account story end ending broken = record { earlier = story.earlier; survivor = story.survivor; since = story.since; came = Some end; ending = ending; broken = broken }

-- a survivor behind which a walk gave up owed nothing
gave_nothing : (rules : Rules) (image : Image) (keeping : Keeping) (story : Story) (walk : Option Walk) {cause : Cause} → option_map (λ (one : Walk). one.cause) walk ≡ Some cause → IfSome walk (HasGivenUp rules image keeping story)
    → LeavesNothing rules (entries_of story.earlier) story.since story.survivor
gave_nothing rules image keeping story None {cause = cause} is walked = absurd (none-some cause is)
gave_nothing rules image keeping story (Some walk) is walked = walked.owes_nothing

-- what stands behind one of the seven ends
ends_end : (rules : Rules) (image : Image) (keeping : Keeping) (story : Story) (walk : Option Walk) (end : SessionEnd) (more : List Entry) → OwesNothingAtEnd rules (ended_account story end more []) → IfSome walk (HasGivenUp rules image keeping story)
    → GivesUpBy walk end → EndsBy rules (ended_account story end more []) (stop.Ends end)
ends_end rules image keeping story walk session_end.Finished more owes walked gave = record { came = refl; owes_nothing = owes; unbroken = refl }
ends_end rules image keeping story walk (session_end.Exited code) more owes walked gave = record { came = refl; owes_nothing = owes; unbroken = refl }
ends_end rules image keeping story walk (session_end.GaveUp point cause) more owes walked gave = (record { came = refl; owes_nothing = owes; unbroken = refl }, gave_nothing rules image keeping story walk gave walked)
ends_end rules image keeping story walk (session_end.InputRefused kind offset) more owes walked gave = record { came = refl; owes_nothing = owes; unbroken = refl }
ends_end rules image keeping story walk (session_end.MessageTooLong conn) more owes walked gave = record { came = refl; owes_nothing = owes; unbroken = refl }
ends_end rules image keeping story walk session_end.LimitItems more owes walked gave = record { came = refl; owes_nothing = owes; unbroken = refl }
ends_end rules image keeping story walk session_end.LimitEvents more owes walked gave = record { came = refl; owes_nothing = owes; unbroken = refl }

-- with its last piece, which may be broken off
account_broken : {rules : Rules} {image : Image} (story : Story) {more : List Entry} (end : SessionEnd) (broken : List Entry) → Ending rules image story.earlier story.survivor story.since more true → IsBroken rules (sends story) (then_entries (end_of story) more) broken → IsAccount rules image (ended_account story end more broken)
account_broken {rules = rules} {image = image} story {more = more} end [] was part = ending_account rules image story.earlier story.survivor story.since more (Some end) was
account_broken {rules = rules} {image = image} story {more = more} end (entry.Gave conn bytes false ∷ []) was part = broken_account rules image story.earlier story.survivor story.since more (Some end) conn bytes was part
account_broken story end (entry.Gave conn bytes true ∷ []) was part = absurd part
account_broken story end (entry.Gave conn bytes false ∷ next ∷ rest) was part = absurd part
account_broken story end (entry.Gave conn bytes true ∷ next ∷ rest) was part = absurd part
account_broken story end (entry.Took event ∷ rest) was part = absurd part

-- a story with more pieces, of which the last was broken off
abbrev pub off_account : Story → List Entry → List Entry → Session
off_account story more broken = record { earlier = story.earlier; survivor = story.survivor; since = story.since ++ more; came = None; ending = []; broken = broken }

off_is : {rules : Rules} {image : Image} (story : Story) (more broken : List Entry) → Serving rules image story.earlier story.survivor (story.since ++ more) → IsBroken rules (sends story) (then_entries (moment story) more) broken
    → IsAccount rules image (off_account story more broken)
off_is {rules = rules} {image = image} story more [] serving part = serving_account rules image story.earlier story.survivor (story.since ++ more) None serving
off_is {rules = rules} {image = image} story more (entry.Gave conn bytes false ∷ []) serving part =
    let none : story.since ++ more ≡ (story.since ++ more) ++ [] = sym (append-nil (story.since ++ more)) in
    broken_account rules image story.earlier story.survivor (story.since ++ more) [] None conn bytes (ending_none rules image story.earlier story.survivor (story.since ++ more) false serving)
    (subst (λ (since : List Entry). IsDuePiece rules (sends story) (ending_at story.earlier since false story.survivor.now.state.machine.taken) conn bytes) none part)
off_is story more (entry.Gave conn bytes true ∷ []) serving part = absurd part
off_is story more (entry.Gave conn bytes false ∷ next ∷ rest) serving part = absurd part
off_is story more (entry.Gave conn bytes true ∷ next ∷ rest) serving part = absurd part
off_is story more (entry.Took event ∷ rest) serving part = absurd part

-- all that was counted: the survivors before, this one, and the trials behind it
count_all : {counted since : ℕ} (lost : ℕ) {before steps now begun : ℕ} (tried : ℕ) → counted ≡ since + steps → since ≡ lost + tried → before ≡ lost + begun → steps ≡ now → begun ≤ now → counted ≡ before + (now - begun) + tried
count_all lost tried all is earlier same later = omega (arith, all, is, earlier, same, later)

count_off : {counted : ℕ} (since before : ℕ) {steps now begun : ℕ} (tried : ℕ) → counted ≡ since + steps → before + tried ≡ since + begun → steps ≡ now → begun ≤ now → counted ≡ before + (now - begun) + tried
count_off since before tried all earlier same later = omega (arith, all, earlier, same, later)

-- and with what broke off
count_rest : {counted : ℕ} (since before : ℕ) {steps now begun : ℕ} (tried rest : ℕ) → counted ≡ since + steps → before + tried + rest ≡ since + begun → steps ≡ now → begun ≤ now → counted ≡ before + (now - begun) + tried + rest
count_rest since before tried rest all earlier same later = omega (arith, all, earlier, same, later)

-- or with nothing more
with_none : {counted all : ℕ} → counted ≡ all → counted ≡ all + 0
with_none same = omega (arith, same)

-- what broke a session off
same_break : {first second : SessionBreak} → stop.Breaks first ≡ stop.Breaks second → first ≡ second
same_break is = cc

module _ {R : Type 0} where
  -- a session at its end that is seen in another way
  pub ending_moved : {rules : Rules} {image : Image} {began : Since} {first seen : Seen} {session other : SessionState R} {end : SessionEnd} → session ≡ other → (e : IsEnding rules image began seen session end) → IsFinishing rules first seen e.story end
      → (e : IsEnding rules image began seen other end) × IsFinishing rules first seen e.story end
  ending_moved {rules = rules} {image = image} {began = began} {first = first} {seen = seen} {end = end} same e finishing =
      subst (λ (s : SessionState R). (e : IsEnding rules image began seen s end) × IsFinishing rules first seen e.story end) same (e, finishing)

  ended_pieces : {rules : Rules} {image : Image} {began : Since} {seen : Seen} {session : SessionState R} {end : SessionEnd} (e : IsEnding rules image began seen session end) {more : List Entry}
      → AreDuePieces rules (sends e.story) (end_of e.story) more → Ending rules image e.story.earlier e.story.survivor e.story.since more true
  ended_pieces {rules = rules} {image = image} e {more = more} due =
      let story : Story = e.story in
      last_pieces story more (ending_none rules image story.earlier story.survivor story.since true e.told.serving)
      (subst (λ (since : List Entry). AreDuePieces rules (sends story) (ending_at story.earlier since true story.survivor.now.state.machine.taken) more) (sym (append-nil story.since)) due)

  -- the telling of a session that came to its end, with pieces that were passed there
  abbrev pub ended_telling : {rules : Rules} {image : Image} {began : Since} {seen : Seen} {session : SessionState R} {end : SessionEnd} → IsEnding rules image began seen session end → List Entry → List Entry → Telling
  ended_telling {end = end} e more broken = record { account = ended_account e.story end more broken; recoveries = e.story.recoveries; walk = e.walk }

  -- it is one, whatever is answered then
  tells_end : {rules : Rules} {image : Image} {began : Since} {before seen : Seen} {session : SessionState R} {end : SessionEnd} {answered : Stop} (e : IsEnding rules image began before session end) {more : List Entry} (broken : List Entry)
      → seen ≡ but_given before seen → AreDuePieces rules (sends e.story) (end_of e.story) more → IsBroken rules (sends e.story) (then_entries (end_of e.story) more) broken → EndsBy rules (ended_account e.story end more broken) answered
      → IsTelling rules image (keeping_of session) seen.coming (ended_telling e more broken) answered
  tells_end {rules = rules} {seen = seen} {end = end} e {more = more} broken same due part ends =
      record {
        ended = record {
          account = account_broken e.story end broken (ended_pieces e due) part;
          comes = record {
            stands = subst (λ (c : Option Coming). StandsAt rules (entries e.story) c e.story.survivor end) (sym (ap (λ (s : Seen). s.coming) same)) e.stands;
          };
          pieces = are_given rules (sends e.story) (end_of e.story) more due;
          ends = ends;
        };
        recovered = e.told.recovered;
        ringed = rings_held e.holds;
        walked = e.walked;
        gave_up = e.gave_up;
      }

  -- which its link shows
  shows_end : {rules : Rules} {image : Image} (began : Since) {first before seen : Seen} {session : SessionState R} {end : SessionEnd} (e : IsEnding rules image (record began { told = first.told }) before session end) (more broken : List Entry)
      → seen ≡ but_given before seen → IsFinishing rules first before e.story end → Tells before.told seen.told (more ++ broken) → ShowsSession rules first seen (ended_account e.story end more broken)
  shows_end began {first = first} {seen = seen} {end = end} e more broken same finishing tells =
      record {
        tells = subst (Tells first.told seen.told) (append_assoc (entries_of e.story.earlier) e.story.since (more ++ broken)) (tells_then _ _ _ _ _ e.told.tells tells);
        asked = λ none. finishing.asked (sym (ap (λ (s : Seen). s.takes) same) ∙ none);
        at_end = (
          subst (λ (b : Bool). TakesAtEnd b end) (sym (ap (λ (s : Seen). s.takes) same)) finishing.takes,
          subst (StaysKnown first.coming) (sym (ap (λ (s : Seen). s.coming) same)) finishing.known,
        );
      }

  -- all instructions were counted
  counts_end : {rules : Rules} {image : Image} {began : Since} {seen : Seen} {session : SessionState R} {end : SessionEnd} (e : IsEnding rules image began seen session end) {counted : ℕ} → counted ≡ began.lost + session.steps → counted ≡ all_steps rules image e.story e.walk
  counts_end {rules = rules} e counts =
      let story : Story = e.story in
      count_all e.lost (steps_of (trials_of e.walk)) counts e.lost_is e.told.counted e.answers.steps
      (steps_later rules.limits (items_in rules.bounds (entries story)) story.survivor.plan story.survivor.begun story.survivor.now e.told.way)

  -- all was passed
  pub served_end : (P : Telling → Type 0) {rules : Rules} {image : Image} (began : Since) {first before seen : Seen} {session : SessionState R} {end : SessionEnd} (e : IsEnding rules image (record began { told = first.told }) before session end) {more : List Entry}
      → seen ≡ but_given before seen → AreDuePieces rules (sends e.story) (end_of e.story) more → Tells before.told seen.told more → OwesNothing rules.bounds rules.hold (then_entries (end_of e.story) more) (sends e.story)
      → IsFinishing rules first before e.story end → (noted : Noted) (recorded : ℕ) (tail : List Choice) → (notes : HasNoted began.noted_before noted (stop.Ends end) e.story.survivor.now.choices (episodes_of e.story e.walk) recorded tail) → length notes.missing ≡ 0
      → {counted : ℕ} → counted ≡ began.lost + session.steps → P (ended_telling e more [])
      → (watched : HasWatched rules image (keeping_of session) first seen (record { stop = stop.Ends end; recorded = recorded; tail = tail; taken = session.taken; steps = session.steps }) began.noted_before noted counted began.tables_before began.tables) × P watched.recovered.telling
  served_end P {rules = rules} {image = image} began {before = before} {seen = seen} {session = session} {end = end} e {more = more} same due tells owes finishing noted recorded tail notes whole counts holds = (
    record {
      recovered = record {
        telling = ended_telling e more [];
        is = record {
          is = tells_end e [] same due tt (ends_end rules image (keeping_of session) e.story e.walk end more owes e.walked e.gave_up);
          notes = notes;
          unnoted = λ some. absurd (omega (arith, some, whole));
          taken_is = sym e.answers.taken;
          steps_are = sym e.answers.steps;
          all_counted = λ others. counts_end e counts;
          unanswered = λ memory. absurd (let never : ⊥ = cc in never);
        };
        shows = shows_end began e more [] same finishing (subst (Tells before.told seen.told) (sym (append-nil more)) tells);
        handed = tt;
      };
      watched = e.tables;
    },
    holds,
  )

  -- a fault came while it was passed
  pub served_broken : (P : Telling → Type 0) {rules : Rules} {image : Image} (began : Since) {first before seen : Seen} {session : SessionState R} {end : SessionEnd} {fault : SessionBreak} (e : IsEnding rules image (record began { told = first.told }) before session end) {more broken : List Entry}
      → seen ≡ but_given before seen → AreDuePieces rules (sends e.story) (end_of e.story) more → IsBroken rules (sends e.story) (then_entries (end_of e.story) more) broken → Tells before.told seen.told (more ++ broken)
      → EndsBy rules (ended_account e.story end more broken) (stop.Breaks fault) → HandedLast rules (ended_account e.story end more broken) seen fault → IsFinishing rules first before e.story end
      → (noted : Noted) → noted.choices ≡ began.noted.choices → noted.episodes ≡ began.noted.episodes → IsHandedLast began.noted.unnoted noted.unnoted (stop.Breaks fault) session.choices [] → {counted : ℕ} → counted ≡ began.lost + session.steps → P (ended_telling e more broken)
      → (watched : HasWatched rules image (keeping_of session) first seen (record { stop = stop.Breaks fault; recorded = session.recorded; tail = session.choices; taken = session.taken; steps = session.steps }) began.noted_before noted counted began.tables_before began.tables) × P watched.recovered.telling
  served_broken P {rules = rules} began {fault = fault} e {more = more} {broken = broken} same due part tells ends handed finishing noted same_choices same_episodes unnoted counts holds = (
    record {
      recovered = record {
        telling = ended_telling e more broken;
        is = record {
          is = tells_end e broken same due part ends;
          notes = notes_fault e same_choices same_episodes unnoted;
          unnoted = λ some. absurd (omega (arith, some));
          taken_is = sym e.answers.taken;
          steps_are = sym e.answers.steps;
          all_counted = λ others. counts_end e counts;
          unanswered = λ memory. record { rest = AllAnswered; is = tt; all = with_none (counts_end e counts) };
        };
        shows = shows_end began e more broken same finishing tells;
        handed = handed;
      };
      watched = tables_fault rules e.story e.walk (stop.Breaks fault) began.tables_before began.tables (λ same. let never : ⊥ = cc in never) e.tables;
    },
    holds,
  )

  -- a session that was broken off has served
  pub served_off : (P : Telling → Type 0) {rules : Rules} {image : Image} (began : Since) {first seen : Seen} {session : SessionState R} {why : SessionBreak} → (off : IsBrokenOff rules image (record began { told = first.told }) seen session why) → (seen.takes ≡ false → WasAsked rules off.telling.account)
      → {counted : ℕ} → counted ≡ began.lost + session.steps → P off.telling
      → (watched : HasWatched rules image (keeping_of session) first seen (outcome_of (stop.Breaks why) session) began.noted_before began.noted counted began.tables_before began.tables) × P watched.recovered.telling
  served_off P {rules = rules} {image = image} began {first = first} {seen = seen} off asked all holds = (
    record {
      recovered = record {
        telling = off.telling;
        is = record {
          is = off.is;
          notes = off.notes;
          unnoted = off.unnoted;
          taken_is = sym off.taken;
          steps_are = sym off.steps;
          all_counted = λ others. count_off began.lost ((starting_path rules image).steps + spent off.telling.recoveries) (steps_of (trials_of off.telling.walk)) all (off.counted (λ same. others (ap stop.Breaks same))) off.steps off.later;
          unanswered = λ memory.
              let cut = off.unanswered (same_break memory) in
              record {
                rest = cut.rest;
                is = cut.is;
                all = count_rest began.lost ((starting_path rules image).steps + spent off.telling.recoveries) (steps_of (trials_of off.telling.walk)) (steps_unanswered off.telling.account.survivor cut.rest) all cut.counted off.steps off.later;
              };
        };
        shows = record {
          tells = off.tells;
          asked = asked;
          at_end = subst (λ (came : Option SessionEnd). IfSome came (λ end. TakesAtEnd seen.takes end × StaysKnown first.coming seen.coming)) (sym off.none_came) tt;
        };
        handed = off.handed;
      };
      watched = off.tables;
    },
    holds,
  )

  -- a fault came while what is due was passed
  pub off_pieces : {rules : Rules} {image : Image} {began : Since} {old : Told} {seen : Seen} {story : Story} {session : SessionState R} {fault : SessionBreak} (more broken : List Entry) → IsTold rules image began old story → AnswersFor began story session
      → AreDuePieces rules (sends story) (moment story) more → IsBroken rules (sends story) (then_entries (moment story) more) broken → Tells old seen.told (more ++ broken)
      → EndsBy rules (off_account story more broken) (stop.Breaks fault) → HandedLast rules (off_account story more broken) seen fault → HoldsCheckpoints rules image story.earlier (entries story) story.recoveries story.survivor session → (IsReadFault fault → ⊥) → IsBrokenOff rules image began seen session fault
  off_pieces {rules = rules} {image = image} {began = began} {seen = seen} {story = story} {session = session} {fault = fault} more broken told answers due part tells ends handed held no_request =
      record {
        telling = record { account = off_account story more broken; recoveries = story.recoveries; walk = None };
        is = record {
          ended = record { account = off_is story more broken (pieces more told.serving due) part; comes = tt; pieces = tt; ends = ends };
          recovered = told.recovered;
          ringed = rings_held held;
          walked = tt;
          gave_up = tt;
        };
        none_came = refl;
        tells =
            subst (Tells began.told seen.told) (append_assoc (entries_of story.earlier) story.since (more ++ broken) ∙ ap (λ es. entries_of story.earlier ++ es) (sym (append_assoc story.since more broken)))
            (tells_then _ _ _ _ _ told.tells tells);
        handed = handed;
        holds = held_given story more (are_given rules (sends story) (moment story) more due) held;
        handled = λ is. absurd (no_request is);
        notes = notes_here (map episode_of story.recoveries) told.episodes answers refl;
        unnoted = λ some. absurd (omega (arith, some));
        tables = tables_here rules (then_story story more) (stop.Breaks fault) began.tables_before began.tables told.tables;
        taken = answers.taken;
        steps = answers.steps;
        counted = λ others. let none : steps_of [] ≡ 0 = refl in let counts = told.counted in omega (arith, none, counts);
        unanswered = λ memory. record { rest = AllAnswered; is = tt; counted = let none : steps_of [] ≡ 0 = refl in let counts = told.counted in omega (arith, none, counts) };
        later = steps_later rules.limits (items_in rules.bounds (entries story)) story.survivor.plan story.survivor.begun story.survivor.now told.way;
      }
