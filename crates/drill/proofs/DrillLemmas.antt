-- A session that came to an end, by what its link and its notes have of it.
use Rattle.rx_base.specs.declared.item.Item.{Item}
use Rattle.links.specs.declared.journal.LinkEvent.TheVariants as event
use Rattle.session_history.specs.declared.ends.SessionBreak.TheVariants as session_break
use Rattle.session_history.specs.declared.ends.SessionEnd.TheVariants as session_end
use Rattle.session_history.specs.declared.ends.Stop.TheVariants as stop
use Rattle.session_history.specs.Owing.{OwesNothing}
use Rattle.session_history.proofs.Ended.{at_its_end, came_to}
use Rattle.session_history.specs.Giving.{AreGiven}
use Rattle.session_history.proofs.Endings.{passed_all, received_at_end}
use Rattle.session_state.specs.Sessions.{IsBegun, SessionState}
use Rattle.drill.proofs.Terms.{IfSome, List, None, Option, Some, [], ap, append-nil, drop, false, inl, inr, length, refl, subst, sym, take, take-append-drop, true, ℕ, ◌++◌, ◌∙◌, ◌≡◌, Appends, list_any, Prefix, Entry, LinkEvent, MemoryLink, Piece, events_in, pieces_in, MemoryWent, event_or_ends, link_journal, link_script, seen_in, Choice, Image, SessionEnd, Stop, HasPassedAll, IsAccount, Session, journal_of, EndsAt, EndsBy, HasComeTo, answer_of, end_answer, Rules, entries_of, Episode, Unnoted, Options, keeping_for, rules_of, HasRecovered, IsHandedLast, IsNoteStop, Outcome, IsReadyToServe, Summary, is_end, IsTame, quiet, end_status, passed_bytes, summary_text, keeping, refuses_none, rules, settings}
use Rattle.drill.specs.Drilling.{HasDrilled, SumsUp, WritesFront, WritesLines, nothing_noted, was_noted}
use Rattle.drill.proofs.LinkLemmas.{all_taken, comes_last, tame_goes_on}

-- what has a status is an end
pub ends_with : (why : Stop) (status : ℕ) → end_status (answer_of why) ≡ Some status → (end : SessionEnd) × (why ≡ stop.Ends end)
ends_with (stop.Ends end) status is = (end, refl)
ends_with (stop.Breaks session_break.ReadFault) status is = cc
ends_with (stop.Breaks session_break.WriteFault) status is = cc
ends_with (stop.Breaks session_break.FileFault) status is = cc
ends_with (stop.Breaks session_break.Memory) status is = cc

-- at an end each connection still open was passed all that the run emits on it
all_at_end : {rules : Rules} {image : Image} {session : Session} {end : SessionEnd} → IsAccount rules image session → EndsAt rules session end → HasPassedAll rules session
all_at_end {rules = rules} {image = image} {session = session} account ends =
    passed_all rules image session account.passed
    (subst (λ (entries : List Entry). OwesNothing rules.bounds rules.hold (record { start = entries_of session.earlier; since = session.since ++ entries; at_end = true; taken = session.survivor.now.state.machine.taken }) session.survivor.now.state.sends)
    (sym (append-nil session.ending) ∙ ap (λ broken. session.ending ++ broken) (sym ends.unbroken)) ends.owes_nothing)

no_break : (end : SessionEnd) → stop.Ends end ≡ stop.Breaks session_break.Memory → ⊥
no_break end is = cc

-- no episode is missing where a session came to an end
none_missing : {old new : Option Unnoted} (why : Stop) (end : SessionEnd) (tail : List Choice) (missing : List Episode) → why ≡ stop.Ends end → IsHandedLast old new why tail missing → missing ≡ []
none_missing why end tail missing is (inl handed) = handed.1
none_missing why end tail missing is (inr failed) = absurd (subst IsNoteStop is failed.0)

-- some first ones of a list are a front of it
front_of : (events list : List LinkEvent) (taken : ℕ) → list ≡ take taken events → Prefix list events
front_of events list taken is = (drop taken events, ap (λ l. l ++ drop taken events) is ∙ take-append-drop taken events)

-- What is known of a session and of its link, its notes and its summary behind it.
pub record Knows (events : List LinkEvent) (made link : MemoryLink) (end : SessionEnd) (outcome : Outcome) (episodes : List Episode) (summary : Summary) : Type 0 where
  pub began : link_journal made ≡ []
  pub script : (link_script made).events ≡ events
  pub went : MemoryWent made link
  pub tame : IsTame link
  pub no_end : list_any is_end events ≡ false
  pub stops : outcome.stop ≡ stop.Ends end
  pub items : summary.items ≡ outcome.taken
  pub count : summary.episodes ≡ length episodes
  pub bytes : summary.bytes ≡ passed_bytes (link_journal link)
  pub status : Some summary.status ≡ end_status (end_answer end)

sums_up_here : (events : List LinkEvent) (image : Image) (counted : ℕ) (made link : MemoryLink) (end : SessionEnd) (outcome : Outcome) (choices : List Choice) (episodes : List Episode) (summary : Summary)
    → Knows events made link end outcome episodes summary → HasRecovered rules image keeping (quiet (seen_in made)) (quiet (seen_in link)) outcome nothing_noted (was_noted choices episodes) counted → SumsUp events image counted summary
sums_up_here events image counted made link end outcome choices episodes summary knows recovered =
    let session : Session = recovered.telling.account in
    let script = link_script link in
    let same : link_journal link ≡ journal_of session = recovered.shows.tells.journal ∙ ap (λ l. l ++ journal_of session) knows.began in
    let listed : script.events ≡ events = knows.went.played ∙ knows.script in
    let played : events_in (journal_of session) ≡ take script.taken events = ap events_in (sym same) ∙ knows.tame.played ∙ ap (take script.taken) listed in
    let its = recovered.is.is.ended in
    let ends : EndsAt rules session end = at_its_end rules session end (subst (EndsBy rules session) knows.stops its.ends) in
    let notes = recovered.is.notes in
    let none : notes.missing ≡ [] = none_missing outcome.stop end outcome.tail notes.missing knows.stops notes.handed in
    record {
      telling = recovered.telling;
      end = end;
      coming = (quiet (seen_in link)).coming;
      outcome = outcome;
      stops = knows.stops;
      choices = choices;
      episodes = episodes;
      is = recovered.is;
      plays = front_of events _ script.taken played;
      plays_all = λ finished.
          let to : HasComeTo rules (quiet (seen_in link)).coming session session_end.Finished = came_to its.comes (ends.came ∙ ap Some finished) in
          let last : event_or_ends (drop script.taken script.events) ≡ event.Ends = comes_last _ _ _ to.stands.2 in
          played ∙ all_taken events script.taken knows.no_end (subst (λ (list : List LinkEvent). event_or_ends (drop script.taken list) ≡ event.Ends) listed last);
      never_refused = λ kind offset refused.
          let to : HasComeTo rules (quiet (seen_in link)).coming session (session_end.InputRefused kind offset) = came_to its.comes (ends.came ∙ ap Some refused) in
          tame_goes_on link knows.tame kind offset to.stands.2;
      takes_all = λ finished.
          let to : HasComeTo rules (quiet (seen_in link)).coming session session_end.Finished = came_to its.comes (ends.came ∙ ap Some finished) in
          to.stands.0.taken ∙ sym (ap (λ (list : List Item). length list) (received_at_end rules.bounds session its.pieces (subst AreGiven (sym ends.unbroken) tt)));
      all_counted = recovered.is.all_counted (λ broken. no_break end (sym knows.stops ∙ broken));
      passed_all = all_at_end its.account ends;
      none_gone = ap (λ l. list_any (λ (piece : Piece). piece.gone) (pieces_in l)) (sym same) ∙ knows.tame.none_gone;
      items_are = knows.items ∙ sym recovered.is.taken_is;
      episodes_are =
          knows.count ∙ ap (λ (l : List Episode). length l) (notes.episodes_noted ∙ sym (append-nil notes.told) ∙ ap (λ l. notes.told ++ l) (sym none) ∙ notes.all_told);
      bytes_are = knows.bytes ∙ ap passed_bytes same;
      status_is = knows.status;
    }

-- the same with the rules and the options that a session has, and with notes that were empty
pub sums_up : (own : Rules) (options : Options) (events : List LinkEvent) (image : Image) (counted : ℕ) (made link : MemoryLink) (end : SessionEnd) (outcome : Outcome) (first_choices choices : List Choice) (first_episodes episodes : List Episode) (summary : Summary)
    → own ≡ rules_of options refuses_none → options ≡ settings → first_choices ≡ [] → first_episodes ≡ [] → Knows events made link end outcome episodes summary
    → HasRecovered own image (keeping_for options) (quiet (seen_in made)) (quiet (seen_in link)) outcome (was_noted first_choices first_episodes) (was_noted choices episodes) counted → SumsUp events image counted summary
sums_up own options events image counted made link end outcome first_choices choices first_episodes episodes summary allowed settled no_choices no_episodes knows recovered =
    sums_up_here events image counted made link end outcome choices episodes summary knows
    (subst (λ (o : Options). HasRecovered (rules_of o refuses_none) image (keeping_for o) (quiet (seen_in made)) (quiet (seen_in link)) outcome nothing_noted (was_noted choices episodes) counted) settled
    (subst (λ (l : List Choice). HasRecovered (rules_of options refuses_none) image (keeping_for options) (quiet (seen_in made)) (quiet (seen_in link)) outcome (was_noted l []) (was_noted choices episodes) counted) no_choices
    (subst (λ (l : List Episode). HasRecovered (rules_of options refuses_none) image (keeping_for options) (quiet (seen_in made)) (quiet (seen_in link)) outcome (was_noted first_choices l) (was_noted choices episodes) counted) no_episodes
    (subst (λ (r : Rules). HasRecovered r image (keeping_for options) (quiet (seen_in made)) (quiet (seen_in link)) outcome (was_noted first_choices first_episodes) (was_noted choices episodes) counted) allowed recovered))))

module _ {R : Type 0} where
  -- a session that was begun is so with what it has itself
  pub begun_own : (image : Image) (options : Options) (rule : R) (session : SessionState R) → IsBegun image options rule session → IsBegun image session.options session.cpu.rule session
  begun_own image options rule session begun =
      subst (λ r. IsBegun image session.options r session) (sym begun.cpu.rule_is) (subst (λ (o : Options). IsBegun image o rule session) (sym begun.options_are) begun)

  pub ready : (image : Image) (options : Options) (rule : R) (session : SessionState R) → IsBegun image options rule session → IsReadyToServe session
  ready image options rule session begun = record { image = image; begun = begun_own image options rule session begun }

  -- what sums up a session over some events, at the image that it was begun with
  pub at_image : (result : Option Summary) (events drilled : List LinkEvent) (image : Image) (options : Options) (rule : R) (session : SessionState R) (counted : ℕ) → events ≡ drilled → IsBegun image options rule session
      → IfSome result (λ summary. (other : Image) → IsBegun other session.options session.cpu.rule session → SumsUp events other counted summary) → IfSome result (SumsUp drilled image counted)
  at_image None events drilled image options rule session counted same begun sums = tt
  at_image (Some summary) events drilled image options rule session counted same begun sums =
      subst (λ list. SumsUp list image counted summary) same (sums image (begun_own image options rule session begun))

-- the first bytes of the lines, by the text that was given
pub front_written : (seed count counted : ℕ) (old new : Option (List ℕ)) (summary : Summary) (text : List ℕ) → HasDrilled seed count counted summary → text ≡ summary_text seed count summary → (front : List ℕ) × Prefix front text × Appends old new front
    → WritesFront seed count counted old new
front_written seed count counted old new summary text drilled is wrote = record { summary = summary; drilled = drilled; front = wrote.0; first = subst (Prefix wrote.0) is wrote.1; wrote = wrote.2 }

pub lines_written : (seed count counted : ℕ) (old new : Option (List ℕ)) (summary : Summary) (text : List ℕ) → HasDrilled seed count counted summary → text ≡ summary_text seed count summary → Appends old new text
    → WritesLines seed count counted old new
lines_written seed count counted old new summary text drilled is wrote = record { summary = summary; drilled = drilled; wrote = subst (Appends old new) is wrote }
