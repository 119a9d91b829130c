-- What the laws of sessions say of a `serve`.
use Rattle.rx_base.specs.declared.fault.IoFault.TheVariants as fault
use Rattle.run_history.specs.declared.answer.Answer.TheVariants as answer
use Rattle.rx_serve.proofs.Terms.{List, None, Option, Some, [], ap, append_assoc, false, inl, inr, refl, subst, sym, ℕ, ◌++◌, ◌∙◌, ◌≡◌, ◌≢◌, IoFault, Entry, LinkEvent, ComesUntold, Coming, events_in, PortEntry, PortLimits, Image, Answer, Stop, events_in-given, given_broken, Session, journal_of, IsComplete, NoOtherAnswer, SentIsPassed, IsEnd, IsEnded, answer_of, before_end, AreGiven, AreHeeded, heeded, nothing_before, Rules, entries_of, is_gone, CalledPort, GoesOverPort, GoesOver, Port, Route, Trunk, RunValue, End, Outside, HasLoadCause, rules_of_run, window_of, IsFilesAnswer, HasServed, IsBindAnswer, AllSendsAreGiven, GivesAll, GivesOver, GoodClientsAreServed, NoServeIsRefused, OfClients}
use Rattle.rx_serve.proofs.PortSends.{all_given}
use Rattle.session_history.proofs.PortCauses.{no_refusal}
use Rattle.rx_serve.proofs.NotingLemmas.{closes_other, closes_same}
use Rattle.rx_serve.proofs.SessionLaws.{complete_note}

-- a session that passes pieces alone at its end took all of its events before
events_at_end : (session : Session) → AreGiven session.ending → AreGiven session.broken → events_in (journal_of session) ≡ events_in (before_end session)
events_at_end session ending broken =
    let before : List Entry = before_end session in
    let whole : journal_of session ≡ (before ++ session.ending) ++ session.broken =
    sym (append_assoc (entries_of session.earlier) session.since (session.ending ++ session.broken)) ∙ sym (append_assoc before session.ending session.broken) in
    ap events_in whole ∙ (events_in-given (before ++ session.ending) session.broken broken ∙ events_in-given before session.ending ending)

-- a fault of the two files is no refusal
not_refusal : (kind offset : ℕ) (why : IoFault) → IsFilesAnswer why (answer.InputRefused kind offset) → ⊥
not_refusal kind offset fault.Failed note = cc
not_refusal kind offset fault.Memory note = cc

-- over a port no event is told to come
comes_untold : (route : Route) (rules : Rules) (coming : Option Coming) (session : Session) (why : Stop) → OfClients route → GoesOver route rules coming session why → coming ≡ Some ComesUntold
comes_untold (Trunk source source_later sink sink_later) rules coming session why clients goes = absurd clients
comes_untold (Port limits calls calls_later) rules coming session why clients goes = goes.0

-- the end of a session over a port
module _ {value : RunValue} {route : Route} {old new : Outside} {end : End} (clients : OfClients route) (served : HasServed value route old new end) where
  ended : IsEnded (rules_of_run value) served.image (Some ComesUntold) served.noted.serves.telling.account served.why
  ended =
      let serves = served.noted.serves in
      subst (λ (coming : Option Coming). IsEnded (rules_of_run value) served.image coming serves.telling.account served.why) (comes_untold route (rules_of_run value) serves.coming serves.telling.account served.why clients serves.goes) serves.is.is.ended

  good_clients : NoOtherAnswer → AreHeeded (rules_of_run value).bounds (journal_of served.noted.serves.telling.account) → (why : Stop) × (end.answer ≡ answer_of why) × IsComplete (rules_of_run value) served.noted.serves.telling.account why
  good_clients law heeds =
      let rules : Rules = rules_of_run value in
      let session : Session = served.noted.serves.telling.account in
      let same = events_at_end session ended.pieces (given_broken rules session.survivor.now.state.sends _ session.broken ended.account.broken) in
      let before : AreHeeded rules.bounds (before_end session) = subst (λ (events : List LinkEvent). heeded rules.bounds events ≡ events) same heeds in
      let own : IsComplete rules session served.why = law rules served.image ComesUntold session served.why ended before (λ kind offset refuses. cc) in
      elim served.closes [
        | inl (is_end, (is, ends)) ↦ (served.why, is, own)
        | inr (inl (is_end, (why, (note, ends)))) ↦ complete_note rules session why end.answer note
        | inr (inr (none, (is, left))) ↦ (served.why, is, own)
      ]

  served_not_refused : (kind offset : ℕ) → end.answer ≢ answer.InputRefused kind offset
  served_not_refused kind offset refused =
      no_refusal served.why kind offset ended (closes_other value end.taken end.steps served.files_served new.files (answer_of served.why) end.answer (not_refusal kind offset) served.closes refused)

pub good_clients_are_served : NoOtherAnswer → GoodClientsAreServed
good_clients_are_served law value route old new end served clients heeds = good_clients clients served law heeds

-- all that was sent was given, by the calls that were made
given_over : SentIsPassed → (limits : PortLimits) (rules : Rules) {image : Image} {why : Stop} {calls : List PortEntry} (later : Option (List PortEntry)) {session : Session} → GoesOverPort limits rules (Some calls) later session
    → rules.bounds.before ≡ nothing_before → IsEnd (answer_of why) → IsEnded rules image (Some ComesUntold) session why → rules.hold ≡ 0 → session.earlier ≡ [] → ((conn : ℕ) → is_gone conn (journal_of session) ≡ false) → GivesAll calls later session.survivor.now.state
given_over law limits rules None goes alone end is holds first none = absurd goes
given_over law limits rules {image = image} {why = why} {calls = calls} (Some later) {session = session} goes alone end is holds first none =
    let called : CalledPort limits rules calls later session = goes in
    record { calls = called.calls; made = ap Some called.grew; all = all_given law limits rules image why calls later session called alone end is holds first none }

-- as far as the calls are told
gives_over : SentIsPassed → (route : Route) (rules : Rules) (coming : Option Coming) {image : Image} {why : Stop} {session : Session} → GoesOver route rules coming session why
    → rules.bounds.before ≡ nothing_before → IsEnd (answer_of why) → IsEnded rules image (Some ComesUntold) session why → rules.hold ≡ 0 → session.earlier ≡ [] → ((conn : ℕ) → is_gone conn (journal_of session) ≡ false) → GivesOver route session.survivor.now.state
gives_over law (Trunk source source_later sink sink_later) rules coming goes alone end is holds first none = tt
gives_over law (Port limits None later) rules coming goes alone end is holds first none = tt
gives_over law (Port limits (Some calls) later) rules coming goes alone end is holds first none = given_over law limits rules later goes.1 alone end is holds first none

pub all_sends_are_given : SentIsPassed → AllSendsAreGiven
all_sends_are_given law value route old new end served clients at_end holds first none =
    let same = closes_same value.session end.taken end.steps served.files_served new.files (answer_of served.why) end.answer served.closes at_end in
    gives_over law route (rules_of_run value.session) served.noted.serves.coming served.noted.serves.goes refl (subst IsEnd same at_end) (ended clients served) holds first none

-- nor is a port refused that isn't bound
bind_not_refused : (kind offset : ℕ) (why : IoFault) (end : Answer) → IsBindAnswer why end → end ≢ answer.InputRefused kind offset
bind_not_refused kind offset fault.Failed end is refused = let other : answer.ReadFault ≡ answer.InputRefused kind offset = sym is ∙ refused in cc
bind_not_refused kind offset fault.Memory end is refused = let other : answer.Memory ≡ answer.InputRefused kind offset = sym is ∙ refused in cc

bind_not_write : (why : IoFault) (end : Answer) → IsBindAnswer why end → end ≢ answer.WriteFault
bind_not_write fault.Failed end is write = let other : answer.ReadFault ≡ answer.WriteFault = sym is ∙ write in cc
bind_not_write fault.Memory end is write = let other : answer.Memory ≡ answer.WriteFault = sym is ∙ write in cc

pub no_serve_is_refused : NoServeIsRefused
no_serve_is_refused value calls calls_later old new end (inl begun) = (
  λ kind offset refused. subst (HasLoadCause old.files value.session.program (window_of value.session)) refused begun.0.cause,
  λ write. subst (HasLoadCause old.files value.session.program (window_of value.session)) write begun.0.cause,
)
no_serve_is_refused value calls calls_later old new end (inr (inl unbound)) = (
  λ kind offset. bind_not_refused kind offset unbound.fault end.answer unbound.answered,
  bind_not_write unbound.fault end.answer unbound.answered,
)
no_serve_is_refused value calls calls_later old new end (inr (inr port)) = (served_not_refused tt port.served, port.never_write_fault)
