-- What the laws of sessions over a trunk say of a `run`.
use Rattle.session_history.specs.declared.ends.SessionBreak.TheVariants as session_break
use Rattle.session_history.specs.declared.ends.Stop.TheVariants as stop
use Rattle.rx_base.specs.declared.fault.IoFault.TheVariants as fault
use Rattle.rx_serve.proofs.Terms.{inl, inr, refl, subst, ◌≡◌, IoFault, Answer, Stop, holds_at_end, Session, IsComplete, IsEnd, answer_of, Rules, keeping_for, NoOtherEnd, SendsAreWritten, options_of, rules_of_run, IsFilesAnswer, AllSendsAreWritten, GoodInputIsTaken}
use Rattle.rx_serve.proofs.NotingLemmas.{closes_same}

-- a fault of the two files says nothing of the input
pub complete_note : (rules : Rules) (session : Session) (why : IoFault) (end : Answer) → IsFilesAnswer why end → (stopped : Stop) × (end ≡ answer_of stopped) × IsComplete rules session stopped
complete_note rules session fault.Failed end note = (stop.Breaks session_break.FileFault, note, tt)
complete_note rules session fault.Memory end note = (stop.Breaks session_break.Memory, note, tt)

pub good_input_is_taken : NoOtherEnd → GoodInputIsTaken
good_input_is_taken law value input old new end served well =
    let serves = served.noted.serves in
    let rules : Rules = rules_of_run value in
    let own : IsComplete rules serves.telling.account served.why = law rules (keeping_for (options_of value)) served.image input new.input old.output new.output _ _ _ served.noted.counted serves well in
    elim served.closes [
      | inl (is_end, (same, ends)) ↦ (served.why, same, own)
      | inr (inl (is_end, (why, (note, ends)))) ↦ complete_note rules serves.telling.account why end.answer note
      | inr (inr (none, (same, left))) ↦ (served.why, same, own)
    ]

pub all_sends_are_written : SendsAreWritten → AllSendsAreWritten
all_sends_are_written law value input old new end served at_end holds_nothing first =
    let is = closes_same value end.taken end.steps served.files_served new.files (answer_of served.why) end.answer served.closes at_end in
    holds_at_end served.why (subst IsEnd is at_end) (law (rules_of_run value) (keeping_for (options_of value)) served.image input new.input old.output new.output _ _ _ served.noted.counted served.noted.serves refl) first holds_nothing
