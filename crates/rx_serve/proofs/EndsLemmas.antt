-- What the words leave, whatever the command is that they ask for.
use Rattle.session_history.specs.declared.ends.SessionBreak.TheVariants as session_break
use Rattle.session_history.specs.declared.ends.Stop.TheVariants as stop
use Rattle.rx_base.specs.declared.fault.IoFault.TheVariants as fault
use Rattle.run_history.specs.declared.answer.Answer.TheVariants as answer
use Rattle.trunk_text.specs.declared.turning.Ended.TheVariants as ended
use Rattle.session_following.specs.declared.unfollowed.Unfollowed.TheVariants as unfollowed
use Rattle.rx_serve.proofs.Terms.{List, None, Option, Some, inl, inr, refl, subst, sym, ◌-◌, ◌∙◌, ◌≡◌, IoFault, PortEntry, Ended, Image, Answer, Stop, is_end_answer, IsEnd, answer_of, Handed, Unfollowed, Route, DrillEnds, DiagnoseValue, ResumeValue, RunValue, ServeValue, asm, convert, diagnose, drill, frame, replay, resume, run, run_in, serve, standby, unframe, End, Outside, HasLoadCause, HasAsmCause, window_of, trunk_of, IsFilesAnswer, HasNotBegun, HasServed, IsBindAnswer, ServeEnds, DiagnoseEnds, HasHandoverCause, ResumeEnds, ResumesSession, unreleased_answer, turned_answer, RunEnds, OnlyBadWordsAreRefused}
use Rattle.rx_serve.proofs.ReplayLemmas.{replay_not_refused}
use Rattle.rx_serve.proofs.ConvertLemmas.{convert_not_refused}
use Rattle.rx_serve.proofs.StandbyLemmas.{standby_not_refused}

note_not_refused : (why : IoFault) (end : Answer) → IsFilesAnswer why end → end ≡ answer.BadWords → ⊥
note_not_refused fault.Failed end note is = absurd (let other : answer.FileFault ≡ answer.BadWords = sym note ∙ is in cc)
note_not_refused fault.Memory end note is = absurd (let other : answer.Memory ≡ answer.BadWords = sym note ∙ is in cc)

-- nor is why a session stopped
stop_not_refused : (why : Stop) → answer_of why ≡ answer.BadWords → ⊥
stop_not_refused (stop.Ends end) is = subst IsEnd is (is_end_answer end)
stop_not_refused (stop.Breaks session_break.ReadFault) is = cc
stop_not_refused (stop.Breaks session_break.WriteFault) is = cc
stop_not_refused (stop.Breaks session_break.FileFault) is = cc
stop_not_refused (stop.Breaks session_break.Memory) is = cc

bind_not_refused : (why : IoFault) (end : Answer) → IsBindAnswer why end → end ≡ answer.BadWords → ⊥
bind_not_refused fault.Failed end note is = absurd (let other : answer.ReadFault ≡ answer.BadWords = sym note ∙ is in cc)
bind_not_refused fault.Memory end note is = absurd (let other : answer.Memory ≡ answer.BadWords = sym note ∙ is in cc)

run_not_refused_begun : (value : RunValue) (old new : Outside) (end : End) → HasNotBegun value old new end → end.answer ≡ answer.BadWords → ⊥
run_not_refused_begun value old new end begun is = subst (HasLoadCause old.files value.program (window_of value)) is begun.cause

run_not_refused_served : (value : RunValue) (route : Route) (old new : Outside) (end : End) → HasServed value route old new end → end.answer ≡ answer.BadWords → ⊥
run_not_refused_served value route old new end served is =
    elim served.closes [
      | inl (at_end, (same, ends)) ↦ stop_not_refused served.why (sym same ∙ is)
      | inr (inl (at_end, (why, (note, ends)))) ↦ note_not_refused why end.answer note is
      | inr (inr (none, (same, left))) ↦ stop_not_refused served.why (sym same ∙ is)
    ]

run_not_refused : (value : RunValue) (old new : Outside) (end : End) → RunEnds value old new end → end.answer ≡ answer.BadWords → ⊥
run_not_refused value old new end (inl begun) is = run_not_refused_begun value old new end begun is
run_not_refused value old new end (inr served) is = run_not_refused_served value (trunk_of old new) old new end served is

-- nor is a `serve`
serve_not_refused : (value : ServeValue) (calls calls_later : Option (List PortEntry)) (old new : Outside) (end : End) → ServeEnds value calls calls_later old new end → end.answer ≡ answer.BadWords → ⊥
serve_not_refused value calls calls_later old new end (inl begun) is = run_not_refused_begun value.session old new end begun.0 is
serve_not_refused value calls calls_later old new end (inr (inl unbound)) is = bind_not_refused unbound.fault end.answer unbound.answered is
serve_not_refused value calls calls_later old new end (inr (inr port)) is = run_not_refused_served value.session _ old new end port.served is

-- nor is a `diagnose`
diagnose_not_refused : (value : DiagnoseValue) (old new : Outside) (end : End) → DiagnoseEnds value old new end → end.answer ≡ answer.BadWords → ⊥
diagnose_not_refused value old new end (inl begun) is = run_not_refused_begun value.session old new end begun is
diagnose_not_refused value old new end (inr (inl none)) is = note_not_refused none.fault end.answer none.answered is
diagnose_not_refused value old new end (inr (inr served)) is =
    elim served.answered [
      | inl own ↦ run_not_refused_served value.session (trunk_of old served.beside) old served.beside (record end { answer = served.ended }) served.served (sym own ∙ is)
      | inr (at_end, (why, note)) ↦ note_not_refused why end.answer note is
    ]

-- nor is a `resume`
unreleased_not_refused : (why : Unfollowed) → unreleased_answer why ≡ answer.BadWords → ⊥
unreleased_not_refused (unfollowed.Mismatch step) is = cc
unreleased_not_refused (unfollowed.Short conn) is = cc
unreleased_not_refused (unfollowed.Stops why) is = stop_not_refused why is

session_not_refused : (value : RunValue) (image : Image) (handed : Handed) (old new : Outside) (end : End) → ResumesSession value image handed old new end → end.answer ≡ answer.BadWords → ⊥
session_not_refused value image handed old new end (inl none) is = elim none.starts [
  | inl (why, (note, starts)) ↦ note_not_refused why end.answer note is
  | inr (memory, starts) ↦ absurd (let other : answer.Memory ≡ answer.BadWords = sym memory ∙ is in cc)
]
session_not_refused value image handed old new end (inr (inl stopped)) is = unreleased_not_refused stopped.why (sym stopped.answered ∙ is)
session_not_refused value image handed old new end (inr (inr resumed)) is = elim resumed.served.closes [
  | inl (at_end, (same, ends)) ↦ stop_not_refused resumed.served.why (sym same ∙ is)
  | inr (inl (at_end, (why, (note, ends)))) ↦ note_not_refused why end.answer note is
  | inr (inr (none, (same, left))) ↦ stop_not_refused resumed.served.why (sym same ∙ is)
]

resume_not_refused : (value : ResumeValue) (old new : Outside) (end : End) → ResumeEnds value old new end → end.answer ≡ answer.BadWords → ⊥
resume_not_refused value old new end (inl none) is = (subst (HasHandoverCause old.files value) is none.cause).holds
resume_not_refused value old new end (inr taken) is = session_not_refused (run_in value taken.window taken.frame) taken.image taken.handed (record old { calls = taken.calls_loaded }) new end taken.resumes is

-- nor is an input that was turned
turned_not_refused : (why : Ended) → turned_answer why ≡ answer.BadWords → ⊥
turned_not_refused ended.Finished is = cc
turned_not_refused (ended.Refused flaw offset) is = cc
turned_not_refused ended.ReadFault is = cc
turned_not_refused ended.WriteFault is = cc
turned_not_refused ended.Limit is = cc
turned_not_refused ended.Memory is = cc

pub only_bad_words : OnlyBadWordsAreRefused
only_bad_words None calls calls_later old new end ends is = refl
only_bad_words (Some (run value)) calls calls_later old new end ends is = absurd (run_not_refused value old new end ends is)
only_bad_words (Some (asm value)) calls calls_later old new end ends is = absurd (subst (HasAsmCause old.files value.source) is ends.cause)
only_bad_words (Some (replay value)) calls calls_later old new end ends is = absurd (replay_not_refused value old new end.answer ends.replays is)
only_bad_words (Some (convert value)) calls calls_later old new end ends is = absurd (convert_not_refused value old new end.answer ends.converts is)
only_bad_words (Some (standby value)) calls calls_later old new end ends is = absurd (standby_not_refused value old new end ends is)
only_bad_words (Some (resume value)) calls calls_later old new end ends is = absurd (resume_not_refused value old new end ends is)
only_bad_words (Some (serve value)) calls calls_later old new end ends is = absurd (serve_not_refused value calls calls_later old new end ends is)
only_bad_words (Some (diagnose value)) calls calls_later old new end ends is = absurd (diagnose_not_refused value old new end ends is)
only_bad_words (Some (drill value)) calls calls_later old new end ends is = absurd (subst (DrillEnds value.seed value.count (new.counter - old.counter) old.output new.output) is ends.drilled)
only_bad_words (Some frame) calls calls_later old new end ends is = absurd (turned_not_refused ends.ended (sym ends.answered ∙ is))
only_bad_words (Some unframe) calls calls_later old new end ends is = absurd (turned_not_refused ends.ended (sym ends.answered ∙ is))
