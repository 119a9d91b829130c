-- What a link and notes show behind a part of serving, one part after another.
use Rattle.link_gate.specs.declared.pass_fault.PassFault.TheVariants as pass
use Rattle.run_history.specs.declared.answer.Answer.TheVariants as answer
use Rattle.session_history.proofs.Ended.{is_end_answer}
use Rattle.session_history.specs.declared.ends.SessionBreak.TheVariants as session_break
use Rattle.session_history.specs.declared.ends.SessionEnd.TheVariants as session_end
use Rattle.link_gate.specs.declared.heard.HearFault.TheVariants as hear
use Rattle.rx_base.specs.declared.fault.IoFault.TheVariants as note
use Rattle.session_state.proofs.Lemmas.{oldest_then, trimmed_still, known_heard, known_kept, known_same, known_stopped, known_then, known_unless, noted_still, once_at, once_given, once_heard, once_noted, once_passing, once_stopped, once_then, takes_given, takes_stopped, unless_broken}
use Rattle.session_state.proofs.Terms.{Bool, Err, Ok, Option, Result, Some, ap, arith, inl, inr, refl, subst, sym, true, ℕ, ◌∙◌, ◌≡◌, ◌≤◌, IfOk, IsErrOf, IoFault, rose_later, Rose, Coming, Counts, Seen, Ledger, Cause, SessionBreak, SessionEnd, Stop, HasAnswerCause, AtBreak, AtEnd, IsEnd, break_answer, HearFault, Heard, PassFault, HearShows, CanGive, HasPassCause, KeepsPassing, Episode, EpisodeShows, Shown, Unnoted, Adopted, SessionState, IsNoteFault, IsCutShort, IsTrimmed, KeepsOldest, BreaksAt, BreaksNoting, BreaksPassing, HasNoteRest, HasStopCause, IsAnswerTo, IsNoteAnswer, IsOkOrMemory, IsStopAt, IsUnnoted, LinkAnswers, LinkFinishes, LinkPasses, LinkServes, MayServe, NotesAnswer, NotesServe, StaysKnown, TakesAtEnd, TrimsAt, TrimsBy, UnlessBroken, end_of, KeepsNotes}
use Rattle.session_state.proofs.recovering.RecoverLemmas.{adopted_takes}
use Rattle.session_history.specs.declared.ends.Stop.TheVariants as stop
use Rattle.session_state.proofs.events.HearingLemmas.{cause_then, no_cause}

-- no call of a link failed
no_fault_at : {counts : Counts} (end : SessionBreak) → (IsErrOf {T = Unit {0}} {E = Stop} (Err (stop.Breaks end)) (stop.Breaks session_break.ReadFault) → ⊥) → (IsErrOf {T = Unit {0}} {E = Stop} (Err (stop.Breaks end)) (stop.Breaks session_break.WriteFault) → ⊥)
    → HasStopCause {X = Unit {0}} counts counts (Err (stop.Breaks end))
no_fault_at end none nothing = record { takes = omega arith; gives = omega arith; read_fault = λ is. absurd (none is); write_fault = λ is. absurd (nothing is) }

-- what holds where all was passed, holds unless passing was broken off
pub unless_passed : (result : Result (Unit {0}) Stop) (P : Type 0) → BreaksPassing result → IfOk result (λ _. P) → UnlessBroken result P
unless_passed (Ok done) P passing holds = holds
unless_passed (Err (stop.Ends end)) P passing holds = absurd passing
unless_passed (Err (stop.Breaks end)) P passing holds = tt

-- an event was heard, and pieces were passed
pub heard_serves : {before mid new : Seen} {ledger later : Ledger} (heard : Heard) (result : Result (Unit {0}) Stop) → HearShows before mid ledger (Ok heard) → LinkPasses mid new later result → LinkServes before new later result
heard_serves {before = before} {mid = mid} {new = new} {later = later} heard result shows passes = record {
  takes = takes_given result shows.takes (ap (λ (s : Seen). s.takes) passes.rest) passes.broken;
  gives = unless_passed result (CanGive new later) passes.broken passes.gives;
  known = known_heard before.coming heard result shows.coming (ap (λ (s : Seen). s.coming) passes.rest);
  once = once_heard before.coming new.gives heard result shows.coming (ap (λ (s : Seen). s.coming) passes.rest) passes.broken;
  cause = cause_then shows.cause.later (let same = shows.cause.gives in omega (arith, same)) passes.cause;
}

-- the link ended
pub ended_serves : {before new : Seen} {ledger : Ledger} (heard : Heard) → before.gives ≡ true → HearShows before new ledger (Ok heard) → LinkServes {X = Unit {0}} before new ledger (Err (stop.Ends session_end.Finished))
ended_serves {before = before} heard still shows = record {
  takes = shows.takes;
  gives = record { gives_still = shows.gives ∙ still; connected = shows.connected };
  known = known_heard before.coming heard (Err (stop.Ends session_end.Finished)) shows.coming refl;
  once = tt;
  cause = record { takes = shows.cause.later; gives = (let same = shows.cause.gives in omega (arith, same)); read_fault = λ is. absurd (let never : ⊥ = cc in never); write_fault = λ is. absurd (let never : ⊥ = cc in never) };
}

-- an event wasn't heard
stop_cause : {before new : Seen} {ledger : Ledger} (fault : HearFault) (why : Stop) → HearShows before new ledger (Err fault) → IsStopAt fault why → HasStopCause {X = Unit {0}} before.counts new.counts (Err why)
stop_cause {before = before} {new = new} {ledger = ledger} fault why shows is = record {
  takes = shows.cause.later;
  gives = let same = shows.cause.gives in omega (arith, same);
  read_fault = λ read. by fault shows is read;
  write_fault = λ wrote. absurd (never fault is wrote);
}
  where
    by : (fault : HearFault) → HearShows before new ledger (Err fault) → IsStopAt fault why → IsErrOf {T = Unit {0}} {E = Stop} (Err why) (stop.Breaks session_break.ReadFault) → Rose before.counts.takes new.counts.takes
    by (hear.Refused kind offset) shows is read = absurd (let no : ⊥ = cc in no)
    by hear.LimitEvents shows is read = absurd (let no : ⊥ = cc in no)
    by (hear.TooLong conn) shows is read = absurd (let no : ⊥ = cc in no)
    by hear.LimitItems shows is read = absurd (let no : ⊥ = cc in no)
    by hear.ReadFault shows is read = shows.cause.read_fault refl
    by hear.Memory shows is read = absurd (let no : ⊥ = cc in no)

    never : (fault : HearFault) → IsStopAt fault why → IsErrOf {T = Unit {0}} {E = Stop} (Err why) (stop.Breaks session_break.WriteFault) → ⊥
    never (hear.Refused kind offset) is wrote = cc
    never hear.LimitEvents is wrote = cc
    never (hear.TooLong conn) is wrote = cc
    never hear.LimitItems is wrote = cc
    never hear.ReadFault is wrote = cc
    never hear.Memory is wrote = cc

pub stopped_serves : {before new : Seen} {ledger : Ledger} (fault : HearFault) (why : Stop) → before.gives ≡ true → HearShows before new ledger (Err fault) → IsStopAt fault why → LinkServes {X = Unit {0}} before new ledger (Err why)
stopped_serves {before = before} {new = new} {ledger = ledger} fault why still shows is = record {
  takes = takes_stopped before.told new.told new.takes fault why shows.takes is;
  gives = unless_broken (Err why) (CanGive new ledger) (record { gives_still = shows.gives ∙ still; connected = shows.connected });
  known = known_stopped before.coming new.coming fault why shows.coming is;
  once = once_stopped before.coming new.coming fault why (shows.gives ∙ still) is;
  cause = stop_cause fault why shows is;
}

-- one part of serving after another that went well
pub serves_then : {old mid new : Seen} {ledger : Ledger} {result : Result (Unit {0}) Stop} → StaysKnown old.coming mid.coming → old.counts.takes ≤ mid.counts.takes → old.counts.gives ≤ mid.counts.gives → LinkServes mid new ledger result → LinkServes old new ledger result
serves_then {old = old} {mid = mid} {new = new} {result = result} known takes gives serves = record {
  takes = serves.takes;
  gives = serves.gives;
  known = known_unless old.coming mid.coming new.coming result known serves.known;
  once = once_then old.coming mid.coming new.coming new.gives result known serves.once;
  cause = cause_then takes gives serves.cause;
}

-- all went well so far
pub serves_well : {old new : Seen} {ledger : Ledger} → MayServe new ledger → StaysKnown old.coming new.coming → old.counts.takes ≤ new.counts.takes → old.counts.gives ≤ new.counts.gives → LinkServes {X = Unit {0}} old new ledger (Ok tt)
serves_well may known takes gives = record { takes = may.takes; gives = may.gives; known = known; once = tt; cause = no_cause {X = Unit {0}} tt takes gives }

-- behind such a part the session may be served on
pub serves_may : {old new : Seen} {ledger : Ledger} → LinkServes {X = Unit {0}} old new ledger (Ok tt) → MayServe new ledger
serves_may serves = record { takes = serves.takes; gives = serves.gives }

-- pieces alone were passed
pub passing_serves : {old new : Seen} {ledger : Ledger} (result : Result (Unit {0}) Stop) → old.takes ≡ true → LinkPasses old new ledger result → LinkServes old new ledger result
passing_serves {old = old} {new = new} {ledger = ledger} result still passes = record {
  takes = takes_given result still (ap (λ (s : Seen). s.takes) passes.rest) passes.broken;
  gives = unless_passed result (CanGive new ledger) passes.broken passes.gives;
  known = known_kept result (ap (λ (s : Seen). s.coming) passes.rest);
  once = once_given old.coming new.gives result (known_same refl) (ap (λ (s : Seen). s.coming) passes.rest) passes.broken;
  cause = passes.cause;
}

module _ {R : Type 0} where
  -- all is given up and recorded
  trims_at : (before now : Option Unnoted) {session : SessionState R} (why : Stop) → IsTrimmed session → TrimsAt before now session why
  trims_at before now (stop.Breaks session_break.FileFault) trimmed = inl trimmed
  trims_at before now (stop.Breaks session_break.Memory) trimmed = inl trimmed
  trims_at before now _ trimmed = trimmed

  pub trims_any : (shown now : Shown) {session : SessionState R} (result : Result (Unit {0}) Stop) → IsTrimmed session → TrimsBy shown now session result
  trims_any shown now (Ok done) trimmed = trimmed
  trims_any shown now (Err why) trimmed = trims_at shown.told.unnoted now.told.unnoted why trimmed

  -- the oldest checkpoint stands, and nothing more was given up or recorded
  pub trims_on : (shown now : Shown) {old mid new : SessionState R} (result : Result (Unit {0}) Stop) → KeepsOldest old mid → KeepsOldest mid new → IsTrimmed old → TrimsBy shown now new result
  trims_on shown now result first second trimmed = trims_any shown now result (trimmed_still (oldest_then first second) trimmed)

  -- noting failed
  pub trims_cut : (shown now : Shown) {session : SessionState R} (why : Stop) → BreaksNoting (Err why) → IsCutShort shown.told.unnoted now.told.unnoted session → TrimsBy shown now session (Err why)
  trims_cut shown now (stop.Ends end) noting cut = absurd noting
  trims_cut shown now (stop.Breaks session_break.FileFault) noting cut = inr cut
  trims_cut shown now (stop.Breaks session_break.Memory) noting cut = inr cut
  trims_cut shown now (stop.Breaks _) noting cut = absurd noting

-- nothing was noted
pub unnoted_serves : {shown : Shown} (result : Result (Unit {0}) Stop) → IsUnnoted result → NotesServe shown shown result
unnoted_serves result unnoted = record { cause = noted_still (omega arith) unnoted }

-- noting failed, or it didn't
pub notes_noted : {before now : Shown} → KeepsNotes before now (Ok tt) → NotesServe before now (Ok tt)
notes_noted keeps = record { cause = record { later = keeps.cause.later; file_fault = λ is. absurd (let never : ⊥ = cc in never) } }

pub notes_stopped : {before now : Shown} (fault : IoFault) (end : SessionBreak) → KeepsNotes before now (Err fault) → IsNoteAnswer fault end → NotesServe before now (Err (stop.Breaks end))
notes_stopped note.Failed end keeps is = record {
  cause = record { later = keeps.cause.later; file_fault = λ failed. keeps.cause.failed refl };
}
notes_stopped note.Memory end keeps is = record {
  cause = record { later = keeps.cause.later; file_fault = λ failed. absurd (let never : ⊥ = cc in never) };
}

-- memory ran out before a piece was passed
pub nothing_passed : {seen : Seen} {ledger : Ledger} → LinkPasses seen seen ledger (Err (stop.Breaks session_break.Memory))
nothing_passed = record { gives = tt; rest = refl; broken = tt; cause = no_fault_at session_break.Memory (λ is. absurd (let never : ⊥ = cc in never)) (λ is. absurd (let never : ⊥ = cc in never)) }

-- noting was broken off, and the link wasn't called
noted_cause : {counts : Counts} (end : SessionBreak) → IsNoteFault end → HasStopCause {X = Unit {0}} counts counts (Err (stop.Breaks end))
noted_cause session_break.FileFault note = no_fault_at session_break.FileFault (λ is. absurd (let never : ⊥ = cc in never)) (λ is. absurd (let never : ⊥ = cc in never))
noted_cause session_break.Memory note = no_fault_at session_break.Memory (λ is. absurd (let never : ⊥ = cc in never)) (λ is. absurd (let never : ⊥ = cc in never))
noted_cause _ note = absurd note

pub noting_serves : {seen : Seen} {ledger : Ledger} (why : Stop) → MayServe seen ledger → BreaksNoting (Err why) → LinkServes {X = Unit {0}} seen seen ledger (Err why)
noting_serves (stop.Ends end) may noting = absurd noting
noting_serves {seen = seen} (stop.Breaks end) may noting = record { takes = tt; gives = tt; known = tt; once = once_noted seen.coming end may.gives.gives_still noting; cause = noted_cause end noting }

-- notes that were called first, and not any more
pub asking_notes : {before now : Shown} (result : Result (Unit {0}) Stop) → NotesServe before now (Ok tt) → IsUnnoted result → NotesServe before now result
asking_notes result notes unnoted = record { cause = noted_still notes.cause.later unnoted }

-- memory ran out, and neither link nor notes were called
pub memory_serves : {seen : Seen} {ledger : Ledger} → seen.gives ≡ true → LinkServes {X = Unit {0}} seen seen ledger (Err (stop.Breaks session_break.Memory))
memory_serves still = record { takes = tt; gives = tt; known = tt; once = inr still; cause = noted_cause session_break.Memory tt }

-- noting an episode failed
pub episode_stopped : {before now : Shown} {episode : Episode} (fault : IoFault) (end : SessionBreak) → EpisodeShows before now episode (Err fault) → IsNoteAnswer fault end → NotesServe before now (Err (stop.Breaks end))
episode_stopped note.Failed end shows is = record {
  cause = record { later = shows.cause.later; file_fault = λ failed. shows.cause.failed refl };
}
episode_stopped note.Memory end shows is = record {
  cause = record { later = shows.cause.later; file_fault = λ failed. absurd (never is failed) };
}
  where
    never : end ≡ session_break.Memory → IsErrOf {T = Unit {0}} {E = Stop} (Err (stop.Breaks end)) (stop.Breaks session_break.FileFault) → ⊥
    never is failed = cc

-- a recovery came to an end, and the link wasn't called
pub adopted_serves : {seen : Seen} {ledger : Ledger} (point : ℕ) (cause : Cause) (adopted : Option Adopted) {end : SessionEnd} → MayServe seen ledger → end_of point cause adopted ≡ Some end → LinkServes {X = Unit {0}} seen seen ledger (Err (stop.Ends end))
adopted_serves {seen = seen} point cause adopted may is = record {
  takes = adopted_takes point cause adopted may.takes is;
  gives = may.gives;
  known = known_same refl;
  once = tt;
  cause = record { takes = omega arith; gives = omega arith; read_fault = λ is. absurd (let never : ⊥ = cc in never); write_fault = λ is. absurd (let never : ⊥ = cc in never) };
}

-- an ask was answered, and the link wasn't called
pub chosen_serves : {seen : Seen} {ledger : Ledger} (result : Result (Unit {0}) Stop) → MayServe seen ledger → IsOkOrMemory result → LinkServes seen seen ledger result
chosen_serves (Ok done) may memory = serves_well may (known_same refl) (omega arith) (omega arith)
chosen_serves {seen = seen} {ledger = ledger} (Err why) may memory = subst (λ (w : Stop). LinkServes {X = Unit {0}} seen seen ledger (Err w)) (sym memory) (memory_serves may.gives.gives_still)

pub unnoted_chosen : (result : Result (Unit {0}) Stop) → IsOkOrMemory result → IsUnnoted result
unnoted_chosen (Ok done) memory = tt
unnoted_chosen (Err why) memory = subst (λ (w : Stop). IsUnnoted (Err w)) (sym memory) tt

-- the program ended itself, and the link wasn't called
pub exited_serves : {seen : Seen} {ledger : Ledger} (code : ℕ) → MayServe seen ledger → LinkServes {X = Unit {0}} seen seen ledger (Err (stop.Ends (session_end.Exited code)))
exited_serves code may = record {
  takes = may.takes;
  gives = may.gives;
  known = known_same refl;
  once = tt;
  cause = record { takes = omega arith; gives = omega arith; read_fault = λ is. absurd (let never : ⊥ = cc in never); write_fault = λ is. absurd (let never : ⊥ = cc in never) };
}

-- at an end pieces were passed, and passing failed
passing_cause : {before now : Counts} (why : PassFault) (broken : SessionBreak) → HasPassCause {T = Unit {0}} before now (Err why) → IsAnswerTo why broken → HasAnswerCause before now (break_answer broken)
passing_cause {before = before} {now = now} pass.WriteFault broken cause is = subst (λ (b : SessionBreak). HasAnswerCause before now (break_answer b)) (sym is) (record {
  takes = let same = cause.takes in omega (arith, same);
  gives = cause.later;
  read_fault = λ read. absurd (let never : ⊥ = cc in never);
  write_fault = λ wrote. cause.write_fault refl;
})
passing_cause {before = before} {now = now} pass.Memory broken cause is = subst (λ (b : SessionBreak). HasAnswerCause before now (break_answer b)) (sym is) (record {
  takes = let same = cause.takes in omega (arith, same);
  gives = cause.later;
  read_fault = λ read. absurd (let never : ⊥ = cc in never);
  write_fault = λ wrote. absurd (let never : ⊥ = cc in never);
})

pub finish_broken : {received : ℕ} {old new : Seen} {ledger later : Ledger} (end : SessionEnd) (why : PassFault) (broken : SessionBreak) → KeepsPassing {T = Unit {0}} received old new ledger later (Err why) → IsAnswerTo why broken → LinkFinishes old new end (stop.Breaks broken)
finish_broken {new = new} end why broken keeps is = record {
  takes = λ still. tt;
  gives = tt;
  rest = keeps.shows.rest;
  once = once_passing new.gives why broken (ap (λ (s : Seen). s.coming) keeps.shows.rest) is;
  cause = passing_cause why broken keeps.shows.cause is;
}

-- all was passed, and noting failed
note_read : (fault : SessionBreak) → IsNoteFault fault → break_answer fault ≡ answer.ReadFault → ⊥
note_read session_break.ReadFault note is = note
note_read session_break.WriteFault note is = note
note_read session_break.FileFault note is = cc
note_read session_break.Memory note is = cc

note_write : (fault : SessionBreak) → IsNoteFault fault → break_answer fault ≡ answer.WriteFault → ⊥
note_write session_break.ReadFault note is = note
note_write session_break.WriteFault note is = note
note_write session_break.FileFault note is = cc
note_write session_break.Memory note is = cc

pub finish_unnoted_link : {received : ℕ} {old new : Seen} {ledger later : Ledger} (end : SessionEnd) (fault : SessionBreak) → KeepsPassing {T = Unit {0}} received old new ledger later (Ok tt) → IsNoteFault fault → LinkFinishes old new end (stop.Breaks fault)
finish_unnoted_link {old = old} {new = new} end fault keeps note = record {
  takes = λ still. tt;
  gives = tt;
  rest = keeps.shows.rest;
  once = subst (λ (c : Option Coming). BreaksAt old.coming c new.gives fault) (sym (ap (λ (s : Seen). s.coming) keeps.shows.rest)) (once_noted old.coming fault keeps.shows.gives note);
  cause = record {
    takes = let same = keeps.shows.cause.takes in omega (arith, same);
    gives = keeps.shows.cause.later;
    read_fault = λ is. absurd (note_read fault note is);
    write_fault = λ is. absurd (note_write fault note is);
  };
}

-- all was passed and noted
pub finish_well : {received : ℕ} {old new : Seen} {ledger later : Ledger} (end : SessionEnd) → KeepsPassing {T = Unit {0}} received old new ledger later (Ok tt) → LinkFinishes old new end (stop.Ends end)
finish_well {old = old} {new = new} end keeps = record {
  takes = λ still. subst (λ b. TakesAtEnd b end) (sym (ap (λ (s : Seen). s.takes) keeps.shows.rest)) still;
  gives = keeps.shows.gives;
  rest = keeps.shows.rest;
  once = tt;
  cause = record {
    takes = let same = keeps.shows.cause.takes in omega (arith, same);
    gives = keeps.shows.cause.later;
    read_fault = λ is. absurd (subst IsEnd is (is_end_answer end));
    write_fault = λ is. absurd (subst IsEnd is (is_end_answer end));
  };
}

-- an error that is equal to another one is its result's
err_is : {X E : Type 0} {one other : E} → one ≡ other → IsErrOf {T = X} {E = E} (Err one) other
err_is same = ap Err same

err_breaks : {X : Type 0} {one other : SessionBreak} → one ≡ other → IsErrOf {T = X} {E = Stop} (Err (stop.Breaks one)) (stop.Breaks other)
err_breaks same = ap (λ (b : SessionBreak). Err (stop.Breaks b)) same

-- what broke it off, by its answer
read_is : (why : SessionBreak) → break_answer why ≡ answer.ReadFault → why ≡ session_break.ReadFault
read_is session_break.ReadFault is = refl
read_is session_break.WriteFault is = absurd (let never : ⊥ = cc in never)
read_is session_break.FileFault is = absurd (let never : ⊥ = cc in never)
read_is session_break.Memory is = absurd (let never : ⊥ = cc in never)

write_is : (why : SessionBreak) → break_answer why ≡ answer.WriteFault → why ≡ session_break.WriteFault
write_is session_break.ReadFault is = absurd (let never : ⊥ = cc in never)
write_is session_break.WriteFault is = refl
write_is session_break.FileFault is = absurd (let never : ⊥ = cc in never)
write_is session_break.Memory is = absurd (let never : ⊥ = cc in never)

-- two stops by breaks that are the same
breaks_same : {one other : SessionBreak} → stop.Breaks one ≡ stop.Breaks other → one ≡ other
breaks_same is = cc

-- what notes show at these answers
pass_file : (why : PassFault) (broken : SessionBreak) → IsAnswerTo why broken → stop.Breaks broken ≡ stop.Breaks session_break.FileFault → ⊥
pass_file pass.WriteFault broken is file = cc
pass_file pass.Memory broken is file = cc

pub notes_passing : {shown : Shown} (why : PassFault) (broken : SessionBreak) → IsAnswerTo why broken → NotesAnswer shown shown (stop.Breaks broken)
notes_passing why broken is = record { cause = record { later = omega arith; file_fault = λ file. absurd (pass_file why broken is file) } }

pub notes_rest_failed : {before now : Shown} (fault : SessionBreak) → HasNoteRest before now (Err fault) → IsNoteFault fault → NotesAnswer before now (stop.Breaks fault)
notes_rest_failed fault rest note = record {
  cause = record { later = rest.later; file_fault = λ file. rest.file_fault (err_is (breaks_same file)) };
}

pub notes_rest_done : {before now : Shown} (end : SessionEnd) → HasNoteRest before now (Ok tt) → NotesAnswer before now (stop.Ends end)
notes_rest_done end rest = record {
  cause = record { later = rest.later; file_fault = λ file. absurd (let never : ⊥ = cc in never) };
}

-- what holds anyhow, holds at an end
any_end : (why : Stop) {P : Type 0} → P → AtEnd why (λ end. P)
any_end (stop.Ends end) holds = holds
any_end (stop.Breaks broken) holds = tt

once_stop : (old mid new : Option Coming) (gives : Bool) (why : Stop) → StaysKnown old mid → AtBreak why (BreaksAt mid new gives) → AtBreak why (BreaksAt old new gives)
once_stop old mid new gives (stop.Ends end) known once = tt
once_stop old mid new gives (stop.Breaks broken) known once = once_at old mid new gives broken known once

-- where a session stopped, behind turns that went well
pub answers_broken : {old mid new : Seen} {ledger : Ledger} {why : Stop} {broken : SessionBreak} → StaysKnown old.coming mid.coming → old.counts.takes ≤ mid.counts.takes → old.counts.gives ≤ mid.counts.gives
    → why ≡ stop.Breaks broken → LinkServes {X = Unit {0}} mid new ledger (Err why) → LinkAnswers old new (stop.Breaks broken)
answers_broken {old = old} {mid = mid} {new = new} {ledger = ledger} {broken = broken} known takes gives is serves =
    let then = serves_then {old = old} {mid = mid} {new = new} known takes gives (subst (λ (w : Stop). LinkServes {X = Unit {0}} mid new ledger (Err w)) is serves) in
    record {
      takes = tt;
      gives = tt;
      known = tt;
      once = then.once;
      cause = record {
        takes = then.cause.takes;
        gives = then.cause.gives;
        read_fault = λ read. then.cause.read_fault (err_breaks (read_is broken read));
        write_fault = λ wrote. then.cause.write_fault (err_breaks (write_is broken wrote));
      };
    }

pub answers_finished : {old mid now new : Seen} {ledger : Ledger} {why : Stop} {end : SessionEnd} {result : Stop} → StaysKnown old.coming mid.coming → old.counts.takes ≤ mid.counts.takes → old.counts.gives ≤ mid.counts.gives
    → why ≡ stop.Ends end → LinkServes {X = Unit {0}} mid now ledger (Err why) → LinkFinishes now new end result → LinkAnswers old new result
answers_finished {old = old} {mid = mid} {now = now} {new = new} {ledger = ledger} {result = result} known takes gives is serves finishes =
    let then = serves_then {old = old} {mid = mid} {new = now} known takes gives (subst (λ (w : Stop). LinkServes {X = Unit {0}} mid now ledger (Err w)) is serves) in
    record {
      takes = finishes.takes then.takes;
      gives = finishes.gives;
      known = any_end result (known_then old.coming now.coming new.coming then.known (known_same (ap (λ (s : Seen). s.coming) finishes.rest)));
      once = once_stop old.coming now.coming new.coming new.gives result then.known finishes.once;
      cause = record {
        takes = let first = then.cause.takes in let second = finishes.cause.takes in omega (arith, first, second);
        gives = let first = then.cause.gives in let second = finishes.cause.gives in omega (arith, first, second);
        read_fault = λ read. rose_later old.counts.takes now.counts.takes new.counts.takes then.cause.takes (finishes.cause.read_fault read);
        write_fault = λ wrote. rose_later old.counts.gives now.counts.gives new.counts.gives then.cause.gives (finishes.cause.write_fault wrote);
      };
    }

pub notes_broken : {old mid new : Shown} {why : Stop} {broken : SessionBreak} → old.faults ≤ mid.faults → why ≡ stop.Breaks broken → NotesServe mid new (Err why) → NotesAnswer old new (stop.Breaks broken)
notes_broken {old = old} {mid = mid} {new = new} {broken = broken} later is notes =
    let here = subst (λ (w : Stop). NotesServe mid new (Err w)) is notes in
    record {
      cause = record {
        later = let more = here.cause.later in omega (arith, later, more);
        file_fault = λ file. rose_later old.faults mid.faults new.faults later (here.cause.file_fault (err_breaks (breaks_same file)));
      };
    }

pub notes_finished : {old mid now new : Shown} {why : Stop} {end : SessionEnd} {result : Stop} → old.faults ≤ mid.faults → why ≡ stop.Ends end → NotesServe mid now (Err why) → NotesAnswer now new result → NotesAnswer old new result
notes_finished {old = old} {mid = mid} {now = now} {new = new} later is notes finishes =
    let here = subst (λ (w : Stop). NotesServe mid now (Err w)) is notes in
    record {
      cause = record {
        later = let first = here.cause.later in let second = finishes.cause.later in omega (arith, later, first, second);
        file_fault = λ file. rose_later old.faults now.faults new.faults (let first = here.cause.later in omega (arith, later, first)) (finishes.cause.file_fault file);
      };
    }
