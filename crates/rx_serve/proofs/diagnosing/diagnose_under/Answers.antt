use Rattle.diagnosis.specs.Examined.{ran_of, tables_of}
use Rattle.rx_engine.specs.declared.left.Left.{Left as Leaves}
use Rattle.rx_serve.proofs.Lemmas.{options_in_range, closes_other, closes_same, not_read, not_write, begun_own, counts_fit, not_begun, ready, rose_within, diagnosed, diagnosis_other, diagnosis_part, some_kept, start_faults, watched_length}
use Rattle.rx_serve.proofs.Terms.{ap, arith, inl, inr, refl, subst, sym, ℕ, ◌+◌, ◌-◌, ◌<◌, ◌^◌, ◌∙◌, ◌≡◌, ◌≤◌, MAX_ITEMS, IsEnd, answer_of, diagnose_shown, run_shown, options_of, IsFilesAnswer}
use Rattle.rx_serve.proofs.diagnosing.diagnose_under.Goals as goal

pub returns-in-Err-clause-ends : goal.returns-in-Err-clause-ends
returns-in-Err-clause-ends g c =
    inl (not_begun (run_shown c.args.diagnose.now.session) _ _ c.in-Err.answer _ c.in-Err.ensures.begins c.without_session.ensures.answer c.without_session.ensures.nothing refl c.in-Err.ensures.calls)

pub returns-in-Err-start_diagnosis-clause-ends : goal.returns-in-Err-start_diagnosis-clause-ends
returns-in-Err-start_diagnosis-clause-ends g c =
    let has = c.in-Ok.ensures.begins in
    let value = diagnose_shown c.args.diagnose.now in
    inr (inl (record {
      image = has.image;
      program = has.program;
      files_started = g.F.Files.told c.begin_session.new.files;
      starts = has.starts;
      fault = c.in-Err-start_diagnosis.fault;
      answered = subst (IsFilesAnswer c.in-Err-start_diagnosis.fault) (sym c.without_session-in-Err-start_diagnosis.ensures.answer) c.note_answer.ensures;
      diagnosis = c.in-Err-start_diagnosis.ensures.starts;
      called = diagnosis_part value _ _ _ c.in-Ok.ensures.calls c.in-Err-start_diagnosis.ensures.calls;
      untouched = refl;
      nothing = c.without_session-in-Err-start_diagnosis.ensures.nothing;
    }))

pub returns-in-Err-start_diagnosis-clause-faults : goal.returns-in-Err-start_diagnosis-clause-faults
returns-in-Err-start_diagnosis-clause-faults g c =
    start_faults _ _ _ _ _ c.in-Err-start_diagnosis.fault c.note_answer.result _ c.note_answer.ensures c.without_session-in-Err-start_diagnosis.ensures.answer c.in-Ok.ensures.later c.in-Err-start_diagnosis.ensures.cause

pub serve_kept-kept-requires-clause-begun : goal.serve_kept-kept-requires-clause-begun
serve_kept-kept-requires-clause-begun g c =
    let has = c.in-Ok.ensures.begins in
    ready has.image (options_of (run_shown c.args.diagnose.now.session)) c.args.rule c.in-Ok.session has.begun

pub end_notes-ended-requires-clause-taken : goal.end_notes-ended-requires-clause-taken
end_notes-ended-requires-clause-taken g c =
    let has = c.in-Ok.ensures.begins in
    let value = run_shown c.args.diagnose.now.session in
    let ran = ran_of c.serve_kept-kept.new.watch.examiner.watch in
    let own : ℕ = c.serve_kept-kept.new.steps - ran in
    let fits : own + ran ≡ ran_of c.make-watch.result.examiner.watch + c.serve_kept-kept.new.steps = omega (arith, c.serve_kept-kept.ensures.counted_at_least, c.make-watch.ensures.ran) in
    subst (λ n. n ≤ MAX_ITEMS) (sym c.taken.ensures)
    (counts_fit g.R.AccessRule.rule (options_of value) (options_in_range value c.requires.in_range (options_of value) refl) has.begun (c.serve_kept-kept.ensures.serves.2 has.image own (begun_own has.image (options_of value) c.args.rule c.in-Ok.session has.begun) fits).0.noted).0

pub end_notes-ended-requires-clause-steps : goal.end_notes-ended-requires-clause-steps
end_notes-ended-requires-clause-steps g c =
    let has = c.in-Ok.ensures.begins in
    let value = run_shown c.args.diagnose.now.session in
    let ran = ran_of c.serve_kept-kept.new.watch.examiner.watch in
    let own : ℕ = c.serve_kept-kept.new.steps - ran in
    let fits : own + ran ≡ ran_of c.make-watch.result.examiner.watch + c.serve_kept-kept.new.steps = omega (arith, c.serve_kept-kept.ensures.counted_at_least, c.make-watch.ensures.ran) in
    subst (λ n. n < 2 ^ 63) (sym c.steps.ensures)
    (counts_fit g.R.AccessRule.rule (options_of value) (options_in_range value c.requires.in_range (options_of value) refl) has.begun (c.serve_kept-kept.ensures.serves.2 has.image own (begun_own has.image (options_of value) c.args.rule c.in-Ok.session has.begun) fits).0.noted).1

pub end_diagnosis-answer-requires : goal.end_diagnosis-answer-requires
end_diagnosis-answer-requires g c is =
    let has = c.in-Ok.ensures.begins in
    let value = run_shown c.args.diagnose.now.session in
    let ran = ran_of c.serve_kept-kept.new.watch.examiner.watch in
    let own : ℕ = c.serve_kept-kept.new.steps - ran in
    let fits : own + ran ≡ ran_of c.make-watch.result.examiner.watch + c.serve_kept-kept.new.steps = omega (arith, c.serve_kept-kept.ensures.counted_at_least, c.make-watch.ensures.ran) in
    let served = c.serve_kept-kept.ensures.serves in
    let at_end : IsEnd (answer_of served.0) = subst IsEnd (closes_same value _ _ _ _ _ _ c.end_notes-ended.ensures.closes is ∙ served.1) is in
    watched_length c.noted_tables_are_told.ensures c.serve_kept-kept.result.episodes c.make-watch.ensures.tables c.tables.ensures
    (served.2 has.image own (begun_own has.image (options_of value) c.args.rule c.in-Ok.session has.begun) fits) at_end

pub returns-clause-ends : goal.returns-clause-ends
returns-clause-ends g c =
    let has = c.in-Ok.ensures.begins in
    let value = run_shown c.args.diagnose.now.session in
    let ran = ran_of c.serve_kept-kept.new.watch.examiner.watch in
    let own : ℕ = c.serve_kept-kept.new.steps - ran in
    let fits : own + ran ≡ ran_of c.make-watch.result.examiner.watch + c.serve_kept-kept.new.steps = omega (arith, c.serve_kept-kept.ensures.counted_at_least, c.make-watch.ensures.ran) in
    let served = c.serve_kept-kept.ensures.serves in
    inr (inr (diagnosed c.noted_tables_are_told.ensures g.R.AccessRule.rule (diagnose_shown c.args.diagnose.now) c.requires.third _ _ _ _ _ _ _ _ _ _ _ _ _ _ _ _ _ _ own c.of_session.result served.0 c.serve_kept-kept.result.episodes
    (omega arith) c.requires.rule has.program has.begun has.starts c.in_default.ensures.starts c.make-watch.ensures.tables c.tables.ensures
    (served.2 has.image own (begun_own has.image (options_of value) c.args.rule c.in-Ok.session has.begun) fits) c.taken.ensures c.steps.ensures served.1 c.end_notes-ended.ensures.closes c.end_diagnosis-answer.ensures.closes
    c.in-Ok.ensures.calls c.in_default.ensures.calls c.serve_kept-kept.ensures.adds c.end_notes-ended.ensures.calls c.end_diagnosis-answer.ensures.calls
    c.of_session.ensures.answer (c.of_session.ensures.recorded ∙ ap (λ (left : Leaves _). left.recorded) c.into_end.ensures) (c.of_session.ensures.tail ∙ ap (λ (left : Leaves _). left.tail) c.into_end.ensures)
    (c.of_session.ensures.taken ∙ ap (λ (left : Leaves _). left.taken) c.into_end.ensures) (c.of_session.ensures.steps ∙ ap (λ (left : Leaves _). left.steps) c.into_end.ensures)))

pub returns-clause-faults : goal.returns-clause-faults
returns-clause-faults g c =
    let value = diagnose_shown c.args.diagnose.now in
    let some = some_kept c.serve_kept-kept.result.episodes in
    let closes = c.end_diagnosis-answer.ensures.closes some.0 some.1 in record {
      file_fault = λ is. elim (c.end_diagnosis-answer.ensures.file_fault (sym c.of_session.ensures.answer ∙ is)) [
        | inl ended ↦ elim (c.end_notes-ended.ensures.file_fault ended) [
          | inl served ↦ rose_within (omega (arith, c.in-Ok.ensures.later, c.in_default.ensures.cause.later)) (omega (arith, c.end_notes-ended.ensures.later, c.end_diagnosis-answer.ensures.later)) (c.serve_kept-kept.ensures.faults.file_fault served)
          | inr noted ↦ rose_within (omega (arith, c.in-Ok.ensures.later, c.in_default.ensures.cause.later, c.serve_kept-kept.ensures.later)) c.end_diagnosis-answer.ensures.later noted
        ]
        | inr told ↦ rose_within (omega (arith, c.in-Ok.ensures.later, c.in_default.ensures.cause.later, c.serve_kept-kept.ensures.later, c.end_notes-ended.ensures.later)) (omega arith) told
      ];
      read_fault = λ is. c.serve_kept-kept.ensures.faults.read_fault (closes_other value.session _ _ _ _ _ _ not_read c.end_notes-ended.ensures.closes (diagnosis_other value some.0 _ _ _ _ _ not_read closes (sym c.of_session.ensures.answer ∙ is)));
      write_fault = λ is. c.serve_kept-kept.ensures.faults.write_fault (closes_other value.session _ _ _ _ _ _ not_write c.end_notes-ended.ensures.closes (diagnosis_other value some.0 _ _ _ _ _ not_write closes (sym c.of_session.ensures.answer ∙ is)));
    }
