use Rattle.rx_engine.specs.declared.left.Left.{Left as Leaves}
use Rattle.rx_serve.proofs.Lemmas.{options_in_range, closes_other, not_read, not_write, begun_own, ready, rose_within, faults_as, has_resumed, has_stopped, resumed_fits, served_behind, wider_faults}
use Rattle.rx_serve.proofs.Terms.{ap, arith, inl, inr, refl, subst, sym, ◌<◌, ◌^◌, ◌∙◌, ◌≤◌, MAX_ITEMS, calls_then, handed_of, run_shown, outside, options_of, ClosesFiles, CallsServedBehind, StartsPartlyBehind, before_taken}
use Rattle.rx_serve.proofs.taking_on.resume_under.Goals as goal

pub returns-in-Err-clause-resumes : goal.returns-in-Err-clause-resumes
returns-in-Err-clause-resumes g c =
    let value = run_shown c.args.run.now in
    inl (record {
      starts = subst (StartsPartlyBehind value (handed_of c.args.handed.now).episodes (g.F.Files.told c.args.files.now) (g.F.Files.told c.begin_behind.new.files)) (sym c.without_session.ensures.answer) c.in-Err.ensures.begins;
      called = c.in-Err.ensures.calls;
      untouched = refl;
      nothing = c.without_session.ensures.nothing;
    })

pub resume_noted-requires-clause-begun : goal.resume_noted-requires-clause-begun
resume_noted-requires-clause-begun g c = ready c.args.image.now (options_of (run_shown c.args.run.now)) c.args.rule c.in-Ok.session c.in-Ok.ensures.begins.1

-- ---- it wasn't released

pub returns-in-Err-resume_noted-clause-resumes : goal.returns-in-Err-resume_noted-clause-resumes
returns-in-Err-resume_noted-clause-resumes g c =
    let value = run_shown c.args.run.now in
    let has = c.in-Ok.ensures.begins in
    let adds = c.in-Err-resume_noted.ensures.adds in
    let stops = c.in-Err-resume_noted.ensures.resumes c.args.image.now (begun_own c.args.image.now (options_of value) c.args.rule c.in-Ok.session has.1) in
    inr (inl (record {
      files_started = g.F.Files.told c.begin_behind.new.files;
      starts = has.0;
      why = c.in-Err-resume_noted.why;
      answered = c.without_session-in-Err-resume_noted.ensures.answer ∙ c.unreleased_answer.ensures;
      stops = has_stopped g.R.AccessRule.rule value (handed_of c.args.handed.now)
          (outside (g.F.Files.told c.args.files.now) (g.F.Files.calls c.args.files.now) (g.S.Source.told c.args.input.now) (g.K.Sink.told c.args.output.now) c.args.steps.now)
          (outside (g.F.Files.told c.resume_noted.new.files) (g.F.Files.calls c.resume_noted.new.files) (g.S.Source.told c.resume_noted.new.input) (g.K.Sink.told c.resume_noted.new.output) c.resume_noted.new.steps)
          (g.F.Files.told c.begin_behind.new.files) (g.F.Files.calls c.begin_behind.new.files) c.requires.rule has.1 stops;
      added = adds.added;
      each = adds.each;
      made = calls_then _ _ _ (before_taken value) adds.added c.in-Ok.ensures.calls adds.made;
      nothing = c.without_session-in-Err-resume_noted.ensures.nothing;
    }))

pub returns-in-Err-resume_noted-clause-faults : goal.returns-in-Err-resume_noted-clause-faults
returns-in-Err-resume_noted-clause-faults g c = wider_faults c.in-Ok.ensures.later (faults_as (c.without_session-in-Err-resume_noted.ensures.answer ∙ c.unreleased_answer.ensures) c.in-Err-resume_noted.ensures.faults)

-- ---- it was

pub end_notes-answer-requires-clause-taken : goal.end_notes-answer-requires-clause-taken
end_notes-answer-requires-clause-taken g c =
    let has = c.in-Ok.ensures.begins in
    let value = run_shown c.args.run.now in
    let on = c.in-Ok-resume_noted.ensures.resumes.1.1 c.args.image.now (begun_own c.args.image.now (options_of value) c.args.rule c.in-Ok.session has.1) in
    subst (λ n. n ≤ MAX_ITEMS) (sym c.taken.ensures) (resumed_fits g.R.AccessRule.rule (options_of value) (options_in_range value c.requires.in_range (options_of value) refl) has.1 on).0

pub end_notes-answer-requires-clause-steps : goal.end_notes-answer-requires-clause-steps
end_notes-answer-requires-clause-steps g c =
    let has = c.in-Ok.ensures.begins in
    let value = run_shown c.args.run.now in
    let on = c.in-Ok-resume_noted.ensures.resumes.1.1 c.args.image.now (begun_own c.args.image.now (options_of value) c.args.rule c.in-Ok.session has.1) in
    subst (λ n. n < 2 ^ 63) (sym c.steps.ensures) (resumed_fits g.R.AccessRule.rule (options_of value) (options_in_range value c.requires.in_range (options_of value) refl) has.1 on).1

pub returns-clause-resumes : goal.returns-clause-resumes
returns-clause-resumes g c =
    let has = c.in-Ok.ensures.begins in
    let value = run_shown c.args.run.now in
    let ended = c.in-Ok-resume_noted.ended in
    let resumes = c.in-Ok-resume_noted.ensures.resumes in
    let on = resumes.1.1 c.args.image.now (begun_own c.args.image.now (options_of value) c.args.rule c.in-Ok.session has.1) in
    inr (inr (has_resumed g.R.AccessRule.rule value (handed_of c.args.handed.now)
    (outside (g.F.Files.told c.args.files.now) (g.F.Files.calls c.args.files.now) (g.S.Source.told c.args.input.now) (g.K.Sink.told c.args.output.now) c.args.steps.now)
    (outside (g.F.Files.told c.end_notes-answer.new.files) (g.F.Files.calls c.end_notes-answer.new.files) (g.S.Source.told c.resume_noted.new.input) (g.K.Sink.told c.resume_noted.new.output) c.resume_noted.new.steps)
    (g.F.Files.told c.begin_behind.new.files) (g.F.Files.told c.resume_noted.new.files) (g.F.Files.calls c.begin_behind.new.files) (g.F.Files.calls c.resume_noted.new.files) c.of_session.result resumes.0
    c.requires.rule has.1 has.0 on c.taken.ensures c.steps.ensures
    (subst (λ ended. ClosesFiles value c.taken.result c.steps.result (g.F.Files.told c.resume_noted.new.files) (g.F.Files.told c.end_notes-answer.new.files) ended c.end_notes-answer.result) resumes.1.0 c.end_notes-answer.ensures.closes)
    (subst (λ ended. CallsServedBehind (before_taken value) value (g.F.Files.calls c.args.files.now) (g.F.Files.calls c.end_notes-answer.new.files) ended c.end_notes-answer.result) resumes.1.0
    (served_behind (before_taken value) value _ _ _ _ ended c.end_notes-answer.result c.in-Ok.ensures.calls c.in-Ok-resume_noted.ensures.adds c.end_notes-answer.ensures.calls))
    c.of_session.ensures.answer (c.of_session.ensures.recorded ∙ ap (λ (left : Leaves _). left.recorded) c.into_end.ensures) (c.of_session.ensures.tail ∙ ap (λ (left : Leaves _). left.tail) c.into_end.ensures)
    (c.of_session.ensures.taken ∙ ap (λ (left : Leaves _). left.taken) c.into_end.ensures) (c.of_session.ensures.steps ∙ ap (λ (left : Leaves _). left.steps) c.into_end.ensures)))

pub returns-clause-faults : goal.returns-clause-faults
returns-clause-faults g c = record {
  file_fault = λ is. elim (c.end_notes-answer.ensures.file_fault (sym c.of_session.ensures.answer ∙ is)) [
    | inl served ↦ rose_within (omega (arith, c.in-Ok.ensures.later)) c.end_notes-answer.ensures.later (c.in-Ok-resume_noted.ensures.faults.file_fault served)
    | inr ended ↦ rose_within (omega (arith, c.in-Ok.ensures.later, c.in-Ok-resume_noted.ensures.later)) (omega arith) ended
  ];
  read_fault = λ is. c.in-Ok-resume_noted.ensures.faults.read_fault (closes_other (run_shown c.args.run.now) _ _ _ _ _ _ not_read c.end_notes-answer.ensures.closes (sym c.of_session.ensures.answer ∙ is));
  write_fault = λ is. c.in-Ok-resume_noted.ensures.faults.write_fault (closes_other (run_shown c.args.run.now) _ _ _ _ _ _ not_write c.end_notes-answer.ensures.closes (sym c.of_session.ensures.answer ∙ is));
}
