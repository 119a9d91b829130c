use Rattle.rx_engine.specs.declared.left.Left.{Left as Leaves}
use Rattle.rx_serve.proofs.Lemmas.{options_in_range, closes_other, not_read, not_write, run_served, begun_own, counts_fit, no_more, not_begun, ready, rose_within, run_ends}
use Rattle.rx_serve.proofs.Terms.{ap, arith, inl, inr, refl, subst, sym, ◌<◌, ◌^◌, ◌∙◌, ◌≤◌, MAX_ITEMS, Trunk, run_shown, outside, options_of, ClosesFiles, CallsServed}
use Rattle.rx_serve.proofs.serving.run_under.Goals as goal

pub returns-in-Err-clause-ends : goal.returns-in-Err-clause-ends
returns-in-Err-clause-ends g c =
    inl (not_begun (run_shown c.args.run.now) _ _ c.in-Err.answer _ c.in-Err.ensures.begins c.without_session.ensures.answer c.without_session.ensures.nothing refl c.in-Err.ensures.calls)

pub serve_noted-ended-requires-clause-begun : goal.serve_noted-ended-requires-clause-begun
serve_noted-ended-requires-clause-begun g c =
    let has = c.in-Ok.ensures.begins in
    ready has.image (options_of (run_shown c.args.run.now)) c.args.rule c.in-Ok.session has.begun

pub end_notes-answer-requires-clause-taken : goal.end_notes-answer-requires-clause-taken
end_notes-answer-requires-clause-taken g c =
    let has = c.in-Ok.ensures.begins in
    let value = run_shown c.args.run.now in
    subst (λ n. n ≤ MAX_ITEMS) (sym c.taken.ensures)
    (counts_fit g.R.AccessRule.rule (options_of value) (options_in_range value c.requires.in_range (options_of value) refl) has.begun (c.serve_noted-ended.ensures.serves.2 has.image c.serve_noted-ended.new.steps (begun_own has.image (options_of value) c.args.rule c.in-Ok.session has.begun) (no_more c.serve_noted-ended.new.steps)).noted).0

pub end_notes-answer-requires-clause-steps : goal.end_notes-answer-requires-clause-steps
end_notes-answer-requires-clause-steps g c =
    let has = c.in-Ok.ensures.begins in
    let value = run_shown c.args.run.now in
    subst (λ n. n < 2 ^ 63) (sym c.steps.ensures)
    (counts_fit g.R.AccessRule.rule (options_of value) (options_in_range value c.requires.in_range (options_of value) refl) has.begun (c.serve_noted-ended.ensures.serves.2 has.image c.serve_noted-ended.new.steps (begun_own has.image (options_of value) c.args.rule c.in-Ok.session has.begun) (no_more c.serve_noted-ended.new.steps)).noted).1

pub returns-clause-ends : goal.returns-clause-ends
returns-clause-ends g c =
    let has = c.in-Ok.ensures.begins in
    let value = run_shown c.args.run.now in
    inr (run_ends g.R.AccessRule.rule value (Trunk (g.S.Source.told c.args.input.now) (g.S.Source.told c.serve_noted-ended.new.input) (g.K.Sink.told c.args.output.now) (g.K.Sink.told c.serve_noted-ended.new.output))
    (outside (g.F.Files.told c.args.files.now) (g.F.Files.calls c.args.files.now) (g.S.Source.told c.args.input.now) (g.K.Sink.told c.args.output.now) c.args.steps.now)
    (outside (g.F.Files.told c.end_notes-answer.new.files) (g.F.Files.calls c.end_notes-answer.new.files) (g.S.Source.told c.serve_noted-ended.new.input) (g.K.Sink.told c.serve_noted-ended.new.output) c.serve_noted-ended.new.steps)
    (g.F.Files.told c.begin_session.new.files) (g.F.Files.told c.serve_noted-ended.new.files) (g.F.Files.calls c.begin_session.new.files) (g.F.Files.calls c.serve_noted-ended.new.files) (options_of value) c.of_session.result c.serve_noted-ended.ensures.serves.0
    c.requires.rule refl has.program has.begun has.starts
    (c.serve_noted-ended.ensures.serves.2 has.image c.serve_noted-ended.new.steps (begun_own has.image (options_of value) c.args.rule c.in-Ok.session has.begun) (no_more c.serve_noted-ended.new.steps)) c.taken.ensures c.steps.ensures (subst (λ ended. ClosesFiles value c.taken.result c.steps.result (g.F.Files.told c.serve_noted-ended.new.files) (g.F.Files.told c.end_notes-answer.new.files) ended c.end_notes-answer.result) c.serve_noted-ended.ensures.serves.1 c.end_notes-answer.ensures.closes)
    (subst (λ ended. CallsServed value (g.F.Files.calls c.args.files.now) (g.F.Files.calls c.end_notes-answer.new.files) ended c.end_notes-answer.result) c.serve_noted-ended.ensures.serves.1
    (run_served value _ _ _ _ c.serve_noted-ended.result c.end_notes-answer.result c.in-Ok.ensures.calls c.serve_noted-ended.ensures.adds c.end_notes-answer.ensures.calls))
    c.of_session.ensures.answer (c.of_session.ensures.recorded ∙ ap (λ (left : Leaves _). left.recorded) c.into_end.ensures) (c.of_session.ensures.tail ∙ ap (λ (left : Leaves _). left.tail) c.into_end.ensures)
    (c.of_session.ensures.taken ∙ ap (λ (left : Leaves _). left.taken) c.into_end.ensures) (c.of_session.ensures.steps ∙ ap (λ (left : Leaves _). left.steps) c.into_end.ensures)).0

pub returns-clause-faults : goal.returns-clause-faults
returns-clause-faults g c = record {
  file_fault = λ is. elim (c.end_notes-answer.ensures.file_fault (sym c.of_session.ensures.answer ∙ is)) [
    | inl served ↦ rose_within (omega (arith, c.in-Ok.ensures.later)) c.end_notes-answer.ensures.later (c.serve_noted-ended.ensures.faults.file_fault served)
    | inr ended ↦ rose_within (omega (arith, c.in-Ok.ensures.later, c.serve_noted-ended.ensures.later)) (omega arith) ended
  ];
  read_fault = λ is. c.serve_noted-ended.ensures.faults.read_fault (closes_other (run_shown c.args.run.now) _ _ _ _ _ _ not_read c.end_notes-answer.ensures.closes (sym c.of_session.ensures.answer ∙ is));
  write_fault = λ is. c.serve_noted-ended.ensures.faults.write_fault (closes_other (run_shown c.args.run.now) _ _ _ _ _ _ not_write c.end_notes-answer.ensures.closes (sym c.of_session.ensures.answer ∙ is));
}
