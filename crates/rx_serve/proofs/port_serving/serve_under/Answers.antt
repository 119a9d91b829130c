use Rattle.port_link.proofs.CallLemmas.{just_bound}
use Rattle.rx_engine.specs.declared.left.Left.{Left as Leaves}
use Rattle.rx_serve.proofs.Lemmas.{options_in_range, closes_other, not_read, not_write, run_served, begun_own, counts_fit, not_begun, not_risen, ready, rose_within, run_ends, unwatched}
use Rattle.rx_serve.proofs.Terms.{None, ap, arith, inl, inr, refl, subst, sym, ◌<◌, ◌^◌, ◌∙◌, ◌≤◌, MAX_ITEMS, Port, run_shown, serve_shown, outside, options_of, ClosesFiles, CallsServed, IsBindAnswer, limits_of}
use Rattle.rx_serve.proofs.BindLemmas.{bind_faults}
use Rattle.rx_serve.proofs.port_serving.serve_under.Goals as goal

pub returns-in-Err-clause-ends : goal.returns-in-Err-clause-ends
returns-in-Err-clause-ends g c input output =
    inl (not_begun (run_shown c.args.serve.now.session) _ _ c.in-Err.answer _ c.in-Err.ensures.begins c.without_session.ensures.answer c.without_session.ensures.nothing refl c.in-Err.ensures.calls, refl)

pub returns-in-Err-bind-clause-ends : goal.returns-in-Err-bind-clause-ends
returns-in-Err-bind-clause-ends g c input output =
    let has = c.in-Ok.ensures.begins in
    inr (inl (record {
      image = has.image;
      program = has.program;
      starts = has.starts;
      fault = c.in-Err-bind.fault;
      answered = subst (IsBindAnswer c.in-Err-bind.fault) (sym c.without_session-in-Err-bind.ensures.answer) c.bind_answer.ensures;
      bind = c.in-Err-bind.ensures.call;
      called = c.in-Ok.ensures.calls;
      untouched = refl;
      nothing = c.without_session-in-Err-bind.ensures.nothing;
    }))

pub returns-in-Err-bind-clause-faults : goal.returns-in-Err-bind-clause-faults
returns-in-Err-bind-clause-faults g c output =
    bind_faults _ _ _ _ output c.in-Err-bind.fault c.bind_answer.result _ c.bind_answer.ensures c.without_session-in-Err-bind.ensures.answer c.in-Err-bind.ensures.cause

pub serve_port_noted-ended-requires-clause-begun : goal.serve_port_noted-ended-requires-clause-begun
serve_port_noted-ended-requires-clause-begun g c =
    let has = c.in-Ok.ensures.begins in
    ready has.image (options_of (run_shown c.args.serve.now.session)) c.args.rule c.in-Ok.session has.begun

pub serve_port_noted-ended-requires-clause-bound : goal.serve_port_noted-ended-requires-clause-bound
serve_port_noted-ended-requires-clause-bound g c = just_bound (g.P.Port.told c.args.port.now) (g.P.Port.told c.bind.new.self) c.args.serve.now.port c.in_default.ensures.call

pub end_notes-answer-requires-clause-taken : goal.end_notes-answer-requires-clause-taken
end_notes-answer-requires-clause-taken g c =
    let has = c.in-Ok.ensures.begins in
    let value = run_shown c.args.serve.now.session in
    subst (λ n. n ≤ MAX_ITEMS) (sym c.taken.ensures)
    (counts_fit g.R.AccessRule.rule (options_of value) (options_in_range value c.requires.in_range (options_of value) refl) has.begun ((c.serve_port_noted-ended.ensures.serves None None).2 has.image (begun_own has.image (options_of value) c.args.rule c.in-Ok.session has.begun))).0

pub end_notes-answer-requires-clause-steps : goal.end_notes-answer-requires-clause-steps
end_notes-answer-requires-clause-steps g c =
    let has = c.in-Ok.ensures.begins in
    let value = run_shown c.args.serve.now.session in
    subst (λ n. n < 2 ^ 63) (sym c.steps.ensures)
    (counts_fit g.R.AccessRule.rule (options_of value) (options_in_range value c.requires.in_range (options_of value) refl) has.begun ((c.serve_port_noted-ended.ensures.serves None None).2 has.image (begun_own has.image (options_of value) c.args.rule c.in-Ok.session has.begun))).1

pub returns-clause-ends : goal.returns-clause-ends
returns-clause-ends g c input output =
    let has = c.in-Ok.ensures.begins in
    let value = run_shown c.args.serve.now.session in
    let served = c.serve_port_noted-ended.ensures.serves input output in
    inr (inr (record {
      bound = g.P.Port.told c.bind.new.self;
      bind = c.in_default.ensures.call;
      served =
          (run_ends g.R.AccessRule.rule value (Port (limits_of (serve_shown c.args.serve.now)) (g.P.Port.told c.bind.new.self) (g.P.Port.told c.serve_port_noted-ended.new.port))
          (outside (g.F.Files.told c.args.files.now) (g.F.Files.calls c.args.files.now) input output c.args.steps.now)
          (outside (g.F.Files.told c.end_notes-answer.new.files) (g.F.Files.calls c.end_notes-answer.new.files) input output c.serve_port_noted-ended.new.steps)
          (g.F.Files.told c.begin_session.new.files) (g.F.Files.told c.serve_port_noted-ended.new.files) (g.F.Files.calls c.begin_session.new.files) (g.F.Files.calls c.serve_port_noted-ended.new.files) (options_of value) c.of_session.result served.0
          c.requires.rule refl has.program has.begun has.starts
          (unwatched (served.2 has.image (begun_own has.image (options_of value) c.args.rule c.in-Ok.session has.begun))) c.taken.ensures c.steps.ensures (subst (λ ended. ClosesFiles value c.taken.result c.steps.result (g.F.Files.told c.serve_port_noted-ended.new.files) (g.F.Files.told c.end_notes-answer.new.files) ended c.end_notes-answer.result) served.1 c.end_notes-answer.ensures.closes)
          (subst (λ ended. CallsServed value (g.F.Files.calls c.args.files.now) (g.F.Files.calls c.end_notes-answer.new.files) ended c.end_notes-answer.result) served.1
          (run_served value _ _ _ _ c.serve_port_noted-ended.result c.end_notes-answer.result c.in-Ok.ensures.calls c.serve_port_noted-ended.ensures.adds c.end_notes-answer.ensures.calls))
          c.of_session.ensures.answer (c.of_session.ensures.recorded ∙ ap (λ (left : Leaves _). left.recorded) c.into_end.ensures) (c.of_session.ensures.tail ∙ ap (λ (left : Leaves _). left.tail) c.into_end.ensures)
          (c.of_session.ensures.taken ∙ ap (λ (left : Leaves _). left.taken) c.into_end.ensures) (c.of_session.ensures.steps ∙ ap (λ (left : Leaves _). left.steps) c.into_end.ensures)).0;
      same_input = refl;
      same_output = refl;
      never_write_fault = λ is. not_risen ((c.serve_port_noted-ended.ensures.faults 0).write_fault (closes_other value _ _ _ _ _ _ not_write c.end_notes-answer.ensures.closes (sym c.of_session.ensures.answer ∙ is)));
    }))

pub returns-clause-fixed : goal.returns-clause-fixed
returns-clause-fixed g c = c.serve_port_noted-ended.ensures.fixed ∙ c.in_default.ensures.fixed

pub returns-clause-faults : goal.returns-clause-faults
returns-clause-faults g c output = record {
  file_fault = λ is. elim (c.end_notes-answer.ensures.file_fault (sym c.of_session.ensures.answer ∙ is)) [
    | inl served ↦ rose_within (omega (arith, c.in-Ok.ensures.later)) c.end_notes-answer.ensures.later ((c.serve_port_noted-ended.ensures.faults output).file_fault served)
    | inr ended ↦ rose_within (omega (arith, c.in-Ok.ensures.later, c.serve_port_noted-ended.ensures.later)) (omega arith) ended
  ];
  read_fault = λ is. rose_within c.in_default.ensures.cause.later (omega arith) ((c.serve_port_noted-ended.ensures.faults output).read_fault (closes_other (run_shown c.args.serve.now.session) _ _ _ _ _ _ not_read c.end_notes-answer.ensures.closes (sym c.of_session.ensures.answer ∙ is)));
  write_fault = λ is. (c.serve_port_noted-ended.ensures.faults output).write_fault (closes_other (run_shown c.args.serve.now.session) _ _ _ _ _ _ not_write c.end_notes-answer.ensures.closes (sym c.of_session.ensures.answer ∙ is));
}
