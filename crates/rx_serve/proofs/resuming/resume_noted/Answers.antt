use Rattle.rx_serve.proofs.Lemmas.{adds_of, notes_later, resumed_faults, resumes_at, resumes_noted}
use Rattle.rx_serve.proofs.Terms.{ap, arith, rules, ℕ, ◌+◌, ◌-◌, ◌∙◌, ◌≡◌, handed_of, run_shown, outside}
use Rattle.rx_serve.proofs.resuming.resume_noted.Goals as goal

pub returns-clause-resumes : goal.returns-clause-resumes
returns-clause-resumes g c =
    let made = c.make_behind-notes.ensures in
    let kept = c.resume_trunk-answer.ensures.outside.2 in
    let more = c.resume_trunk-answer.ensures.counted_at_least in
    let counted : ℕ = (0 + c.resume_trunk-answer.new.steps) - (0 + c.args.steps.now) in
    let count : c.resume_trunk-answer.new.steps ≡ c.args.steps.now + counted = omega (arith, more) in
    let resumes =
    resumes_noted _ _ (run_shown c.args.run.now) (handed_of c.args.handed.now) (outside (g.F.Files.told c.args.files.now) (g.F.Files.calls c.args.files.now) (g.S.Source.told c.args.input.now) (g.K.Sink.told c.args.output.now) c.args.steps.now)
    (outside (g.F.Files.told c.resume_trunk-answer.new.notes.files.now) (g.F.Files.calls c.resume_trunk-answer.new.notes.files.now) (g.S.Source.told c.resume_trunk-answer.new.input) (g.K.Sink.told c.resume_trunk-answer.new.output) c.resume_trunk-answer.new.steps) counted _ _ _ _ _ _ _ _ _ _ _ _ _ _ _ _ c.resume_trunk-answer.result made.nothing.0 made.nothing.1.0 made.nothing.1.1 count c.resume_trunk-answer.ensures.resumes
    (ap (λ k. k.1.0) kept ∙ made.names) (ap (λ k. k.1.1.0) kept ∙ made.form ∙ c.report_form-form.ensures)
    (ap (λ k. k.0.1.1) kept ∙ made.first) (ap (λ k. k.0.1.0) kept ∙ made.behind.0) c.is_whole.ensures.stands c.is_whole.ensures.behind c.is_whole.ensures.asks in
    resumes_at _ _ _ _ _ c.args.session.now c.resume_trunk-answer.new.session _ _ _ _ (search rules) (search rules) resumes

pub returns-clause-adds : goal.returns-clause-adds
returns-clause-adds g c =
    let made = c.make_behind-notes.ensures in
    let kept = c.resume_trunk-answer.ensures.outside.2 in
    adds_of (ap (λ k. k.1.0) kept ∙ made.names) (ap (λ k. k.1.1.1.1) kept ∙ made.behind.1) (search rules) c.is_whole.ensures.adds

pub returns-clause-later : goal.returns-clause-later
returns-clause-later g c =
    let later = notes_later _ _ _ _ _ _ _ _ _ _ _ _ _ _ c.resume_trunk-answer.result c.resume_trunk-answer.ensures.resumes in
    search (rules, later)

pub returns-clause-faults : goal.returns-clause-faults
returns-clause-faults g c =
    resumed_faults _ _ _ _ _ _ _ _ _ _ _ _ _ _ c.resume_trunk-answer.result c.resume_trunk-answer.ensures.resumes c.resume_trunk-answer.ensures.cause (search rules) (search rules)
