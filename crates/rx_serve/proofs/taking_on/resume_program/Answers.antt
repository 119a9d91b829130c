use Rattle.command_line.specs.Ranges.{AreInRange}
use Rattle.rx_serve.proofs.Lemmas.{may_be_handed, wider_faults}
use Rattle.rx_serve.proofs.Terms.{Option, ap, inl, inr, refl, subst, sym, ◌∙◌, Contents, Handed, AreTwo, handed_of, MayBeHanded, resumed_in_range, RunValue, resume_shown, run_in, outside, window_of, names_of, HasHandoverCause, ResumesSession, handed_in}
use Rattle.rx_serve.proofs.taking_on.resume_program.Goals as goal

pub resume_guarded-requires-clause-in_range : goal.resume_guarded-requires-clause-in_range
resume_guarded-requires-clause-in_range g c =
    let value = resume_shown c.args.resume.now in
    let read = c.in-Ok.ensures.loads.holds.handed.is.is in
    subst AreInRange (sym c.run_in-run.ensures) (resumed_in_range value c.in-Ok.over.handed.window c.in-Ok.over.handed.frame c.requires.in_range read.some_window read.window)

pub resume_guarded-requires-clause-two : goal.resume_guarded-requires-clause-two
resume_guarded-requires-clause-two g c = subst (λ (v : RunValue). AreTwo (names_of v)) (sym c.run_in-run.ensures) c.requires.two

pub resume_guarded-requires-clause-window : goal.resume_guarded-requires-clause-window
resume_guarded-requires-clause-window g c = c.in-Ok.ensures.loads.holds.is.in_window ∙ ap window_of (sym c.run_in-run.ensures)

pub resume_guarded-requires-clause-handed : goal.resume_guarded-requires-clause-handed
resume_guarded-requires-clause-handed g c = subst MayBeHanded (sym c.handed_over-handed.ensures) (may_be_handed (handed_in c.in-Ok.over) c.in-Ok.ensures.loads.holds)

pub returns-in-Err-clause-ends : goal.returns-in-Err-clause-ends
returns-in-Err-clause-ends g c =
    inl (record {
      cause = subst (HasHandoverCause (g.F.Files.told c.args.files.now) (resume_shown c.args.resume.now)) (sym c.without_session.ensures.answer) c.in-Err.ensures.loads;
      same_files = c.in-Err.ensures.same;
      called = c.in-Err.ensures.calls;
      untouched = refl;
      nothing = c.without_session.ensures.nothing;
    })

pub returns-clause-ends : goal.returns-clause-ends
returns-clause-ends g c =
    let value = resume_shown c.args.resume.now in
    let over = c.in-Ok.over in
    let loads = c.in-Ok.ensures.loads in
    let taken = c.resume_guarded in
    let Leaves : RunValue → Handed → Option Contents → Type 0 =
    λ run handed files. ResumesSession run over.image handed
    (outside files (g.F.Files.calls c.load_handover.new.files) (g.S.Source.told c.args.input.now) (g.K.Sink.told c.args.output.now) c.args.steps.now)
    (outside (g.F.Files.told taken.new.files) (g.F.Files.calls taken.new.files) (g.S.Source.told taken.new.input) (g.K.Sink.told taken.new.output) taken.new.steps) taken.result in
    inr (record {
      window = over.handed.window;
      frame = over.handed.frame;
      image = over.image;
      handed = handed_in over;
      loaded = record { texts = loads.texts; files = loads.files; holds = record { finish = over.handed.finish; finish_is = refl; are = loads.holds } };
      calls_loaded = g.F.Files.calls c.load_handover.new.files;
      called = c.in-Ok.ensures.calls;
      resumes =
          subst (Leaves (run_in value over.handed.window over.handed.frame) (handed_in over)) c.in-Ok.ensures.same
          (subst (λ (h : Handed). Leaves (run_in value over.handed.window over.handed.frame) h (g.F.Files.told c.load_handover.new.files)) c.handed_over-handed.ensures
          (subst (λ (r : RunValue). Leaves r (handed_of c.handed_over-handed.result) (g.F.Files.told c.load_handover.new.files)) c.run_in-run.ensures taken.ensures.resumes));
    })

pub returns-clause-faults : goal.returns-clause-faults
returns-clause-faults g c = wider_faults c.in-Ok.ensures.later c.resume_guarded.ensures.faults
