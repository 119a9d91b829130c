use Rattle.rx_serve.proofs.Lemmas.{kept_at, watches_kept, adds_of, kept_is}
use Rattle.rx_serve.proofs.Terms.{ap, arith, rules, ℕ, ◌+◌, ◌-◌, ◌∙◌, ◌≡◌, Trunk, run_shown, outside}
use Rattle.rx_serve.proofs.noting.serve_kept.Goals as goal

pub returns-clause-serves : goal.returns-clause-serves
returns-clause-serves g c =
    let made = c.make-notes.ensures in
    let kept = c.serve_copied-answer.ensures.fixed in
    let more = c.serve_copied-answer.ensures.counted_at_least in
    let counted : ℕ = (g.W.Watch.ran c.args.watch.now + c.serve_copied-answer.new.steps) - (g.W.Watch.ran c.serve_copied-answer.new.watch + c.args.steps.now) in
    let has = c.serve_copied-answer.ensures.served in (
      has.why,
      has.is,
      λ image own begun same.
          let count : own ≡ c.args.steps.now + counted = omega (arith, more, same) in
          let serves =
          watches_kept (run_shown c.args.run.now) (Trunk (g.S.Source.told c.args.input.now) (g.S.Source.told c.serve_copied-answer.new.input) (g.K.Sink.told c.args.output.now) (g.K.Sink.told c.serve_copied-answer.new.output)) (outside (g.F.Files.told c.args.files.now) (g.F.Files.calls c.args.files.now) (g.S.Source.told c.args.input.now) (g.K.Sink.told c.args.output.now) c.args.steps.now)
          (outside (g.F.Files.told c.serve_copied-answer.new.notes.files.now) (g.F.Files.calls c.serve_copied-answer.new.notes.files.now) (g.S.Source.told c.serve_copied-answer.new.input) (g.K.Sink.told c.serve_copied-answer.new.output) own) _ _ _ _ _ _ _ _ _ made.choices made.episodes made.left count (has.served image begun)
          (ap (λ k. k.1.0) kept ∙ made.names) (ap (λ k. k.1.1.0) kept ∙ made.form ∙ c.report_form.ensures)
          (ap (λ k. k.1.1.1.0) kept ∙ made.before.0) c.is_whole.ensures.stands c.is_whole.ensures.asks in
          let all = kept_at (search rules) (search rules) serves in
          (all.0, kept_is c.serve_copied-answer.result.1 _ _ _ _ c.kept_if-episodes.ensures c.serve_copied-answer.ensures.copied all.1),
    )

pub returns-clause-adds : goal.returns-clause-adds
returns-clause-adds g c =
    let made = c.make-notes.ensures in
    let kept = c.serve_copied-answer.ensures.fixed in
    adds_of (ap (λ k. k.1.0) kept ∙ made.names) (ap (λ k. k.1.1.1.1) kept ∙ made.before.1) (search rules) c.is_whole.ensures.adds
