use Rattle.rx_serve.proofs.Lemmas.{watched_at, watches_noted}
use Rattle.rx_serve.proofs.Terms.{ap, arith, rules, ℕ, ◌+◌, ◌-◌, ◌∙◌, ◌≡◌, Port, run_shown, serve_shown, outside, limits_of}
use Rattle.rx_serve.proofs.port_serving.serve_port_noted.Goals as goal

pub returns-clause-serves : goal.returns-clause-serves
returns-clause-serves g c input output =
    let made = c.make-notes.ensures in
    let kept = c.serve_port-answer.ensures.outside.1 in
    let more = c.serve_port-answer.ensures.counted_at_least in
    let counted : ℕ = c.serve_port-answer.new.steps - c.args.steps.now in
    let count : c.serve_port-answer.new.steps ≡ c.args.steps.now + counted = omega (arith, more) in
    let has = c.serve_port-answer.ensures.served in (
      has.why,
      has.is,
      λ image begun.
          let serves =
          watches_noted (run_shown c.args.serve.now.session) (Port (limits_of (serve_shown c.args.serve.now)) (g.P.Port.told c.args.port.now) (g.P.Port.told c.serve_port-answer.new.port)) (outside (g.F.Files.told c.args.files.now) (g.F.Files.calls c.args.files.now) input output c.args.steps.now)
          (outside (g.F.Files.told c.serve_port-answer.new.notes.files.now) (g.F.Files.calls c.serve_port-answer.new.notes.files.now) input output c.serve_port-answer.new.steps) _ _ _ _ _ _ _ _ _ made.choices made.episodes made.left count (has.served image begun)
          (ap (λ k. k.1.0) kept ∙ made.names) (ap (λ k. k.1.1.0) kept ∙ made.form ∙ c.report_form.ensures)
          (ap (λ k. k.1.1.1.0) kept ∙ made.before.0) c.is_whole.ensures.stands c.is_whole.ensures.asks in
          (watched_at (search rules) (search rules) serves).noted,
    )
