use Rattle.rx_serve.proofs.Lemmas.{served_at}
use Rattle.rx_serve.proofs.Terms.{ap, rules, ◌∙◌, ◌≡◌}
use Rattle.rx_serve.proofs.noting.serve_copied.Goals as goal

pub returns-clause-served : goal.returns-clause-served
returns-clause-served g c =
    let old : g.N.Notes.shown c.make-both.result.notes.now ≡ g.N.Notes.shown c.args.notes.now = λ i. g.N.Notes.shown (c.make-both.ensures.notes i).now in
    served_at old (search rules) c.serve_trunk-answer.ensures.served

pub returns-clause-fixed : goal.returns-clause-fixed
returns-clause-fixed g c =
    let old : g.N.Notes.fixed c.make-both.result.notes.now ≡ g.N.Notes.fixed c.args.notes.now = λ i. g.N.Notes.fixed (c.make-both.ensures.notes i).now in
    let kept : g.N.Notes.fixed c.serve_trunk-answer.new.notes.notes.now ≡ g.N.Notes.fixed c.make-both.result.notes.now = ap (λ k. k.0.1) c.serve_trunk-answer.ensures.outside.2 in
    search (rules, kept ∙ old)
