use Rattle.std.proofs.Common.{rules, ◌≡◌}
use Rattle.telling.proofs.ServeLemmas.{served_at}
use Rattle.telling.proofs.serving.serve_watched_told.Goals as goal

pub returns-clause-served : goal.returns-clause-served
returns-clause-served g c =
    let old : g.N.Notes.shown c.make-telling.result.notes.now ≡ g.N.Notes.shown c.args.notes.now = λ i. g.N.Notes.shown (c.make-telling.ensures i).now in
    served_at old (search rules) c.serve_watched.ensures.served
