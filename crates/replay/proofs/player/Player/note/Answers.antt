use Rattle.replay.proofs.Terms.{subst, sym, Err, Answer, DiffersBy, Never}
use Rattle.replay.proofs.DifferLemmas.{refusal_never}
use Rattle.replay.proofs.player.Player.note.Goals as goal

pub returns-in-Err-clause-differs : goal.returns-in-Err-clause-differs
returns-in-Err-clause-differs c =
    subst (λ (end : Answer). DiffersBy Never c.args.self.now.difference c.args.self.now.difference (Err end)) (sym c.refused_by.ensures)
    (refusal_never Never c.args.self.now.difference c.in-Err.refusal)
