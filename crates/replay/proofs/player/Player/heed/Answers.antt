use Rattle.replay.proofs.Terms.{Some, refl, subst, sym, Err, Answer, DiffersBy, IsInputEnd}
use Rattle.replay.specs.declared.difference.Difference.TheVariants as difference
use Rattle.replay.proofs.DifferLemmas.{differs_never}
use Rattle.replay.proofs.player.Player.heed.Goals as goal

pub returns-in-Ends-clause-differs : goal.returns-in-Ends-clause-differs
returns-in-Ends-clause-differs c =
    subst (λ (end : Answer). DiffersBy IsInputEnd c.args.self.now.difference (Some difference.InputEnded) (Err end)) (sym c.mismatch.ensures) refl

pub returns-in_default-clause-differs : goal.returns-in_default-clause-differs
returns-in_default-clause-differs c =
    differs_never IsInputEnd c.args.self.now.difference c.note.new.self.difference c.note.result c.note.ensures.differs
