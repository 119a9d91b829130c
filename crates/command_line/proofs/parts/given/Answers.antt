use Rattle.command_line.proofs.Terms.{ap, sym, ◌∙◌, Parts, row_read, given}
use Rattle.command_line.proofs.Taking.{ended}
use Rattle.command_line.proofs.parts.given.Goals as goal

pub returns : goal.returns
returns c = sym (c.parts.invariant ∙ ap (λ (p : Parts). given (row_read c.args.row.now) p.options) (ended _ c.in_default.ensures))
