use Rattle.command_line.proofs.Terms.{ap, sym, ◌∙◌, Parts, rows_read, are_options}
use Rattle.command_line.proofs.Taking.{ended}
use Rattle.command_line.proofs.parts.are_taken.Goals as goal

pub returns : goal.returns
returns c = sym (c.parts.invariant ∙ ap (λ (p : Parts). are_options (rows_read c.args.rows.now) p.options) (ended _ c.in_default.ensures))
