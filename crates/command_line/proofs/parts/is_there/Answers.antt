use Rattle.command_line.proofs.Terms.{ap, sym, ◌∙◌, Parts, has_option}
use Rattle.command_line.proofs.Taking.{ended}
use Rattle.command_line.proofs.parts.is_there.Goals as goal

pub returns : goal.returns
returns c = sym (c.parts.invariant ∙ ap (λ (p : Parts). has_option c.args.name.now p.options) (ended _ c.in_default.ensures))
