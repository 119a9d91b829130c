use Rattle.command_line.proofs.Terms.{ap, sym, ◌∙◌, slice_get, Parts}
use Rattle.command_line.proofs.Taking.{ended}
use Rattle.command_line.proofs.parts.positional.Goals as goal

pub returns : goal.returns
returns c = sym (c.parts.invariant ∙ ap (λ (p : Parts). slice_get p.positionals c.parts.left) (ended _ c.in_default.ensures))
