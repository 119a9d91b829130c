use Rattle.command_line.proofs.Terms.{ap, arith, nat_eq, refl, suc, sym, true, zero, ℕ, ◌&&◌, ◌∙◌, ◌≡◌, Parts, are_positionals}
use Rattle.command_line.proofs.Taking.{ended}
use Rattle.command_line.proofs.parts.are_names.Goals as goal

zero_left : (left : ℕ) → nat_eq left 0 ≡ (nat_eq 0 left && true)
zero_left zero = refl
zero_left (suc n) = grind arith

pub returns : goal.returns
returns c = zero_left c.parts.left ∙ sym (c.parts.invariant ∙ ap (λ (p : Parts). are_positionals c.parts.left p.positionals) (ended _ c.in_default.ensures))
