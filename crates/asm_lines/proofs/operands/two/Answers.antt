use Rattle.asm_lines.proofs.Terms.{rules}
use Rattle.asm_lines.proofs.Parting.{two_uncut, two_comma, two_parts_of}
use Rattle.asm_lines.proofs.operands.two.Goals as goal

pub returns-in_default : goal.returns-in_default
returns-in_default c = two_uncut c.args.operands.now (search rules)

pub returns-then-has_comma : goal.returns-then-has_comma
returns-then-has_comma c = two_comma c.args.operands.now c.in-Some.first.now c.in-Some.second.now (search rules) (search rules)

pub returns : goal.returns
returns c = rw (c.trimmed.ensures, c.trimmed-2.ensures) (two_parts_of c.args.operands.now c.in-Some.first.now c.in-Some.second.now (search rules) (search rules))
