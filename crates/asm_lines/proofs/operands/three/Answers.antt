use Rattle.asm_lines.proofs.Terms.{rules}
use Rattle.asm_lines.proofs.Parting.{three_uncut, three_cut, three_comma, three_parts_of}
use Rattle.asm_lines.proofs.operands.three.Goals as goal

pub returns-in_default : goal.returns-in_default
returns-in_default c = three_uncut c.args.operands.now (search rules)

pub returns-in_default-cut : goal.returns-in_default-cut
returns-in_default-cut c = three_cut c.args.operands.now c.in-Some.first.now c.in-Some.rest.now (search rules) (search rules)

pub returns-then-has_comma : goal.returns-then-has_comma
returns-then-has_comma c = three_comma c.args.operands.now c.in-Some.first.now c.in-Some.rest.now c.in-Some-cut.second.now c.in-Some-cut.third.now (search rules) (search rules) (search rules)

pub returns : goal.returns
returns c = rw (c.trimmed.ensures, c.trimmed-2.ensures, c.trimmed-3.ensures) (three_parts_of c.args.operands.now c.in-Some.first.now c.in-Some.rest.now c.in-Some-cut.second.now c.in-Some-cut.third.now (search rules) (search rules) (search rules))
