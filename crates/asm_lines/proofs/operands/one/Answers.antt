use Rattle.asm_lines.proofs.Terms.{Ok, ap, rules, sym, ◌∙◌}
use Rattle.asm_lines.proofs.Parting.{one_empty, one_comma, one_part}
use Rattle.asm_lines.proofs.operands.one.Goals as goal

pub returns-then-is_empty : goal.returns-then-is_empty
returns-then-is_empty c = one_empty c.args.operands.now (search rules)

pub returns-then-has_comma : goal.returns-then-has_comma
returns-then-has_comma c = one_comma c.args.operands.now (search rules)

pub returns : goal.returns
returns c = one_part c.args.operands.now (search rules) (search rules) ∙ ap Ok (sym c.trimmed.ensures)
