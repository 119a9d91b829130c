use Rattle.asm_lines.proofs.Terms.{rules}
use Rattle.asm_lines.proofs.Parting.{lone_empty, lone_filled}
use Rattle.asm_lines.proofs.statements.into_section.Goals as goal

pub returns-then-is_empty : goal.returns-then-is_empty
returns-then-is_empty c = lone_empty _ c.args.operands.now (search rules)

pub returns-else-is_empty : goal.returns-else-is_empty
returns-else-is_empty c = lone_filled _ c.args.operands.now (search rules)
