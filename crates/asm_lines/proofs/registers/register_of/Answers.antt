use Rattle.asm_lines.proofs.Terms.{register_of, register_table}
use Rattle.asm_lines.proofs.registers.register_of.Goals as goal

pub returns : goal.returns
unfolding register_of register_table
returns c = c.look_up.ensures
