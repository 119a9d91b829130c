use Rattle.command_line.proofs.Terms.{and_parts, is_asm}
use Rattle.command_line.proofs.asm_words.asm_command.Goals as goal

pub read_asm-requires : goal.read_asm-requires
unfolding is_asm
read_asm-requires c = (and_parts _ _ c.requires).0
