use Rattle.command_line.proofs.Terms.{and_parts, is_convert}
use Rattle.command_line.proofs.convert_words.convert_command.Goals as goal

pub read_convert-requires : goal.read_convert-requires
unfolding is_convert
read_convert-requires c = (and_parts _ _ c.requires).0
