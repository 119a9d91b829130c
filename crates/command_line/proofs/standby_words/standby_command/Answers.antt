use Rattle.command_line.proofs.Terms.{and_parts, is_standby}
use Rattle.command_line.proofs.standby_words.standby_command.Goals as goal

pub read_standby-requires : goal.read_standby-requires
unfolding is_standby
read_standby-requires c = (and_parts _ _ c.requires).0
