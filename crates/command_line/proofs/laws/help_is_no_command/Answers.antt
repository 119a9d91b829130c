use Rattle.command_line.proofs.Helped.{help_is_no_command}
use Rattle.command_line.proofs.laws.help_is_no_command.Goals as goal

pub returns : goal.returns
returns c = help_is_no_command
