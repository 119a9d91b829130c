use Rattle.command_line.proofs.Terms.{and_parts, is_run}
use Rattle.command_line.proofs.Ranges.{in_ranges}
use Rattle.command_line.proofs.run_words.run_command.Goals as goal

pub read_run-requires : goal.read_run-requires
unfolding is_run
read_run-requires c = (and_parts _ _ c.requires).0

pub returns-in-Ok : goal.returns-in-Ok
returns-in-Ok c = c.run_from.ensures _ c.in-Ok.ensures.read (in_ranges _ c.requires)
