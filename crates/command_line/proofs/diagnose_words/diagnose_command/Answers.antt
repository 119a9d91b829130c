use Rattle.command_line.proofs.Terms.{and_parts, is_diagnose}
use Rattle.command_line.proofs.Ranges.{diagnose_in_ranges}
use Rattle.command_line.proofs.diagnose_words.diagnose_command.Goals as goal

pub read_diagnose-requires : goal.read_diagnose-requires
unfolding is_diagnose
read_diagnose-requires c = (and_parts _ _ c.requires).0

pub returns-in-Ok : goal.returns-in-Ok
returns-in-Ok c = c.diagnose_from.ensures _ c.in-Ok.ensures.read (diagnose_in_ranges _ c.requires)
