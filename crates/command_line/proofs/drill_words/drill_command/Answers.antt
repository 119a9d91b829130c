use Rattle.command_line.proofs.Terms.{and_parts, is_drill}
use Rattle.command_line.proofs.Ranges.{drill_in_ranges}
use Rattle.command_line.proofs.drill_words.drill_command.Goals as goal

pub read_drill-requires : goal.read_drill-requires
unfolding is_drill
read_drill-requires c = (and_parts _ _ c.requires).0

pub returns-in-Ok : goal.returns-in-Ok
returns-in-Ok c = c.drill_from.ensures _ c.in-Ok.ensures.read (drill_in_ranges _ c.requires)
