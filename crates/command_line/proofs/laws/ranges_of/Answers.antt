use Rattle.command_line.proofs.Ranges.{ranges_of}
use Rattle.command_line.proofs.laws.ranges_of.Goals as goal

pub returns : goal.returns
returns c = ranges_of
