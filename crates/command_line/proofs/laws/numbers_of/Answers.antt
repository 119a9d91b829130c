use Rattle.command_line.proofs.Ranges.{numbers_of}
use Rattle.command_line.proofs.laws.numbers_of.Goals as goal

pub returns : goal.returns
returns c = numbers_of
