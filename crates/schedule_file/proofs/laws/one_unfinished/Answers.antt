use Rattle.schedule_file.proofs.Same.{one_unfinished}
use Rattle.schedule_file.proofs.laws.one_unfinished.Goals as goal

pub returns : goal.returns
returns c = one_unfinished
