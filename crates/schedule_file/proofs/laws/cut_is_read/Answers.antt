use Rattle.schedule_file.proofs.Cut.{cut_read}
use Rattle.schedule_file.proofs.laws.cut_is_read.Goals as goal

pub returns : goal.returns
returns c = cut_read
