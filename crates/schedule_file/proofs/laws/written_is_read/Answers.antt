use Rattle.schedule_file.proofs.Same.{written_is_read}
use Rattle.schedule_file.proofs.laws.written_is_read.Goals as goal

pub returns : goal.returns
returns c = written_is_read
