use Rattle.report_reading.proofs.Exiting.{written_read}
use Rattle.report_reading.proofs.laws.written_is_read.Goals as goal

pub returns : goal.returns
returns c = written_read
