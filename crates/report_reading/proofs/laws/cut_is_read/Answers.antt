use Rattle.report_reading.proofs.Stopping.{cut_read}
use Rattle.report_reading.proofs.laws.cut_is_read.Goals as goal

pub returns : goal.returns
returns c = cut_read
