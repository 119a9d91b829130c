use Rattle.report_reading.proofs.Completing.{reading_read}
use Rattle.report_reading.proofs.Sounding.{read_reading}
use Rattle.report_reading.proofs.laws.read_unless_refused.Goals as goal

pub returns : goal.returns
returns c = λ text value. (reading_read text value, read_reading text value)
