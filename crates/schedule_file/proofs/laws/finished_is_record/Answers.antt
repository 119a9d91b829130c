use Rattle.schedule_file.proofs.Finished.{unfinished_reading, finished_reading}
use Rattle.schedule_file.proofs.laws.finished_is_record.Goals as goal

pub returns : goal.returns
returns c = λ text value. (unfinished_reading text value, finished_reading text value)
