use Rattle.report_reading.proofs.Coded.{above_last}
use Rattle.report_reading.proofs.reading.is_above.Goals as goal

pub returns-in-Some : goal.returns-in-Some
returns-in-Some c = above_last c.args.adopted.now c.in-Some.e.now c.args.point c.in-Some.ensures.value
