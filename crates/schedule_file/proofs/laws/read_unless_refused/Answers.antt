use Rattle.schedule_file.proofs.Finished.{reading-unrefused}
use Rattle.schedule_file.proofs.Same.{unrefused}
use Rattle.schedule_file.proofs.laws.read_unless_refused.Goals as goal

pub returns : goal.returns
returns c = λ text. (reading-unrefused text, unrefused text)
