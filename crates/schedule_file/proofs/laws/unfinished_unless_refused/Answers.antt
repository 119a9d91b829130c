use Rattle.schedule_file.proofs.Refusing.{unfinished-unrefused}
use Rattle.schedule_file.proofs.Same.{unfinished-unless}
use Rattle.schedule_file.proofs.laws.unfinished_unless_refused.Goals as goal

pub returns : goal.returns
returns c = λ text. (unfinished-unrefused text, unfinished-unless text)
