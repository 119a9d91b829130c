use Rattle.counts_file.proofs.Refusing.{reading-unrefused}
use Rattle.counts_file.proofs.Same.{unrefused}
use Rattle.counts_file.proofs.laws.read_unless_refused.Goals as goal

pub returns : goal.returns
returns c = λ text. (reading-unrefused text, unrefused text)
