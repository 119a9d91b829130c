use Rattle.diagnosis.proofs.LawLemmas.{verdict_adopts}
use Rattle.diagnosis.proofs.laws.verdict_adopts.Goals as goal

pub returns : goal.returns
returns c = verdict_adopts
