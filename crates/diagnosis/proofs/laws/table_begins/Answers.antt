use Rattle.diagnosis.proofs.LawLemmas.{table_begins}
use Rattle.diagnosis.proofs.laws.table_begins.Goals as goal

pub returns : goal.returns
returns c = table_begins
