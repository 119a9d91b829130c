use Rattle.counts_file.proofs.Same.{one_reading}
use Rattle.counts_file.proofs.laws.one_reading.Goals as goal

pub returns : goal.returns
returns c = one_reading
