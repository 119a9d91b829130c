use Rattle.trials.proofs.Chained.{chained_at}

pub returns : Rattle.trials.proofs.laws.chained_at.Goals.returns
returns c = chained_at
