use Rattle.trials.proofs.Chained.{chained_drop}

pub returns : Rattle.trials.proofs.laws.chained_drop.Goals.returns
returns c = chained_drop
