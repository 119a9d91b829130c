use Rattle.trials.proofs.Chained.{chained_adopt}

pub returns : Rattle.trials.proofs.laws.chained_adopt.Goals.returns
returns c = chained_adopt
