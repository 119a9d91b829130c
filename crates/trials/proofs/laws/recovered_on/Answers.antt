use Rattle.trials.proofs.Survivors.{recovered_on}

pub returns : Rattle.trials.proofs.laws.recovered_on.Goals.returns
returns c = recovered_on
