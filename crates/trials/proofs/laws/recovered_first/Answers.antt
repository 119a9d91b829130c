use Rattle.trials.proofs.Survivors.{recovered_first}

pub returns : Rattle.trials.proofs.laws.recovered_first.Goals.returns
returns c = recovered_first
