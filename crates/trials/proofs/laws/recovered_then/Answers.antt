use Rattle.trials.proofs.Survivors.{recovered_then}

pub returns : Rattle.trials.proofs.laws.recovered_then.Goals.returns
returns c = recovered_then
