use Rattle.trials.proofs.Recovered.{one_recovery}

pub returns : Rattle.trials.proofs.laws.one_recovery.Goals.returns
returns c = one_recovery
