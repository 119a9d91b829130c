use Rattle.trials.proofs.Recovered.{recovery_adopts}

pub returns : Rattle.trials.proofs.laws.recovery_adopts.Goals.returns
returns c = recovery_adopts
