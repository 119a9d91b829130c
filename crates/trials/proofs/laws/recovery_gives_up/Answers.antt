use Rattle.trials.proofs.Recovered.{recovery_gives_up}

pub returns : Rattle.trials.proofs.laws.recovery_gives_up.Goals.returns
returns c = recovery_gives_up
