use Rattle.trials.proofs.Planned.{trial_comes}

pub returns : Rattle.trials.proofs.laws.trial_comes.Goals.returns
returns c = trial_comes
