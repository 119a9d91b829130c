use Rattle.trials.proofs.Planned.{trial_serves}

pub returns : Rattle.trials.proofs.laws.trial_serves.Goals.returns
returns c = trial_serves
