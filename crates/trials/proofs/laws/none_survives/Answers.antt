use Rattle.trials.proofs.Walked.{none_survives}

pub returns : Rattle.trials.proofs.laws.none_survives.Goals.returns
returns c = none_survives
