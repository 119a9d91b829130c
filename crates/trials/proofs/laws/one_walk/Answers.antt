use Rattle.trials.proofs.Walked.{one_walk}

pub returns : Rattle.trials.proofs.laws.one_walk.Goals.returns
returns c = one_walk
