use Rattle.trials.proofs.Walked.{walk_adopts}

pub returns : Rattle.trials.proofs.laws.walk_adopts.Goals.returns
returns c = walk_adopts
