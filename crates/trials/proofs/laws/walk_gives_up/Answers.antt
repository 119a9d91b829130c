use Rattle.trials.proofs.Walked.{walk_gives_up}

pub returns : Rattle.trials.proofs.laws.walk_gives_up.Goals.returns
returns c = walk_gives_up
