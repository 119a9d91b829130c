use Rattle.follow.proofs.Reached.{reaches_in_time}

pub returns : Rattle.follow.proofs.laws.reaches_in_time.Goals.returns
returns c = reaches_in_time
