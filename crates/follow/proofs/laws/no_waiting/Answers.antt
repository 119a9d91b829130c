use Rattle.follow.proofs.Reached.{no_waiting}

pub returns : Rattle.follow.proofs.laws.no_waiting.Goals.returns
returns c = no_waiting
