use Rattle.follow.proofs.Agreed.{stuck_has_reached}

pub returns : Rattle.follow.proofs.laws.stuck_has_reached.Goals.returns
returns c = stuck_has_reached
