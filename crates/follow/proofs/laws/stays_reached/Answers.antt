use Rattle.follow.proofs.Released.{stays_reached}

pub returns : Rattle.follow.proofs.laws.stays_reached.Goals.returns
returns c = stays_reached
