use Rattle.follow.proofs.Fronts.{held_is_front}

pub returns : Rattle.follow.proofs.laws.held_is_front.Goals.returns
returns c = held_is_front
