use Rattle.follow.proofs.Stamps.{held_is_fixed}

pub returns : Rattle.follow.proofs.laws.held_is_fixed.Goals.returns
returns c = held_is_fixed
