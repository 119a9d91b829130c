use Rattle.follow.proofs.Stamps.{held_is_passed}

pub returns : Rattle.follow.proofs.laws.held_is_passed.Goals.returns
returns c = held_is_passed
