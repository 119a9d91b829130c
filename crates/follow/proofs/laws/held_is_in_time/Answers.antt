use Rattle.follow.proofs.Fronts.{held_is_in_time}

pub returns : Rattle.follow.proofs.laws.held_is_in_time.Goals.returns
returns c = held_is_in_time
