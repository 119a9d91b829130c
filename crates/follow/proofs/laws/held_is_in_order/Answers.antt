use Rattle.follow.proofs.Stamps.{held_is_in_order}

pub returns : Rattle.follow.proofs.laws.held_is_in_order.Goals.returns
returns c = held_is_in_order
