use Rattle.follow.proofs.Placed.{episodes_are_placed}

pub returns : Rattle.follow.proofs.laws.episodes_are_placed.Goals.returns
returns c = episodes_are_placed
