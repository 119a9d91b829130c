use Rattle.follow.proofs.Behind.{followed_is_past}

pub returns : Rattle.follow.proofs.laws.followed_is_past.Goals.returns
returns c = followed_is_past
