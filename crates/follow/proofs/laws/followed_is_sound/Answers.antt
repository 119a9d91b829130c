use Rattle.follow.proofs.Behind.{followed_is_sound}

pub returns : Rattle.follow.proofs.laws.followed_is_sound.Goals.returns
returns c = followed_is_sound
