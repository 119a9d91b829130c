use Rattle.session_following.proofs.Reaching.{not_reached_stays}

pub returns : Rattle.session_following.proofs.laws.not_reached_stays.Goals.returns
returns c = not_reached_stays
