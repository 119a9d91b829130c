use Rattle.follow.proofs.Reached.{follows_before}

pub returns : Rattle.follow.proofs.laws.follows_before.Goals.returns
returns c = follows_before
