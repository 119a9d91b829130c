use Rattle.follow.proofs.Agreed.{held_at_release}

pub returns : Rattle.follow.proofs.laws.held_at_release.Goals.returns
returns c = held_at_release
