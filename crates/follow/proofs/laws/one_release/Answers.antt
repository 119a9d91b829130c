use Rattle.follow.proofs.Released.{one_release}

pub returns : Rattle.follow.proofs.laws.one_release.Goals.returns
returns c = one_release
