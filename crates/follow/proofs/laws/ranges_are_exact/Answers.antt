use Rattle.follow.proofs.Ranges.{ranges_are_exact}

pub returns : Rattle.follow.proofs.laws.ranges_are_exact.Goals.returns
returns c = ranges_are_exact
