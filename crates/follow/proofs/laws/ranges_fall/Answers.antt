use Rattle.follow.proofs.Ranges.{ranges_fall}

pub returns : Rattle.follow.proofs.laws.ranges_fall.Goals.returns
returns c = ranges_fall
