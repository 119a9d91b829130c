use Rattle.follow.proofs.Stamps.{passed_is_sent}

pub returns : Rattle.follow.proofs.laws.passed_is_sent.Goals.returns
returns c = passed_is_sent
