use Rattle.follow.proofs.Runs.{served_wider}

pub returns : Rattle.follow.proofs.laws.served_wider.Goals.returns
returns c = served_wider
