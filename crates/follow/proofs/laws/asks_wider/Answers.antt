use Rattle.follow.proofs.Runs.{asks_wider}

pub returns : Rattle.follow.proofs.laws.asks_wider.Goals.returns
returns c = asks_wider
