use Rattle.trials.proofs.Asking.{asks_under_all}

pub returns : Rattle.trials.proofs.laws.asks_under_all.Goals.returns
returns c = asks_under_all
