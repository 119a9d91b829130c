use Rattle.trials.proofs.Shortest.{failure_is_shortest}

pub returns : Rattle.trials.proofs.laws.failure_is_shortest.Goals.returns
returns c = failure_is_shortest
