use Rattle.trials.proofs.Shortest.{recoveries_are_shortest}

pub returns : Rattle.trials.proofs.laws.recoveries_are_shortest.Goals.returns
returns c = recoveries_are_shortest
