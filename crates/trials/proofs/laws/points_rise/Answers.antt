use Rattle.trials.proofs.Survivors.{points_rise}

pub returns : Rattle.trials.proofs.laws.points_rise.Goals.returns
returns c = points_rise
