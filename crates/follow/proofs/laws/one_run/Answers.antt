use Rattle.follow.proofs.Runs.{one_run}

pub returns : Rattle.follow.proofs.laws.one_run.Goals.returns
returns c = one_run
