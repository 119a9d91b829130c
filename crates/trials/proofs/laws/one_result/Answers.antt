use Rattle.trials.proofs.Results.{one_result}

pub returns : Rattle.trials.proofs.laws.one_result.Goals.returns
returns c = one_result
