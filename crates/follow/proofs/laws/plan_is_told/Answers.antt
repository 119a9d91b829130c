use Rattle.follow.proofs.Told.{plan_is_told}

pub returns : Rattle.follow.proofs.laws.plan_is_told.Goals.returns
returns c = plan_is_told
