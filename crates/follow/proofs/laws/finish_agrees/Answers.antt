use Rattle.follow.proofs.Agreed.{finish_agrees}

pub returns : Rattle.follow.proofs.laws.finish_agrees.Goals.returns
returns c = finish_agrees
