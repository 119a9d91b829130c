use Rattle.follow.proofs.Agreed.{answers_agree}

pub returns : Rattle.follow.proofs.laws.answers_agree.Goals.returns
returns c = answers_agree
