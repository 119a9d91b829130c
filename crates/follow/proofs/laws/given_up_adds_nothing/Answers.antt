use Rattle.follow.proofs.Told.{given_up_adds_nothing}

pub returns : Rattle.follow.proofs.laws.given_up_adds_nothing.Goals.returns
returns c = given_up_adds_nothing
