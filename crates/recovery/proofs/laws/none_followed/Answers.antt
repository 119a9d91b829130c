use Rattle.recovery.proofs.Handled.{none_followed}

pub returns : Rattle.recovery.proofs.laws.none_followed.Goals.returns
returns c = none_followed
