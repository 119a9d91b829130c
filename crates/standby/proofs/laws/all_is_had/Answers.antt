use Rattle.standby.proofs.FrontLemmas.{all_is_had}

pub returns : Rattle.standby.proofs.laws.all_is_had.Goals.returns
returns c = all_is_had
