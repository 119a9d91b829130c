use Rattle.standby.proofs.FrontLemmas.{fronts_are_had}

pub returns : Rattle.standby.proofs.laws.fronts_are_had.Goals.returns
returns c = fronts_are_had
