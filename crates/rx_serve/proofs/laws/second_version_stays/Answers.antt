use Rattle.rx_serve.proofs.Lemmas.{second_version_stays}

pub returns : Rattle.rx_serve.proofs.laws.second_version_stays.Goals.returns
returns c = second_version_stays c.one_reading.ensures c.converts_to_itself.ensures
