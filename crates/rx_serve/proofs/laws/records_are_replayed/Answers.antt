use Rattle.rx_serve.proofs.Lemmas.{records_are_replayed}

pub returns : Rattle.rx_serve.proofs.laws.records_are_replayed.Goals.returns
returns c = records_are_replayed c.one_reading.ensures c.same_bytes_are_replayed.ensures
