use Rattle.rx_serve.proofs.Lemmas.{records_are_converted}

pub returns : Rattle.rx_serve.proofs.laws.records_are_converted.Goals.returns
returns c = records_are_converted c.one_reading.ensures c.session_is_converted.ensures
