use Rattle.rx_serve.proofs.Lemmas.{good_input_is_taken}

pub returns : Rattle.rx_serve.proofs.laws.good_input_is_taken.Goals.returns
returns c = good_input_is_taken c.no_other_end.ensures
