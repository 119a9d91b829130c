use Rattle.rx_serve.proofs.Lemmas.{all_sends_are_written}

pub returns : Rattle.rx_serve.proofs.laws.all_sends_are_written.Goals.returns
returns c = all_sends_are_written c.sends_are_written.ensures
