use Rattle.rx_serve.proofs.Lemmas.{good_clients_are_served}

pub returns : Rattle.rx_serve.proofs.laws.good_clients_are_served.Goals.returns
returns c = good_clients_are_served c.no_other_answer.ensures
