use Rattle.rx_serve.proofs.Lemmas.{all_sends_are_given}

pub returns : Rattle.rx_serve.proofs.laws.all_sends_are_given.Goals.returns
returns c = all_sends_are_given c.sent_is_passed.ensures
