use Rattle.rx_serve.proofs.Lemmas.{no_serve_is_refused}

pub returns : Rattle.rx_serve.proofs.laws.no_serve_is_refused.Goals.returns
returns c = no_serve_is_refused
