use Rattle.rx_serve.proofs.EndsLemmas.{only_bad_words}

pub returns : Rattle.rx_serve.proofs.laws.only_bad_words_are_refused.Goals.returns
returns c = only_bad_words
