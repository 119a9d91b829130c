use Rattle.routes.proofs.EndLemmas.{sends_are_written}

pub returns : Rattle.routes.proofs.laws.sends_are_written.Goals.returns
returns c = sends_are_written
