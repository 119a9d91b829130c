use Rattle.routes.proofs.EndLemmas.{no_other_end}

pub returns : Rattle.routes.proofs.laws.no_other_end.Goals.returns
returns c = no_other_end
