use Rattle.routes.proofs.ConvertLemmas.{converts_to_itself}

pub returns : Rattle.routes.proofs.laws.converts_to_itself.Goals.returns
returns c = converts_to_itself
