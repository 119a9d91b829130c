use Rattle.routes.proofs.WatchLemmas.{tables_begin}

pub returns : Rattle.routes.proofs.laws.tables_begin_with_tries.Goals.returns
returns c = tables_begin
