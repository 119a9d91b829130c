use Rattle.routes.proofs.WatchLemmas.{noted_tables}

pub returns : Rattle.routes.proofs.laws.noted_tables_are_told.Goals.returns
returns c = noted_tables
