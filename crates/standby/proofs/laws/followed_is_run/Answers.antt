use Rattle.standby.proofs.LawLemmas.{followed_is_run}

pub returns : Rattle.standby.proofs.laws.followed_is_run.Goals.returns
returns c = followed_is_run
