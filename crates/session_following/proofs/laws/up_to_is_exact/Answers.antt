use Rattle.session_following.proofs.PlanLemmas.{up_to_is_exact}

pub returns : Rattle.session_following.proofs.laws.up_to_is_exact.Goals.returns
returns c = up_to_is_exact
