use Rattle.session_history.proofs.Sessions.{serving_adopts}

pub returns : Rattle.session_history.proofs.laws.survivor_is_adopted.Goals.returns
returns c = serving_adopts
