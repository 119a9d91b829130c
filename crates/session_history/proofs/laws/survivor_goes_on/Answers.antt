use Rattle.session_history.proofs.Sessions.{serving_on}

pub returns : Rattle.session_history.proofs.laws.survivor_goes_on.Goals.returns
returns c = serving_on
