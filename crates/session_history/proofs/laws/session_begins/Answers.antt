use Rattle.session_history.proofs.Sessions.{serving_first}

pub returns : Rattle.session_history.proofs.laws.session_begins.Goals.returns
returns c = serving_first
