use Rattle.session_history.proofs.Endings.{ending_none}

pub returns : Rattle.session_history.proofs.laws.session_ends.Goals.returns
returns c = ending_none
