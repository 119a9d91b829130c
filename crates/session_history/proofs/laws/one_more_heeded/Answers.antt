use Rattle.session_history.proofs.Heeding.{one_more_heeded}

pub returns : Rattle.session_history.proofs.laws.one_more_heeded.Goals.returns
returns c = one_more_heeded
