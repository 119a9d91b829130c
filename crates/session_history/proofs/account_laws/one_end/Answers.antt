use Rattle.session_history.proofs.Causes.{one_end}

pub returns : Rattle.session_history.proofs.account_laws.one_end.Goals.returns
returns c = one_end
