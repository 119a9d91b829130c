use Rattle.session_history.proofs.Endings.{ending_account}

pub returns : Rattle.session_history.proofs.laws.end_has_account.Goals.returns
returns c = ending_account
