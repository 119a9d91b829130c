use Rattle.session_history.proofs.Endings.{broken_account}

pub returns : Rattle.session_history.proofs.laws.break_has_account.Goals.returns
returns c = broken_account
