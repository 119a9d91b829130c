use Rattle.session_history.proofs.Sent.{served_is_passed}

pub returns : Rattle.session_history.proofs.account_laws.served_is_passed.Goals.returns
returns c = served_is_passed
