use Rattle.session_history.proofs.Sent.{sent_is_passed}

pub returns : Rattle.session_history.proofs.account_laws.sent_is_passed.Goals.returns
returns c = sent_is_passed
