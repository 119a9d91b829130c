use Rattle.session_following.proofs.Held.{sent_is_held}

pub returns : Rattle.session_following.proofs.laws.sent_is_held.Goals.returns
returns c = sent_is_held
