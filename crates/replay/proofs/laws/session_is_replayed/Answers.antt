use Rattle.replay.proofs.SessionLemmas.{session_is_replayed}

pub returns : Rattle.replay.proofs.laws.session_is_replayed.Goals.returns
returns c = session_is_replayed
