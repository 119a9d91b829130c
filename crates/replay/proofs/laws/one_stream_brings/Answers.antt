use Rattle.replay.proofs.SessionLemmas.{one_stream_brings}

pub returns : Rattle.replay.proofs.laws.one_stream_brings.Goals.returns
returns c = one_stream_brings
