use Rattle.replay.proofs.RecordLemmas.{record_is_replayed}

pub returns : Rattle.replay.proofs.laws.record_is_replayed.Goals.returns
returns c = record_is_replayed
