use Rattle.replay.proofs.RecordLemmas.{only_faults}

pub returns : Rattle.replay.proofs.laws.only_faults.Goals.returns
returns c = only_faults
