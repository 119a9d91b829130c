use Rattle.replay.proofs.RecordLemmas.{replay_gives_sends}

pub returns : Rattle.replay.proofs.laws.replay_gives_sends.Goals.returns
returns c = replay_gives_sends
