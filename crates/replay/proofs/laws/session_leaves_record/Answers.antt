use Rattle.replay.proofs.RoomLemmas.{session_leaves_record}

pub returns : Rattle.replay.proofs.laws.session_leaves_record.Goals.returns
returns c = session_leaves_record
