use Rattle.routes.proofs.SameBytes.{same_bytes}

pub returns : Rattle.routes.proofs.laws.same_bytes_are_replayed.Goals.returns
returns c = same_bytes
