use Rattle.recovery.proofs.WrittenOnce.{one_ring}

pub returns : Rattle.recovery.proofs.laws.one_ring.Goals.returns
returns c = one_ring
