use Rattle.recovery.proofs.WrittenOnce.{one_number}

pub returns : Rattle.recovery.proofs.laws.one_number.Goals.returns
returns c = one_number
