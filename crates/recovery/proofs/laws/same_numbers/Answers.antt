use Rattle.recovery.proofs.WrittenOnce.{same_numbers}

pub returns : Rattle.recovery.proofs.laws.same_numbers.Goals.returns
returns c = same_numbers
