use Rattle.follow.proofs.Stamps.{stamps_are_safe}

pub returns : Rattle.follow.proofs.laws.stamps_are_safe.Goals.returns
returns c = stamps_are_safe
